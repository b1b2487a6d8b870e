use Rattle.std.proofs.Common.{◌∙◌, ℕ, List, ◌<◌, ◌≡◌, sym, subst, arith}
use Rattle.engine_base.specs.Disk.{Follows, Told}
use Rattle.page_device.specs.Device.{SetsPage, MaySetPage}
use Rattle.doublewrite.specs.Batches.{batch_of, number_of, image_of}
use Rattle.doublewrite.specs.Steps.{Copying}
use Rattle.file_model.specs.Doublewrite.{numbers}
use Rattle.doublewrite.proofs.HomeLemmas.{goes_one, images_more, run_more, number_below, of_ok}
use Rattle.doublewrite.proofs.home.write_images.Goals as goal

pub write_image-result-requires-clause-below : goal.write_image-result-requires-clause-below
write_image-result-requires-clause-below g c =
    let low = number_below c.args.layout.now c.args.count c.args.buffer.now c.requires c.pages.i c.pages-test.true in
    subst (λ (n : ℕ). n < c.args.layout.now.pages) (sym c.number.ensures) low

pub returns-then-is_err-clause-images : goal.returns-then-is_err-clause-images
returns-then-is_err-clause-images g c =
    let P : ℕ → Type 0 = λ n. Follows (MaySetPage c.args.layout.now n) (g.D.Disk.state c.pages.disk).may_leave (g.D.Disk.state c.write_image-result.new.disk).may_leave in
    images_more c.args.layout.now c.args.count c.args.buffer.now c.pages.invariant.0 c.pages.i (g.D.Disk.state c.args.disk.now) (g.D.Disk.state c.pages.disk) (g.D.Disk.state c.write_image-result.new.disk) c.pages-test.true c.pages.invariant.1 (subst P c.number.ensures c.write_image-result.ensures.images)

pub returns-then-is_err-clause-any_moment : goal.returns-then-is_err-clause-any_moment
returns-then-is_err-clause-any_moment g c =
    let P : ℕ → Type 0 = λ n. Follows (MaySetPage c.args.layout.now n) (g.D.Disk.state c.pages.disk).may_leave (g.D.Disk.state c.write_image-result.new.disk).may_leave in
    run_more c.args.layout.now c.args.count c.args.buffer.now c.pages.invariant.0 c.pages.i (g.D.Disk.state c.args.disk.now) (g.D.Disk.state c.pages.disk) (g.D.Disk.state c.write_image-result.new.disk) c.pages-test.true c.pages.invariant.1 (subst P c.number.ensures c.write_image-result.ensures.images) c.write_image-result.ensures.goes_on.time

pub pages-preserved : goal.pages-preserved
pages-preserved g c =
    let P : ℕ → Type 0 = λ n. Follows (MaySetPage c.args.layout.now n) (g.D.Disk.state c.pages.disk).may_leave (g.D.Disk.state c.write_image-result.new.disk).may_leave in
    let S : ℕ → List ℕ → Type 0 = λ n bytes. Told (SetsPage c.args.layout.now n bytes) (g.D.Disk.state c.pages.disk).seen (g.D.Disk.state c.write_image-result.new.disk).seen in
    let sets : S c.number.result c.image.result.now = of_ok (S c.number.result c.image.result.now) c.write_image-result.result (sym c.is_err.ensures.value ∙ c.if-is_err.false) c.write_image-result.ensures.sets in
    let named : S (number_of c.args.buffer.now c.pages.i) c.image.result.now = let R : ℕ → Type 0 = λ n. S n c.image.result.now in subst R c.number.ensures sets in
    let told : S (number_of c.args.buffer.now c.pages.i) (image_of c.args.buffer.now c.pages.i) = let R : List ℕ → Type 0 = λ bytes. S (number_of c.args.buffer.now c.pages.i) bytes in subst R c.image.ensures.image named in (
      c.pages.invariant.0,
      goes_one c.args.layout.now c.args.count c.args.buffer.now c.pages.invariant.0 c.pages.i (g.D.Disk.state c.args.disk.now) (g.D.Disk.state c.pages.disk) (g.D.Disk.state c.write_image-result.new.disk) c.pages-test.true c.pages.invariant.1 (subst P c.number.ensures c.write_image-result.ensures.images) c.write_image-result.result c.write_image-result.ensures.goes_on told,
    )

pub returns-clause-copies : goal.returns-clause-copies
returns-clause-copies g c =
    let w = c.pages.invariant.1 in
    let P : ℕ → Type 0 = λ n. Told (Copying c.args.layout.now (numbers (batch_of c.args.count c.args.buffer.now)) (batch_of n c.args.buffer.now)) (g.D.Disk.state c.args.disk.now).seen (g.D.Disk.state c.pages.disk).seen in
    let all : c.pages.i ≡ c.args.count = omega (arith, w.most, c.pages-test.false) in
    subst P all w.told
