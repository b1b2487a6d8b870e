use Rattle.std.proofs.Common.{◌≡◌, ◌∙◌, ℕ, List, sym, subst, arith}
use Rattle.engine_base.specs.Disk.{Follows, Told, LeavesOnly}
use Rattle.page_device.specs.Device.{MaySetPage}
use Rattle.doublewrite.specs.Steps.{CopyingHeaded, CopiesImage}
use Rattle.doublewrite.proofs.HomeLemmas.{of_ok}
use Rattle.doublewrite.proofs.RepairLemmas.{images_more, run_more, goes_one}
use Rattle.doublewrite.proofs.recovery.copy_images.Goals as goal

pub returns-then-is_err-clause-images : goal.returns-then-is_err-clause-images
returns-then-is_err-clause-images g c =
    let l = c.args.layout.now in
    let v = c.pages.invariant in
    let P : ℕ → Type 0 = λ n. Follows (MaySetPage l n) (g.D.Disk.state c.pages.disk).may_leave (g.D.Disk.state c.copy_image-result.new.disk).may_leave in
    images_more l c.args.header.now c.args.count v.0 v.1 c.pages.i (g.D.Disk.state c.args.disk.now) (g.D.Disk.state c.pages.disk) (g.D.Disk.state c.copy_image-result.new.disk) c.pages-test.true v.2 (subst P c.number.ensures c.copy_image-result.ensures.images)

pub returns-then-is_err-clause-any_moment : goal.returns-then-is_err-clause-any_moment
returns-then-is_err-clause-any_moment g c =
    let l = c.args.layout.now in
    let v = c.pages.invariant in
    let P : ℕ → Type 0 = λ n. Follows (MaySetPage l n) (g.D.Disk.state c.pages.disk).may_leave (g.D.Disk.state c.copy_image-result.new.disk).may_leave in
    let Q : ℕ → Type 0 = λ n. LeavesOnly (g.D.Disk.state c.pages.disk) (g.D.Disk.state c.copy_image-result.new.disk) (λ f. (d : List ℕ) × (g.D.Disk.state c.pages.disk).may_leave d × MaySetPage l n d f) in
    run_more l c.args.header.now c.args.count v.0 v.1 c.pages.i (g.D.Disk.state c.args.disk.now) (g.D.Disk.state c.pages.disk) (g.D.Disk.state c.copy_image-result.new.disk) c.pages-test.true v.2 (subst P c.number.ensures c.copy_image-result.ensures.images) (subst Q c.number.ensures c.copy_image-result.ensures.any_moment)

pub pages-preserved : goal.pages-preserved
pages-preserved g c =
    let l = c.args.layout.now in
    let v = c.pages.invariant in
    let P : ℕ → Type 0 = λ n. Follows (MaySetPage l n) (g.D.Disk.state c.pages.disk).may_leave (g.D.Disk.state c.copy_image-result.new.disk).may_leave in
    let Q : ℕ → Type 0 = λ n. LeavesOnly (g.D.Disk.state c.pages.disk) (g.D.Disk.state c.copy_image-result.new.disk) (λ f. (d : List ℕ) × (g.D.Disk.state c.pages.disk).may_leave d × MaySetPage l n d f) in
    let S : ℕ → Type 0 = λ n. Told (CopiesImage l n c.pages.i) (g.D.Disk.state c.pages.disk).seen (g.D.Disk.state c.copy_image-result.new.disk).seen in
    let sets = of_ok (S c.number.result) c.copy_image-result.result (sym c.is_err.ensures.value ∙ c.if-is_err.false) c.copy_image-result.ensures.sets in (
      v.0,
      v.1,
      goes_one l c.args.header.now c.args.count v.0 v.1 c.pages.i (g.D.Disk.state c.args.disk.now) (g.D.Disk.state c.pages.disk) (g.D.Disk.state c.copy_image-result.new.disk) c.pages-test.true v.2 (subst P c.number.ensures c.copy_image-result.ensures.images)
          c.copy_image-result.result c.copy_image-result.ensures.counts (subst Q c.number.ensures c.copy_image-result.ensures.any_moment) (subst S c.number.ensures sets),
    )

pub returns-clause-copies : goal.returns-clause-copies
returns-clause-copies g c =
    let v = c.pages.invariant.2 in
    let P : ℕ → Type 0 = λ n. Told (CopyingHeaded c.args.layout.now c.args.header.now c.args.count n) (g.D.Disk.state c.args.disk.now).seen (g.D.Disk.state c.pages.disk).seen in
    let all : c.pages.i ≡ c.args.count = omega (arith, v.most, c.pages-test.false) in
    subst P all v.told
