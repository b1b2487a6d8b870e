use Rattle.std.proofs.Common.{◌≡◌, ◌<◌, ◌^◌, ℕ, List, [], ◌∷◌, ◌++◌, length, ap, ap₂, sym, ◌∙◌, subst, arith}
use Rattle.file_model.specs.declared.layout.Layout.{Layout}
use Rattle.file_model.specs.Doublewrite.{Batch}
use Rattle.doublewrite.specs.Batches.{BatchState}
use Rattle.doublewrite.proofs.AreaLemmas.{batch_more, keeps_more, length-batch}
use Rattle.doublewrite.proofs.batch.Filling.add.Goals as goal

pub invariant_of-self : goal.invariant_of-self
invariant_of-self c =
    let inside = c.self.inside in
    let few : inside.count < 32 = omega (arith, c.requires.few, length-batch inside.count inside.buffer.items, ap (λ (s : BatchState). length s.batch) c.self.view_is) in
    let below : c.args.page.0 < inside.layout.pages = let P : Layout → Type 0 = λ l. c.args.page.0 < l.pages in subst P (sym (ap (λ (s : BatchState). s.layout) c.self.view_is)) c.requires.below in
    let small : c.args.page.0 < 2 ^ 32 = omega (arith, below, c.self.invariant.0.limits.max_pages) in (
      keeps_more inside.count c.args.page.0 inside.buffer.items c.bytes.result.now c.append.new.buffer.items few c.self.invariant.0.size c.bytes.ensures.len small c.append.ensures.items inside.layout c.self.invariant.0 below,
      c.append.ensures.capacity,
    )

pub returns : goal.returns
returns c =
    let inside = c.self.inside in
    let few : inside.count < 32 = omega (arith, c.requires.few, length-batch inside.count inside.buffer.items, ap (λ (s : BatchState). length s.batch) c.self.view_is) in
    let below : c.args.page.0 < inside.layout.pages = let P : Layout → Type 0 = λ l. c.args.page.0 < l.pages in subst P (sym (ap (λ (s : BatchState). s.layout) c.self.view_is)) c.requires.below in
    let small : c.args.page.0 < 2 ^ 32 = omega (arith, below, c.self.invariant.0.limits.max_pages) in
    let more = batch_more inside.count c.args.page.0 inside.buffer.items c.bytes.result.now c.append.new.buffer.items few c.self.invariant.0.size c.bytes.ensures.len small c.append.ensures.items in
    state_is (ap (λ (s : BatchState). s.layout) c.self.view_is)
    (more ∙ ap₂ (λ (b : Batch) (xs : List ℕ). b ++ (c.args.page.0, xs) ∷ []) (ap (λ (s : BatchState). s.batch) c.self.view_is) c.bytes.ensures.value)
  where
    state_is : {l m : Layout} {a b : Batch} → l ≡ m → a ≡ b → (let s : BatchState = record { layout = l; batch = a } in s) ≡ (let s : BatchState = record { layout = m; batch = b } in s)
    state_is e f = ap₂ (λ (x : Layout) (y : Batch). (let s : BatchState = record { layout = x; batch = y } in s)) e f
