use Rattle.std.proofs.Common.{◌≡◌, ◌+◌, ◌-◌, ◌≤◌, ℕ, [], ◌∷◌, map, Option, IfOk, IfSome, subst, lit≤, arith}
use Rattle.page_model.proofs.StepLemmas.{uses_more, uses_unnamed, within_nil}
use Rattle.lob_model.specs.Pieces.{head_place}
use Rattle.lob_index.specs.Heads.{nth}
use Rattle.file_lists.specs.Links.{link_of}
use Rattle.store_steps.specs.declared.reached.Reached.{Reached}
use Rattle.store_steps.specs.Reached.{IsHeadAt}
use Rattle.store_steps.proofs.reached.walk.Goals as goal

pub returns-in-Some-clause-value : goal.returns-in-Some-clause-value
returns-in-Some-clause-value g c = λ pages l told same is head.
    let d = c.in-Some.r in
    let k = c.args.k in
    let low = subst (λ (o : Option Reached). IfSome o (λ e. e.piece ≤ k)) c.in-Some.is
    c.requires.behind in
    let here = subst (λ (o : Option Reached). IsHeadAt o l) c.in-Some.is head in
    let e : d.piece + (k - d.piece) ≡ k = omega (arith, low) in
    subst (λ (n : ℕ). IfOk c.head_after.result (λ link. link_of link ≡ nth n (map head_place l.pieces)))
    e (c.head_after.ensures.value pages l told is here)

pub returns-in-Some-clause-uses : goal.returns-in-Some-clause-uses
returns-in-Some-clause-uses g c =
    let first = c.args.first.0 in
    uses_more [] (first ∷ []) 5 5 0 0 _ _
    (uses_unnamed c.in-Some.r.head.page.0 [] 4 0 _ _ c.head_after.ensures.uses)
    (within_nil (first ∷ [])) (lit≤ tt) (lit≤ tt)
