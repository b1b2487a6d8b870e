-- What the calls within an event may use, and what they used.
use Rattle.std.proofs.Common.{ℕ, ◌+◌, ◌≤◌, [], ◌∷◌, Option, Result, Ok, Err, OnOk, lit≤}
use Rattle.page_model.specs.Pages.{Pages}
use Rattle.page_model.specs.Steps.{PageState, MayUse, Uses, Becomes}
use Rattle.engine_base.specs.declared.fault.Fault.{Fault}
use Rattle.page_model.proofs.StepLemmas.{may_within, uses_more, uses_within, within_two}

-- ---- what is left of a LOB is read, and then a part goes

pub may_part : {T : Type 0} {state : T → PageState} {stays : T → T → Type 0} (page k b : ℕ) (s t : T)
    → 0 + k ≤ 3 → 0 + b ≤ 129 → MayUse (0 ∷ page ∷ []) 3 129 (state s)
    → Uses state stays (page ∷ []) 0 0 s t → MayUse (0 ∷ page ∷ []) k b (state t)
may_part page k b s t few short may first =
    let ns = 0 ∷ page ∷ [] in
    may_within ns ns 3 129 0 0 k b s t (λ n is. is) few short may
    (uses_more (page ∷ []) ns 0 0 0 0 s t first (within_two 0 page []) (lit≤ tt) (lit≤ tt))

pub used_part : {T : Type 0} {state : T → PageState} {stays : T → T → Type 0}
    (add : (a b c : T) → stays a b → stays b c → stays a c) (page k b : ℕ) (s t u : T)
    → 0 + k ≤ 3 → 0 + b ≤ 129 → Uses state stays (page ∷ []) 0 0 s t
    → Uses state stays (0 ∷ page ∷ []) k b t u → Uses state stays (0 ∷ page ∷ []) 3 129 s u
used_part add page k b s t u few short first second =
    let ns = 0 ∷ page ∷ [] in
    uses_more ns ns (0 + k) 3 (0 + b) 129 s u
    (uses_within add ns ns 0 0 k b s t u (λ n is. is)
    (uses_more (page ∷ []) ns 0 0 0 0 s t first (within_two 0 page []) (lit≤ tt) (lit≤ tt)) second)
    (λ n is. is) few short

-- ---- answers

-- what holds of the pages behind a call, and what follows from it
pub on_told : {T : Type 0} (r : Result T Fault) (told : Option Pages) (P Q : Pages → Type 0)
    → ((new : Pages) → P new → Q new) → OnOk r (Becomes told P) → OnOk r (Becomes told Q)
on_told (Ok x) told P Q so is = (is.0, is.1, so is.0 is.2)
on_told (Err e) told P Q so is = tt
