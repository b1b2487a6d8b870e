-- The pages that an event names: those of a LOB and a log, and page 0.
use Rattle.std.proofs.Common.{ℕ, ◌+◌, ◌≤◌, List, [], ◌∷◌}
use Rattle.page_model.specs.Steps.{PageState, IsWithin, MayUse, Uses}
use Rattle.page_model.proofs.StepLemmas.{may_name, may_within, within_both, within_one, within_right}

pub zero_in : (page log : ℕ) → IsWithin (0 ∷ []) (page ∷ log ∷ 0 ∷ [])
zero_in page log n is = within_right (page ∷ log ∷ []) (0 ∷ []) n is

pub both_in : (page log : ℕ) → IsWithin (log ∷ 0 ∷ []) (page ∷ log ∷ 0 ∷ [])
both_in page log n is = within_right (page ∷ []) (log ∷ 0 ∷ []) n is

pub part_in : (page log : ℕ) → IsWithin (0 ∷ page ∷ []) (page ∷ log ∷ 0 ∷ [])
part_in page log = within_both (0 ∷ []) (page ∷ []) (page ∷ log ∷ 0 ∷ []) (zero_in page log)
    (within_one page (log ∷ 0 ∷ []))

-- a page that the inner call names counts as another
pub may_named : {T : Type 0} {state : T → PageState} {stays : T → T → Type 0} (q : ℕ) (ns n : List ℕ)
    (most bytes k b k' b' : ℕ) (s t : T) → IsWithin n ns → k + (k' + 1) ≤ most → b + b' ≤ bytes
    → MayUse ns most bytes (state s) → Uses state stays ns k b s t
    → MayUse (q ∷ n) k' b' (state t)
may_named {state = state} q ns n most bytes k b k' b' s t within few short may so_far =
    may_name q n k' b' (state t) (may_within ns n most bytes k b (k' + 1) b' s t within few short may so_far)
