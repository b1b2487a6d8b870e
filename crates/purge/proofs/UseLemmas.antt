-- What the calls within an event may use, and what they used.
use Rattle.std.proofs.Common.{ℕ, ◌+◌, ◌≤◌, List, [], ◌∷◌}
use Rattle.page_model.specs.Steps.{PageState, IsWithin, MayUse, Uses}
use Rattle.page_model.proofs.StepLemmas.{may_name, may_within, uses_more, within_both, within_one, within_right, within_two}

-- ---- events of several calls, of which each touches named pages and some others

pub may_on : {T : Type 0} {state : T → PageState} {stays : T → T → Type 0} (ns n : List ℕ)
    (most bytes k b k' b' : ℕ) (s t : T) → IsWithin n ns → k + k' ≤ most → b + b' ≤ bytes
    → MayUse ns most bytes (state s) → Uses state stays ns k b s t → MayUse n k' b' (state t)
may_on ns n most bytes k b k' b' s t within few short may so_far =
    may_within ns n most bytes k b k' b' s t within few short may so_far

-- a page that the inner call names counts as another
pub may_named : {T : Type 0} {state : T → PageState} {stays : T → T → Type 0} (q : ℕ) (ns n : List ℕ)
    (most bytes k b k' b' : ℕ) (s t : T) → IsWithin n ns → k + (k' + 1) ≤ most → b + b' ≤ bytes
    → MayUse ns most bytes (state s) → Uses state stays ns k b s t
    → MayUse (q ∷ n) k' b' (state t)
may_named {state = state} q ns n most bytes k b k' b' s t within few short may so_far =
    may_name q n k' b' (state t) (may_within ns n most bytes k b (k' + 1) b' s t within few short may so_far)

-- ---- the LOB before, the log and page 0

pub zero_in : (page log : ℕ) → IsWithin (0 ∷ []) (page ∷ log ∷ 0 ∷ [])
zero_in page log n is = within_right (page ∷ log ∷ []) (0 ∷ []) n is

pub log_in : (page log : ℕ) → IsWithin (log ∷ []) (page ∷ log ∷ 0 ∷ [])
log_in page log = within_two page log (0 ∷ [])

pub part_in : (page log : ℕ) → IsWithin (0 ∷ page ∷ []) (page ∷ log ∷ 0 ∷ [])
part_in page log = within_both (0 ∷ []) (page ∷ []) (page ∷ log ∷ 0 ∷ []) (zero_in page log)
    (within_one page (log ∷ 0 ∷ []))

pub part_used : {T : Type 0} {state : T → PageState} {stays : T → T → Type 0} (page log k b : ℕ)
    (s t : T) → 3 ≤ k → 129 ≤ b → Uses state stays (0 ∷ page ∷ []) 3 129 s t
    → Uses state stays (page ∷ log ∷ 0 ∷ []) k b s t
part_used page log k b s t few short uses =
    uses_more (0 ∷ page ∷ []) (page ∷ log ∷ 0 ∷ []) 3 k 129 b s t uses (part_in page log) few short
