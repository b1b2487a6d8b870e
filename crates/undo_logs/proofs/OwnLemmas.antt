-- Writes within a log's own pages keep the rest of a store.
use Rattle.std.proofs.Common.{◌≡◌, inl, inr, ℕ, ◌≤◌, ◌==◌, Bool, true, false, List, [], ◌∷◌, ap, subst, arith, lit≤}
use Rattle.std.proofs.lemmas.Bool.{cases_eq, ne_eqb}
use Rattle.page_model.specs.Pages.{Pages}
use Rattle.page_model.specs.Spans.{Span, AreApart, SameOutside}
use Rattle.page_model.specs.Counts.{one_if, times}
use Rattle.undo_model.specs.Data.{Log}
use Rattle.undo_model.specs.Logs.{IsLog}
use Rattle.undo_model.specs.LogLists.{pages_in}
use Rattle.store_parts.specs.Standing.{AreOn}
use Rattle.store_parts.specs.Keeps.{Keeps, IsWithin, first_nodes}
use Rattle.store_parts.proofs.CountLemmas.{first_on}
use Rattle.store_parts.proofs.KeepLemmas.{keeps_write}

-- a log's first page is one of its pages
pub within_first : (first : ℕ) (own : List ℕ) → 1 ≤ times first own → IsWithin (first ∷ []) own
within_first first own here n = elim (cases_eq first n) [
  | inl same ↦ subst (λ k. times k (first ∷ []) ≤ times k own) same (let h = one_most (first == first) in omega (arith, here, h))
  | inr other ↦ (let z : one_if (first == n) ≡ 0 = ap one_if (ne_eqb first n other) in omega (arith, z))
]
  where
    one_most : (b : Bool) → one_if b ≤ 1
    one_most true = lit≤ tt
    one_most false = lit≤ tt

-- what is written beside the node of the first page
pub writes_keep : (l : Log) (spans : List Span) (old new : Pages) → IsLog old l → AreApart spans (first_nodes (l.page ∷ [])) → AreOn (pages_in l.parts) spans → SameOutside spans old new
    → Keeps (l.page ∷ []) (pages_in l.parts) (pages_in l.parts) old new
writes_keep l spans old new log apart on same = keeps_write (l.page ∷ []) (pages_in l.parts) spans old new (within_first l.page (pages_in l.parts) (first_on old l.page l.parts log.parts)) apart same on
