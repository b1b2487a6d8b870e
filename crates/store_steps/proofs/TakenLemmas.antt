-- Owned pages of a store in pages: each once; and those that it takes are different ones that it
-- didn't own.
use Rattle.std.proofs.Common.{◌≡◌, ℕ, ◌≤◌, List, [], ◌∷◌, arith}
use Rattle.page_model.specs.Pages.{Pages}
use Rattle.page_model.specs.Counts.{times}
use Rattle.page_model.proofs.CountLemmas.{times_here}
use Rattle.store_data.specs.Store.{Store}
use Rattle.store_model.specs.Held.{HasLobs}
use Rattle.store_model.specs.Owned.{owned, AreDifferent, AreSound}
use Rattle.store_model.specs.Takes.{Takes, AreUnowned}
use Rattle.store_model.proofs.CountLemmas.{none_times, different_once, once_different}
use Rattle.store_parts.specs.Shows.{IsStore}
use Rattle.store_parts.proofs.CountLemmas.{mark_small}
use Rattle.store_pages.proofs.MarkLemmas.{marks_owned}

-- the map marks each owned page once
pub sound_at : (new : Pages) (store : Store) → IsStore new store → HasLobs store → AreSound store
sound_at new store is has = once_different (owned store)
    (λ n. let e = marks_owned new store is has n in let k = mark_small new n in omega (arith, e, k))

unowned_in : (store : Store) (ns : List ℕ)
    → ((n : ℕ) → 1 ≤ times n ns → times n (owned store) ≡ 0) → AreUnowned ns store
unowned_in store [] none = tt
unowned_in store (m ∷ ms) none = (
  none_times m (owned store) (none m (times_here m ms)),
  unowned_in store ms (λ n some. none n (omega (arith, some))),
)

pub taken_apart : (ns : List ℕ) (old new : Store) → AreSound new → Takes ns old new
    → AreDifferent ns × AreUnowned ns old
taken_apart ns old new sound takes = (
  once_different ns (λ n. let t = takes n in let o = different_once n (owned new) sound in
      omega (arith, t, o)),
  unowned_in old ns (λ n some. let t = takes n in let o = different_once n (owned new) sound in
      omega (arith, t, o, some)),
)
