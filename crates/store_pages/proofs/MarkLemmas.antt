-- The map marks the pages that a store owns.
use Rattle.std.proofs.Common.{◌≡◌, ℕ, arith}
use Rattle.page_model.specs.Pages.{Pages}
use Rattle.page_model.specs.Counts.{times}
use Rattle.store_data.specs.Store.{Store}
use Rattle.store_model.specs.Owned.{owned}
use Rattle.store_model.specs.Held.{HasLobs}
use Rattle.store_parts.specs.Standing.{mark}
use Rattle.store_parts.specs.Shows.{IsStore}
use Rattle.store_parts.proofs.CountLemmas.{mark_small}
use Rattle.store_pages.proofs.OwnedLemmas.{held_owned}

pub marks_owned : (pages : Pages) (store : Store) → IsStore pages store → HasLobs store → (n : ℕ) → times n (owned store) ≡ mark pages n
marks_owned pages store is has n =
    let h = held_owned is.stored store n is.shows has (λ m. let a = is.standing.marks m in let b = mark_small pages m in omega (arith, a, b)) in
    let a = is.standing.marks n in
    omega (arith, h, a)
