-- The LOBs of a store are those that it owns.
--     HasLobs store      each first page is owned as often as a LOB begins there
use Rattle.std.specs.Prelude.{◌≡◌, ℕ, List, [], ◌∷◌}
use Rattle.page_model.specs.Counts.{times}
use Rattle.store_data.specs.Store.{Lob, Store}
use Rattle.store_model.specs.Owned.{owned_lobs}

abbrev pub first_pages : List Lob → List ℕ
first_pages [] = []
first_pages (l ∷ ls) = l.page ∷ first_pages ls

abbrev pub HasLobs : Store → Type 0
HasLobs store = (n : ℕ) → times n (owned_lobs store) ≡ times n (first_pages store.lobs)
