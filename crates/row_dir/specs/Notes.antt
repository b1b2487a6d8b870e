-- What a change of the directory in memory leaves.
--     NotesRow, ForgetsRow      a new document was noted; one was forgotten
--     FreesSlot, ForgetsPage      a page has a free slot more; it is no row page any more
use Rattle.std.specs.Prelude.{◌≡◌, ℕ, ◌≤◌, nat_eq, cond, List, [], ◌∷◌, ◌++◌, length, Some, None}
use Rattle.indexmap.specs.IndexMap.{get, keys, insert_entry, shift_remove_entry, IsUnique}
use Rattle.engine_base.specs.declared.addr.Addr.{Addr}
use Rattle.engine_base.specs.declared.ids.DocId.{DocId}
use Rattle.row_dir.specs.declared.dir.RowDir.{RowDir}
use Rattle.row_dir.specs.Directory.{numbers}

pub record NotesRow (doc : DocId) (place : Addr) (free first : ℕ) (old new : RowDir) : Type 0 where
  pub finds : (d : ℕ) → get nat_eq new.places d
      ≡ cond (nat_eq doc.0 d) (Some place) (get nat_eq old.places d)
  pub keys : keys new.places ≡ keys old.places ++ doc.0 ∷ []
  pub once : IsUnique nat_eq new.places
  pub docs : new.docs.items ≡ old.docs.items ++ doc ∷ []
  pub pages : new.pages.entries ≡ insert_entry nat_eq old.pages.entries place.page.0 free
  pub rooms : (n : ℕ) → get nat_eq new.pages n
      ≡ cond (nat_eq place.page.0 n) (Some free) (get nat_eq old.pages n)
  pub each_once : IsUnique nat_eq new.pages
  pub full : new.full ≡ first

pub record ForgetsRow (doc : DocId) (old new : RowDir) : Type 0 where
  pub finds : (d : ℕ) → get nat_eq new.places d
      ≡ cond (nat_eq doc.0 d) None (get nat_eq old.places d)
  pub docs : numbers old.docs.items ≡ keys old.places → numbers new.docs.items ≡ keys new.places
  pub once : IsUnique nat_eq new.places
  pub pages : new.pages.entries ≡ old.pages.entries
  pub full : new.full ≡ old.full

-- the first pages that are known to be full are no more than before, and none behind the page
pub record FreesSlot (page free : ℕ) (old new : RowDir) : Type 0 where
  pub pages : new.pages.entries ≡ insert_entry nat_eq old.pages.entries page free
  pub rooms : (n : ℕ) → get nat_eq new.pages n
      ≡ cond (nat_eq page n) (Some free) (get nat_eq old.pages n)
  pub each_once : IsUnique nat_eq new.pages
  pub low : new.full ≤ old.full
  pub first : (before behind : List (ℕ × ℕ)) (f : ℕ)
      → old.pages.entries ≡ before ++ (page, f) ∷ behind → new.full ≤ length before
  pub places : new.places.entries ≡ old.places.entries
  pub docs : new.docs.items ≡ old.docs.items

pub record ForgetsPage (page : ℕ) (old new : RowDir) : Type 0 where
  pub pages : new.pages.entries ≡ shift_remove_entry (nat_eq page) old.pages.entries
  pub rooms : (n : ℕ) → get nat_eq new.pages n
      ≡ cond (nat_eq page n) None (get nat_eq old.pages n)
  pub each_once : IsUnique nat_eq new.pages
  pub low : new.full ≤ old.full
  pub first : (before behind : List (ℕ × ℕ)) (f : ℕ)
      → old.pages.entries ≡ before ++ (page, f) ∷ behind → new.full ≤ length before
  pub places : new.places.entries ≡ old.places.entries
  pub docs : new.docs.items ≡ old.docs.items
