-- What a directory says of the rows in row pages.
--     free_in, rooms_of      how many slots of a page are free; each page with this, in the order
--         of their list
--     places_of, place_for      each document with the place of its slot; that of one document
--     AreFull      no slot of these pages is free
--     IsDirectory dir rows      the directory is that of these row pages
--     IsBelow count dir      all that it names lies below so many pages
--     HasRoom, IsReady      there is room for one document more; where it is a new one
use Rattle.std.specs.Prelude.{◌≡◌, ℕ, ◌+◌, ◌==◌, ◌<◌, ◌≤◌, nat_eq, List, [], ◌∷◌, ◌++◌, length, take, map, Option, Some, None, IfSome, vec_len, vec_capacity}
use Rattle.std.specs.Option.{option_map}
use Rattle.std.specs.Map.{lookup}
use Rattle.indexmap.specs.IndexMap.{get, keys, spare, IsUnique}
use Rattle.page_model.specs.Pages.{Pages, Address}
use Rattle.engine_base.specs.Addresses.{address_of}
use Rattle.engine_base.specs.declared.addr.Addr.{Addr}
use Rattle.engine_base.specs.declared.ids.DocId.{DocId}
use Rattle.undo_model.specs.Rows.{Keyed, RowPage, first_slot, slot_size, max_slots}
use Rattle.row_dir.specs.Slots.{FitsSlot, IsOddRow}
use Rattle.row_dir.specs.declared.dir.RowDir.{RowDir}

abbrev pub free_in : List (Option Keyed) → ℕ
free_in [] = 0
free_in (None ∷ more) = 1 + free_in more
free_in (Some k ∷ more) = free_in more

abbrev pub rooms_of : List RowPage → List (ℕ × ℕ)
rooms_of [] = []
rooms_of (p ∷ more) = (p.page, free_in p.slots) ∷ rooms_of more

-- the documents in slots from that place on, each with its slot's place
abbrev pub places_in : ℕ → ℕ → List (Option Keyed) → List (ℕ × Address)
places_in page at [] = []
places_in page at (None ∷ more) = places_in page (at + slot_size) more
places_in page at (Some k ∷ more) =
    (k.doc, record { page = page; at = at }) ∷ places_in page (at + slot_size) more

abbrev pub places_of : List RowPage → List (ℕ × Address)
places_of [] = []
places_of (p ∷ more) = places_in p.page first_slot p.slots ++ places_of more

abbrev pub place_for : ℕ → List (ℕ × Address) → Option Address
place_for doc es = lookup (λ n. n == doc) es

abbrev pub AreFull : List (ℕ × ℕ) → Type 0
AreFull [] = Unit {0}
AreFull (room ∷ more) = (room.1 ≡ 0) × AreFull more

-- the page behind so many full ones, of which so many slots are free
pub record IsFirstOpen (rooms : List (ℕ × ℕ)) (index page free : ℕ) : Type 0 where
  pub before : List (ℕ × ℕ)
  pub behind : List (ℕ × ℕ)
  pub split : rooms ≡ before ++ (page, free) ∷ behind
  pub many : length before ≡ index
  pub full : AreFull before
  pub some : 1 ≤ free

abbrev pub numbers : List DocId → List ℕ
numbers = map (λ (d : DocId). d.0)

pub record IsDirectory (dir : RowDir) (rows : List RowPage) : Type 0 where
  pub finds : (doc : ℕ) → option_map address_of (get nat_eq dir.places doc)
      ≡ place_for doc (places_of rows)
  pub rooms : dir.pages.entries ≡ rooms_of rows
  -- of the first pages no slot is free
  pub full : AreFull (take dir.full dir.pages.entries)
  pub docs : numbers dir.docs.items ≡ keys dir.places
  pub once : IsUnique nat_eq dir.places
  pub each_once : IsUnique nat_eq dir.pages

pub record IsBelow (count : ℕ) (dir : RowDir) : Type 0 where
  pub places : (doc : ℕ)
      → IfSome (get nat_eq dir.places doc) (λ a. FitsSlot count (address_of a))
  pub pages : (n : ℕ) → IfSome (get nat_eq dir.pages n) (λ f. (n < count) × (f < max_slots))

pub record HasRoom (dir : RowDir) : Type 0 where
  pub places : 1 ≤ spare dir.places
  pub pages : 1 ≤ spare dir.pages
  pub docs : vec_len dir.docs < vec_capacity dir.docs

-- nothing changed but how much room there is
pub record SameDirectory (old new : RowDir) : Type 0 where
  pub places : new.places.entries ≡ old.places.entries
  pub pages : new.pages.entries ≡ old.pages.entries
  pub docs : new.docs.items ≡ old.docs.items
  pub full : new.full ≡ old.full

-- a fault names the slot that the directory has for the document, where no row of it stands
pub record IsNotIn (dir : RowDir) (told : Option Pages) (doc page at value : ℕ) : Type 0 where
  pub place : Addr
  pub has : get nat_eq dir.places doc ≡ Some place
  pub odd : IsOddRow told (address_of place) doc page at value
