-- What loading a row page needs and leaves.
--     HasPageRoom      there is room for as many rows as a page has
--     Holds dir es      the documents of the directory are these, each with its place
--     EntersRow      a document more was entered, with its place
--     SamePages      the row pages with their free slots are as before
--     IsNext      this row page stands, and neither it nor a document of it is among those before
--     EntersOnly      only rows of that page were entered
--     IsOddField      a fault names a field of the page, with what stands there
--     FailsBare, HasDirCause, IsHonestly      of the errors
use Rattle.std.specs.Prelude.{◌≡◌, ◌⊎◌, ℕ, ◌+◌, ◌≤◌, nat_eq, cond, List, [], ◌∷◌, ◌++◌, Option, Some, None, IfSome, Result, Ok, Err, ⊤, vec_len, vec_capacity}
use Rattle.std.specs.Option.{option_map}
use Rattle.std.specs.Map.{lookup}
use Rattle.indexmap.specs.IndexMap.{get, keys, spare, IsUnique}
use Rattle.page_model.specs.Pages.{Pages, Address, field}
use Rattle.engine_base.specs.Addresses.{address_of}
use Rattle.engine_base.specs.Faults.{Oddity, IsHonest, Rose}
use Rattle.engine_base.specs.declared.addr.Addr.{Addr}
use Rattle.engine_base.specs.declared.ids.DocId.{DocId}
use Rattle.engine_base.specs.declared.fault.Fault.TheVariants.{Device}
use Rattle.undo_model.specs.Rows.{Keyed, RowPage, IsRowPage, AreOnce, rows_of, first_slot}
use Rattle.row_dir.specs.declared.error.DirError.{DirError}
use Rattle.row_dir.specs.declared.error.DirError.TheVariants.{Fault as Failed, Memory}
use Rattle.row_dir.specs.declared.dir.RowDir.{RowDir}
use Rattle.row_dir.specs.Directory.{rooms_of, places_in, place_for, numbers}

pub record HasPageRoom (dir : RowDir) (n : ℕ) : Type 0 where
  pub places : n ≤ spare dir.places
  pub docs : vec_len dir.docs + n ≤ vec_capacity dir.docs

pub record Holds (dir : RowDir) (es : List (ℕ × Address)) : Type 0 where
  pub finds : (doc : ℕ) → option_map address_of (get nat_eq dir.places doc) ≡ place_for doc es
  pub docs : numbers dir.docs.items ≡ keys dir.places
  pub once : IsUnique nat_eq dir.places

pub record EntersRow (doc : DocId) (place : Addr) (old new : RowDir) : Type 0 where
  pub finds : (d : ℕ) → get nat_eq new.places d
      ≡ cond (nat_eq doc.0 d) (Some place) (get nat_eq old.places d)
  pub keys : keys new.places ≡ keys old.places ++ doc.0 ∷ []
  pub once : IsUnique nat_eq new.places
  pub docs : new.docs.items ≡ old.docs.items ++ doc ∷ []
  pub room : (n : ℕ) → HasPageRoom old (n + 1) → HasPageRoom new n
  pub pages : new.pages ≡ old.pages
  pub full : new.full ≡ old.full

pub record SamePages (old new : RowDir) : Type 0 where
  pub pages : new.pages ≡ old.pages
  pub full : new.full ≡ old.full

pub record IsNext (pages : Pages) (rows : List RowPage) (page : RowPage) : Type 0 where
  pub stands : IsRowPage pages page
  pub other : lookup (nat_eq page.page) (rooms_of rows) ≡ None
  pub once : AreOnce (rows_of (rows ++ page ∷ []))

pub record EntersOnly (page : ℕ) (old new : RowDir) : Type 0 where
  pub places : (doc : ℕ) → (get nat_eq new.places doc ≡ get nat_eq old.places doc)
      ⊎ IfSome (get nat_eq new.places doc) (λ a. a.page.0 ≡ page)

-- each slot's document isn't among these, nor in a slot before it
abbrev pub AreNew : ℕ → List (ℕ × Address) → List (Option Keyed) → Type 0
AreNew page es slots = (before behind : List (Option Keyed)) (k : Keyed)
    → slots ≡ before ++ Some k ∷ behind
    → place_for k.doc (es ++ places_in page first_slot before) ≡ None

pub record NamesField (told : Option Pages) (page named at value : ℕ) : Type 0 where
  pub same : named ≡ page
  pub width : ℕ
  pub reads : IfSome told (λ pages. value ≡ field pages page at width)

abbrev pub IsOddField : Option Pages → ℕ → Oddity
IsOddField told page named at value = NamesField told page named at value

abbrev pub FailsBare : {T : Type 0} → Result T DirError → Type 0
FailsBare (Ok x) = ⊤
FailsBare (Err Memory) = ⊤
FailsBare (Err (Failed fault)) = fault ≡ Device

abbrev pub IsHonestly : {T : Type 0} → Oddity → Result T DirError → Type 0
IsHonestly odd (Ok x) = ⊤
IsHonestly odd (Err Memory) = ⊤
IsHonestly odd (Err (Failed fault)) = IsHonest odd fault

-- the count never falls, and `Device` is told only where it rose
pub record HasDirCause {T : Type 0} (before now : ℕ) (result : Result T DirError) : Type 0 where
  pub later : before ≤ now
  pub device : result ≡ Err (Failed Device) → Rose before now
