-- What a fault of the calls that change rows may name.
--     IsNoSlot      the count of a row page, none of whose slots is free
--     IsOddOpen, IsOddDrop      what taking a row page and giving one back may name: as it stood at
--         the call or, behind the first write, as the call read it then
--     IsOddPut, IsOddRemove      what putting and removing a document's row may name
use Rattle.std.specs.Prelude.{◌≡◌, ◌≢◌, ◌⊎◌, ℕ, ◌+◌, ◌*◌, ◌<◌, ◌≤◌, nat_eq, Option, Some, None, IfSome}
use Rattle.indexmap.specs.IndexMap.{get}
use Rattle.page_model.specs.Pages.{Pages, field}
use Rattle.page_model.specs.Steps.{PageState}
use Rattle.engine_base.specs.Faults.{Oddity}
use Rattle.engine_base.specs.declared.addr.Addr.{Addr}
use Rattle.file_lists.specs.Strange.{IsOddAtBack, IsOddAround}
use Rattle.page_space.specs.Answers.{IsSpentOrOdd, IsRaisedOrNotUsed}
use Rattle.undo_model.specs.Logs.{node_of}
use Rattle.undo_model.specs.Rows.{row_base, first_slot, slot_size, max_slots}
use Rattle.lob_index.specs.Meanwhile.{IsMeanwhile}
use Rattle.row_dir.specs.declared.dir.RowDir.{RowDir}
use Rattle.row_dir.specs.declared.layout.TheConstants.{COUNT}

pub record IsNoSlot (told : Option Pages) (n page at value : ℕ) : Type 0 where
  pub same_page : page ≡ n
  pub same_place : at ≡ COUNT
  pub reads : IfSome told (λ pages. value ≡ field pages n COUNT 2)
  pub none : IfSome told (λ pages. (k : ℕ) → k < max_slots
      → field pages n (first_slot + slot_size * k) 1 ≢ 0)

abbrev pub IsOddOpen : PageState → Oddity
IsOddOpen s page at value =
    IsSpentOrOdd s.told s.count page at value
    ⊎ IsMeanwhile (λ t. IsOddAtBack t row_base) s page at value

abbrev pub IsOddDrop : ℕ → PageState → Oddity
IsOddDrop n s page at value =
    IsOddAround s row_base (node_of n) page at value
    ⊎ IsMeanwhile (λ t. IsRaisedOrNotUsed t.told t.count n) s page at value

-- the directory has free slots on the page
pub record IsOddFill (dir : RowDir) (told : Option Pages) (page at value : ℕ) : Type 0 where
  pub free : ℕ
  pub has : get nat_eq dir.pages page ≡ Some free
  pub some : 1 ≤ free
  pub odd : IsNoSlot told page page at value

-- of a new document alone
pub record IsOddPut (dir : RowDir) (doc : ℕ) (s : PageState) (page at value : ℕ) : Type 0 where
  pub absent : get nat_eq dir.places doc ≡ None
  pub odd : IsOddFill dir s.told page at value ⊎ IsOddOpen s page at value

-- of a document whose page has no other row
pub record IsOddRemove (dir : RowDir) (doc : ℕ) (s : PageState) (page at value : ℕ) : Type 0 where
  pub place : Addr
  pub has : get nat_eq dir.places doc ≡ Some place
  pub free : ℕ
  pub room : get nat_eq dir.pages place.page.0 ≡ Some free
  pub alone : free + 1 ≡ max_slots
  pub odd : IsOddDrop place.page.0 s page at value
