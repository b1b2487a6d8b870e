-- A row of the code in a slot.
--     keyed_of      a row of the code, by its document
--     FitsSlot count a      a slot there lies within one of so many pages
--     IsSoundRow      a row that a slot can hold
--     SetsSlot      the row was written there, and no other byte
--     IsOddState, IsOddRow      a fault names the state of the slot there, or its document
use Rattle.std.specs.Prelude.{◌≡◌, ◌≢◌, ◌⊎◌, ℕ, ◌+◌, ◌<◌, ◌≤◌, ◌^◌, [], ◌∷◌, Option, IfSome}
use Rattle.std.specs.Option.{option_map}
use Rattle.page_model.specs.Pages.{Pages, Address, field, page_bytes}
use Rattle.page_model.specs.Spans.{Span, span, SameOutside}
use Rattle.engine_base.specs.Faults.{Oddity}
use Rattle.undo_model.specs.Rows.{Keyed, IsPresent, IsRowAt, slot_size}
use Rattle.undo_records.specs.Records.{row_of, state_of}
use Rattle.undo_records.specs.declared.record_type.Row.{Row}

abbrev pub keyed_of : Row → Keyed
keyed_of r = record { doc = r.doc.0; row = row_of r }

abbrev pub slot_of : Option Row → Option Keyed
slot_of = option_map keyed_of

pub record FitsSlot (count : ℕ) (a : Address) : Type 0 where
  pub page : a.page < count
  pub within : a.at + slot_size ≤ page_bytes

-- an absent row stands in no slot
pub record IsSoundRow (r : Row) : Type 0 where
  pub present : IsPresent (state_of r.state)
  pub trx : r.trx.0 < 2 ^ 48
  pub roll : r.roll.0 < 2 ^ 56

abbrev pub slot_span : Address → Span
slot_span a = span a.page a.at slot_size

pub record SetsSlot (a : Address) (k : Keyed) (old new : Pages) : Type 0 where
  pub stands : IsRowAt new a.page a.at k
  pub outside : SameOutside (slot_span a ∷ []) old new

-- a fault names the state of the slot there, as it stands
pub record NamesState (told : Option Pages) (a : Address) (page at value : ℕ) : Type 0 where
  pub same_page : page ≡ a.page
  pub same_place : at ≡ a.at
  pub reads : IfSome told (λ pages. value ≡ field pages a.page a.at 1)

-- or its document
pub record NamesDoc (told : Option Pages) (a : Address) (page at value : ℕ) : Type 0 where
  pub same_page : page ≡ a.page
  pub same_place : at ≡ a.at + 1
  pub reads : IfSome told (λ pages. value ≡ field pages a.page (a.at + 1) 4)

-- it is no state of a slot
abbrev pub IsOddState : Option Pages → Address → Oddity
IsOddState told a page at value = NamesState told a page at value × (2 < value)

-- or no row of that document stands there
abbrev pub IsOddRow : Option Pages → Address → ℕ → Oddity
IsOddRow told a doc page at value = IsOddState told a page at value
    ⊎ ((NamesState told a page at value × (value ≡ 0))
    ⊎ (NamesDoc told a page at value × (value ≢ doc)))
