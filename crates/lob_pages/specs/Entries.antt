-- An entry of a LOB's index, as the code has it.
--     FitsPage count a      an entry there lies within one of so many pages
--     HasNarrowIds e      its transaction ids have 48 bits
--     HasEntryLinks, HasEntryFields      the entry there has this node and version list; these
--         fields behind them
--     IsEntryAt pages a e      both
--     SameBefore      the first bytes of page 0 are as they were
--     SetsEntry, SetsEntryFields      the entry, or its fields, were written, and no other byte
--     AddsEntry, AddsEntryFields      by one write
use Rattle.std.specs.Prelude.{◌≡◌, ℕ, ◌+◌, ◌<◌, ◌≤◌, ◌^◌, List, [], ◌∷◌, length, drop}
use Rattle.page_model.specs.Pages.{Pages, Address, byte, field, address_at, page_bytes}
use Rattle.page_model.specs.Spans.{SameOutside}
use Rattle.page_model.specs.Steps.{PageState, AddsWrite}
use Rattle.engine_base.specs.Addresses.{address_of}
use Rattle.lob_model.specs.Places.{at_place, entry_span}
use Rattle.lob_model.specs.Changes.{fields_span}
use Rattle.lob_model.specs.declared.layout.TheConstants.{ENTRY, VERSIONS, CREATOR, MODIFIER, CREATOR_UNDO, MODIFIER_UNDO, PAGE, LENGTH, VERSION}
use Rattle.lob_pages.specs.declared.layout.TheConstants.{PREVIOUS, NEXT, FIRST_VERSION, LAST_VERSION}
use Rattle.lob_pages.specs.declared.entry.Entry.{Entry}

pub record FitsPage (count : ℕ) (a : Address) : Type 0 where
  pub page : a.page < count
  pub within : a.at + ENTRY ≤ page_bytes

pub record HasNarrowIds (e : Entry) : Type 0 where
  pub creator : e.creator.0 < 2 ^ 48
  pub modifier : e.modifier.0 < 2 ^ 48

pub record HasEntryLinks (pages : Pages) (a : Address) (e : Entry) : Type 0 where
  pub previous : address_at pages a.page (a.at + PREVIOUS) ≡ address_of e.previous
  pub next : address_at pages a.page (a.at + NEXT) ≡ address_of e.next
  pub count : field pages a.page (a.at + VERSIONS) 4 ≡ e.versions.length
  pub first : address_at pages a.page (a.at + FIRST_VERSION) ≡ address_of e.versions.first
  pub last : address_at pages a.page (a.at + LAST_VERSION) ≡ address_of e.versions.last

pub record HasEntryFields (pages : Pages) (a : Address) (e : Entry) : Type 0 where
  pub creator : field pages a.page (a.at + CREATOR) 6 ≡ e.creator.0
  pub modifier : field pages a.page (a.at + MODIFIER) 6 ≡ e.modifier.0
  pub creator_undo : field pages a.page (a.at + CREATOR_UNDO) 4 ≡ e.creator_undo.0
  pub modifier_undo : field pages a.page (a.at + MODIFIER_UNDO) 4 ≡ e.modifier_undo.0
  pub page : field pages a.page (a.at + PAGE) 4 ≡ e.page.0
  pub long : field pages a.page (a.at + LENGTH) 4 ≡ e.length
  pub number : field pages a.page (a.at + VERSION) 4 ≡ e.version.0

pub record IsEntryAt (pages : Pages) (a : Address) (e : Entry) : Type 0 where
  pub links : HasEntryLinks pages a e
  pub fields : HasEntryFields pages a e

abbrev pub SameBefore : ℕ → Pages → Pages → Type 0
SameBefore n old new = (k : ℕ) → k < n → byte new 0 k ≡ byte old 0 k

-- one write was made: the entry's bytes, or those of its fields
abbrev pub AddsEntry : Address → Entry → PageState → PageState → Type 0
AddsEntry a e old new = (bytes : List ℕ) × (length bytes ≡ ENTRY)
    × IsEntryAt (bytes ∷ []) (at_place 0 0) e × AddsWrite a.page a.at bytes old new

abbrev pub AddsEntryFields : Address → Entry → PageState → PageState → Type 0
AddsEntryFields a e old new = (bytes : List ℕ) × (length bytes ≡ ENTRY)
    × HasEntryFields (bytes ∷ []) (at_place 0 0) e
    × AddsWrite a.page (a.at + CREATOR) (drop CREATOR bytes) old new

pub record SetsEntry (a : Address) (e : Entry) (old new : Pages) : Type 0 where
  pub here : IsEntryAt new a e
  pub outside : SameOutside (entry_span a ∷ []) old new

pub record SetsEntryFields (a : Address) (e : Entry) (old new : Pages) : Type 0 where
  pub here : HasEntryFields new a e
  pub outside : SameOutside (fields_span a ∷ []) old new
