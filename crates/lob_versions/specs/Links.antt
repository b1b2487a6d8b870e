-- Addresses of entries.
--     IsEntryLink count link      the entry fits its page, where there is one
--     IsOddEntryLink      the address there is neither null nor that of an entry that fits its page
use Rattle.std.specs.Prelude.{◌≡◌, ◌≢◌, ◌⊎◌, ℕ, ◌+◌, ◌<◌, ◌≤◌, Option, IfSome}
use Rattle.page_model.specs.Pages.{Pages, Address, address_at, null_page, null_address, page_bytes}
use Rattle.engine_base.specs.Addresses.{address_of}
use Rattle.engine_base.specs.declared.addr.Addr.{Addr}
use Rattle.engine_base.specs.declared.fault.Fault.{Fault}
use Rattle.engine_base.specs.declared.fault.Fault.TheVariants.{Device, Strange}
use Rattle.lob_model.specs.declared.layout.TheConstants.{ENTRY}
use Rattle.lob_pages.specs.Entries.{FitsPage}

abbrev pub IsEntryLink : ℕ → Option Addr → Type 0
IsEntryLink count link = IfSome link (λ a. FitsPage count (address_of a))

-- which part of an address is at fault: its page is neither one nor null; or its offset is none
-- that goes with it, for null 0 and else one at which an entry fits
abbrev pub IsOddPart : ℕ → ℕ → Address → ℕ → ℕ → Type 0
IsOddPart count at there at' value =
    ((at' ≡ at) × (value ≡ there.page) × (count ≤ there.page) × (there.page ≢ null_page))
    ⊎ (((at' ≡ at + 4) × (value ≡ there.at) × (there.page ≡ null_page)
    × (there.at ≢ 0))
    ⊎ ((at' ≡ at + 4) × (value ≡ there.at) × (page_bytes < there.at + ENTRY)))

abbrev pub NamesPart : ℕ → ℕ → ℕ → Address → Fault → Type 0
NamesPart count from at there Device = ⊥
NamesPart count from at there (Strange page' at' value) =
    (page'.0 ≡ from) × IsOddPart count at there at' value

pub record IsOddEntryLink (told : Option Pages)
    (count from at page' at' value : ℕ) : Type 0 where
  pub there : Address
  pub reads : IfSome told (λ pages. there ≡ address_at pages from at)
  pub same_page : page' ≡ from
  pub part : IsOddPart count at there at' value

-- the same of some address
pub record IsOddEntry (told : Option Pages) (count page' at' value : ℕ) : Type 0 where
  pub at : ℕ
  pub odd : IsOddEntryLink told count page' at page' at' value

-- an address that may stand there
abbrev pub IsEntryThere : ℕ → Address → Type 0
IsEntryThere count there = (there ≡ null_address) ⊎ FitsPage count there
