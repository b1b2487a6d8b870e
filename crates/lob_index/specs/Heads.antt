-- Heads by their position.
--     nth k nodes      the one behind k others, or none
--     IsHeadFor count k page a      an entry that may be a head behind k others, of which the last
--         stands in that page
--     IsOddHead      what stands there is an address, and no such entry's
use Rattle.std.specs.Prelude.{◌≡◌, ◌≢◌, ◌⊎◌, ℕ, ◌+◌, ◌-◌, ◌<◌, ◌≤◌, List, [], ◌∷◌, drop, Option, Some, None, IfSome}
use Rattle.page_model.specs.Pages.{Pages, Address, address_at, null_page, null_address, page_bytes}
use Rattle.page_model.specs.Lists.{first_of}
use Rattle.engine_base.specs.Addresses.{address_of}
use Rattle.engine_base.specs.declared.addr.Addr.{Addr}
use Rattle.engine_base.specs.declared.fault.Fault.{Fault}
use Rattle.engine_base.specs.declared.fault.Fault.TheVariants.{Device, Strange}
use Rattle.lob_model.specs.Places.{MayTurn}
use Rattle.lob_model.specs.declared.layout.TheConstants.{ENTRY}
use Rattle.lob_pages.specs.Entries.{FitsPage}

abbrev pub nth : ℕ → List Address → Option Address
nth k nodes = first_of (drop k nodes)

pub record IsHeadFor (count k page : ℕ) (a : Address) : Type 0 where
  pub fits : FitsPage count a
  pub near : (a.page ≡ page) ⊎ MayTurn k

abbrev pub IsHeadLink : ℕ → ℕ → ℕ → Option Addr → Type 0
IsHeadLink count k page link = IfSome link (λ a. IsHeadFor count k page (address_of a))

-- which part of an address is at fault: its page is neither one nor null; its offset is none that
-- goes with it, for null 0 and else one at which an entry fits; or the page isn't the one that it
-- is to be
abbrev pub IsOddEntry : ℕ → ℕ → ℕ → ℕ → Address → ℕ → ℕ → Type 0
IsOddEntry count at k page there at' value =
    ((at' ≡ at) × (value ≡ there.page) × (count ≤ there.page) × (there.page ≢ null_page))
    ⊎ (((at' ≡ at + 4) × (value ≡ there.at) × (there.page ≡ null_page)
    × (there.at ≢ 0))
    ⊎ (((at' ≡ at + 4) × (value ≡ there.at) × (page_bytes < there.at + ENTRY))
    ⊎ ((at' ≡ at) × (value ≡ there.page) × (there.page ≢ page) × (¬ (MayTurn k)))))

abbrev pub NamesEntry : ℕ → ℕ → ℕ → ℕ → ℕ → Address → Fault → Type 0
NamesEntry count from at k page there Device = ⊥
NamesEntry count from at k page there (Strange page' at' value) =
    (page'.0 ≡ from) × IsOddEntry count at k page there at' value

-- the address at that place is no head's that may follow k others, of which the last stands in
-- that page
pub record IsOddHead (told : Option Pages)
    (count from at k page page' at' value : ℕ) : Type 0 where
  pub there : Address
  pub reads : IfSome told (λ pages. there ≡ address_at pages from at)
  pub same_page : page' ≡ from
  pub part : IsOddEntry count at k page there at' value

-- the same of some head on the walk
pub record IsOddOnWalk (told : Option Pages) (count page' at' value : ℕ) : Type 0 where
  pub at : ℕ
  pub behind : ℕ
  pub near : ℕ
  pub odd : IsOddHead told count page' at behind near page' at' value

-- an address that may stand there
abbrev pub IsHeadPlace : ℕ → ℕ → ℕ → Address → Type 0
IsHeadPlace count k page there = (there ≡ null_address) ⊎ IsHeadFor count k page there

-- ---- the pages of a walk along heads

-- behind how many of the first i heads the page may have changed
abbrev pub turns : ℕ → ℕ
turns i = (1 - (10 - i)) + ((1 - (282 - i)) + ((1 - (554 - i)) + (1 - (826 - i))))

abbrev pub link_pages : Option Addr → List ℕ
link_pages None = []
link_pages (Some a) = a.page.0 ∷ []
