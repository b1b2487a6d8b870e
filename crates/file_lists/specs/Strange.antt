-- When a call on a list may answer that a field holds a value which isn't allowed there: it names a
-- field that the call read, and the value that stood there as the call began.
--     IsOddLink      the address there is neither null nor a node's place, and this part of it is
--                    at fault
--     IsFull, IsBare      the length lets no node in; the length says that there is none to take
--                         out
--     IsOddAtFront, IsOddAtBack, IsOddAround      what adding a node at either end, and taking one
--          out, may name
--     IsOddBehind, IsOddBefore      what taking out the first and the last node may name
use Rattle.std.specs.Prelude.{◌≡◌, ◌⊎◌, ℕ, ◌+◌, ◌<◌, IfSome, Option}
use Rattle.page_model.specs.Pages.{Pages, field, Address, address_at, null_page}
use Rattle.page_model.specs.Lists.{IsLink}
use Rattle.page_model.specs.Steps.{PageState}
use Rattle.engine_base.specs.Faults.{Oddity}
use Rattle.engine_base.specs.declared.fault.Fault.{Fault}
use Rattle.engine_base.specs.declared.fault.Fault.TheVariants.{Device, Strange}
use Rattle.file_lists.specs.declared.layout.TheConstants.{FIRST, LAST, NEXT, MAX_LENGTH}

-- a page that an address may have
abbrev pub IsLinkPage : ℕ → ℕ → Type 0
IsLinkPage count n = (n < count) ⊎ (n ≡ null_page)

-- the page is neither a page nor null; or it is one of these, and the offset is none that goes with
-- it
abbrev pub IsOddPart : ℕ → ℕ → Address → ℕ → ℕ → Type 0
IsOddPart count at there at' value =
    ((at' ≡ at) × (value ≡ there.page) × (¬ (IsLinkPage count there.page)))
    ⊎ ((at' ≡ at + 4) × (value ≡ there.at) × IsLinkPage count there.page × (¬ (IsLink count there)))

-- a fault names the part of this address that is odd
abbrev pub NamesPart : ℕ → ℕ → ℕ → Address → Fault → Type 0
NamesPart count page at there Device = ⊥
NamesPart count page at there (Strange page' at' value) =
    (page'.0 ≡ page) × IsOddPart count at there at' value

-- an odd part of the address that stands there
pub record IsOddLink (told : Option Pages) (count page at page' at' value : ℕ) : Type 0 where
  pub there : Address
  pub reads : IfSome told (λ pages. there ≡ address_at pages page at)
  pub same_page : page' ≡ page
  pub part : IsOddPart count at there at' value

-- the length of the list is what the fault names
pub record IsLength (told : Option Pages) (base : Address) (page at value : ℕ) : Type 0 where
  pub same_page : page ≡ base.page
  pub same_place : at ≡ base.at
  pub reads : IfSome told (λ pages. value ≡ field pages base.page base.at 4)

pub record IsFull (told : Option Pages) (base : Address) (page at value : ℕ) : Type 0 where
  pub here : IsLength told base page at value
  pub greatest : value ≡ MAX_LENGTH

pub record IsBare (told : Option Pages) (base : Address) (page at value : ℕ) : Type 0 where
  pub here : IsLength told base page at value
  pub least : value ≡ 0

abbrev pub IsOddAtFront : PageState → Address → Oddity
IsOddAtFront s base page at value =
    IsFull s.told base page at value
    ⊎ IsOddLink s.told s.count base.page (base.at + FIRST) page at value

abbrev pub IsOddAtBack : PageState → Address → Oddity
IsOddAtBack s base page at value =
    IsFull s.told base page at value
    ⊎ IsOddLink s.told s.count base.page (base.at + LAST) page at value

abbrev pub IsOddAround : PageState → Address → Address → Oddity
IsOddAround s base node page at value =
    IsBare s.told base page at value
    ⊎ (IsOddLink s.told s.count node.page node.at page at value
    ⊎ IsOddLink s.told s.count node.page (node.at + NEXT) page at value)

abbrev pub IsOddBehind : PageState → Address → Address → Oddity
IsOddBehind s base node page at value =
    IsBare s.told base page at value
    ⊎ IsOddLink s.told s.count node.page (node.at + NEXT) page at value

abbrev pub IsOddBefore : PageState → Address → Address → Oddity
IsOddBefore s base node page at value =
    IsBare s.told base page at value
    ⊎ IsOddLink s.told s.count node.page node.at page at value
