-- What the calls on the map may answer.
--     IsCount      the fault names the count of free pages
--     IsOddCount, IsSpentOrOdd, IsRaisedOrNotUsed      what reserving, taking and giving back may
--          name
--     AnswersReserve, IsHonestRefusal      when a reservation is made, and when it is refused
--     HasSpaceCause      Device comes only where the count of faults rose
use Rattle.std.specs.Prelude.{◌≡◌, ◌⊎◌, ℕ, ◌%◌, ◌<◌, ◌≤◌, IfSome, Option, Result, Ok, Err}
use Rattle.std.specs.Int.{bit_at}
use Rattle.page_model.specs.Pages.{Pages, field}
use Rattle.engine_base.specs.Faults.{Rose, Oddity, IsHonest}
use Rattle.engine_base.specs.declared.fault.Fault.TheVariants.{Device}
use Rattle.page_space.specs.declared.error.SpaceError.{SpaceError}
use Rattle.page_space.specs.declared.error.SpaceError.TheVariants.{Full, Fault as Failed}
use Rattle.page_space.specs.declared.layout.TheConstants.{FREE_PAGES}
use Rattle.page_space.specs.Map.{free_of, IsUsed, place_of}

pub record IsCount (told : Option Pages) (page at value : ℕ) : Type 0 where
  pub same_page : page ≡ 0
  pub same_place : at ≡ FREE_PAGES
  pub reads : IfSome told (λ pages. value ≡ free_of pages)

-- more pages are counted as free than there are
pub record IsOddCount (told : Option Pages) (count page at value : ℕ) : Type 0 where
  pub here : IsCount told page at value
  pub above : count < value

-- the count says that no page is free though one is reserved, or that one is where the map has none
pub record IsSpent (told : Option Pages) (count page at value : ℕ) : Type 0 where
  pub here : IsCount told page at value
  pub none : (value ≡ 0) ⊎ IfSome told (λ pages. (k : ℕ) → k < count → IsUsed pages k)

-- the count says that all pages are free
pub record IsRaised (told : Option Pages) (count page at value : ℕ) : Type 0 where
  pub here : IsCount told page at value
  pub all : count ≤ value

-- the map says that the page is free
pub record IsNotUsed (told : Option Pages) (k page at value : ℕ) : Type 0 where
  pub same_page : page ≡ 0
  pub same_place : at ≡ place_of k
  pub reads : IfSome told (λ pages. value ≡ field pages 0 (place_of k) 1)
  pub free : bit_at value (k % 8) ≡ 0

abbrev pub IsSpentOrOdd : Option Pages → ℕ → Oddity
IsSpentOrOdd told count page at value =
    IsOddCount told count page at value ⊎ IsSpent told count page at value

abbrev pub IsRaisedOrNotUsed : Option Pages → ℕ → ℕ → Oddity
IsRaisedOrNotUsed told count k page at value =
    IsRaised told count page at value ⊎ IsNotUsed told k page at value

-- exactly where more pages are needed than are free and not reserved it is refused, unless the
-- device fails
abbrev pub AnswersReserve : {T : Type 0} → ℕ → ℕ → Result T SpaceError → Type 0
AnswersReserve need unreserved (Ok done) = need ≤ unreserved
AnswersReserve need unreserved (Err (Full n free)) =
    (n ≡ need) × (free ≡ unreserved) × (unreserved < need)
AnswersReserve need unreserved (Err (Failed fault)) = fault ≡ Device

abbrev pub IsHonestRefusal : Oddity → ℕ → SpaceError → Type 0
IsHonestRefusal odd need (Full n free) = (n ≡ need) × (free < need)
IsHonestRefusal odd need (Failed fault) = IsHonest odd fault

pub record HasSpaceCause {T : Type 0} (before now : ℕ) (result : Result T SpaceError) : Type 0 where
  pub later : before ≤ now
  pub device : result ≡ Err (Failed Device) → Rose before now
