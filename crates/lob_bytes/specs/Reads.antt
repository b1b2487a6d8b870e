-- A version's data, read.
--     IfVersion      a version stands there, in a LOB with that first page, and Q holds of it
--     IsOddData      the entry's page is none, its data is longer than the page's place for it, or
--         the page has no data
use Rattle.std.specs.Prelude.{◌≡◌, ◌≢◌, ◌⊎◌, ℕ, ◌+◌, ◌<◌, ◌≤◌, Option, Some, IfSome}
use Rattle.page_model.specs.Pages.{Pages, Address, field}
use Rattle.engine_base.specs.declared.fault.Fault.{Fault}
use Rattle.engine_base.specs.declared.fault.Fault.TheVariants.{Device, Strange}
use Rattle.store_data.specs.Store.{Version}
use Rattle.lob_model.specs.Lobs.{IsPage, IsVersion}
use Rattle.lob_model.specs.declared.layout.TheConstants.{TYPE, FIRST_TYPE, DATA_TYPE, FIRST_DATA, FIRST_ROOM, DATA, DATA_ROOM, PAGE, LENGTH}

abbrev pub IfVersion : Option Pages → Address → (Pages → Version → Type 0) → Type 0
IfVersion told place Q = (pages : Pages) (first : ℕ) (x : Version) → told ≡ Some pages
    → x.place ≡ place → IsPage pages FIRST_TYPE first → IsVersion pages first x → Q pages x

-- where the data of a page of that type begins, of which so much fits there
abbrev pub IsDataPlace : ℕ → ℕ → ℕ → Type 0
IsDataPlace type at length =
    ((type ≡ FIRST_TYPE) × (at ≡ FIRST_DATA) × (length ≤ FIRST_ROOM))
    ⊎ ((type ≡ DATA_TYPE) × (at ≡ DATA) × (length ≤ DATA_ROOM))

abbrev pub IsRoom : ℕ → ℕ → Type 0
IsRoom type length =
    ((type ≡ FIRST_TYPE) × (FIRST_ROOM < length)) ⊎ ((type ≡ DATA_TYPE) × (DATA_ROOM < length))

-- by the page, the type and the length that were read
abbrev pub IsOddDataPlace : Address → ℕ → ℕ → ℕ → ℕ → ℕ → ℕ → Type 0
IsOddDataPlace entry data_page type length page at value =
    ((page ≡ data_page) × (at ≡ TYPE) × (value ≡ type) × (type ≢ FIRST_TYPE)
    × (type ≢ DATA_TYPE))
    ⊎ ((page ≡ entry.page) × (at ≡ entry.at + LENGTH) × (value ≡ length) × IsRoom type length)

abbrev pub NamesPlace : Address → ℕ → ℕ → ℕ → Fault → Type 0
NamesPlace entry data_page type length Device = ⊥
NamesPlace entry data_page type length (Strange page at value) =
    IsOddDataPlace entry data_page type length page.0 at value

-- as these stood at the call
pub record IsOddData (told : Option Pages) (count : ℕ) (entry : Address)
    (page at value : ℕ) : Type 0 where
  pub data_page : ℕ
  pub type : ℕ
  pub size : ℕ
  pub reads : IfSome told (λ pages. (data_page ≡ field pages entry.page (entry.at + PAGE) 4)
      × (size ≡ field pages entry.page (entry.at + LENGTH) 4))
  pub part : ((page ≡ entry.page) × (at ≡ entry.at + PAGE) × (value ≡ data_page)
      × (count ≤ data_page))
      ⊎ (IfSome told (λ pages. type ≡ field pages data_page TYPE 2)
      × IsOddDataPlace entry data_page type size page at value)
