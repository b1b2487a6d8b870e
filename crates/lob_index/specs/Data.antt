-- The page of a version's data.
--     data_fields page trx len      what stands before the data
--     MakesData page trx bytes old new      what writing it leaves
--     data_given first page      the page, where it isn't the LOB's first page
--     GivesData first page old new      what giving it back leaves
--     IsOddDataPage      what reading its number from an entry may name
use Rattle.std.specs.Prelude.{◌≡◌, ◌≢◌, ◌⊎◌, ℕ, ◌+◌, ◌≤◌, ◌==◌, cond, List, [], ◌∷◌, ◌++◌, length, Option, IfSome}
use Rattle.page_model.specs.Pages.{Pages, Address, bytes_at, field, null_page}
use Rattle.page_model.specs.Spans.{SameOutside}
use Rattle.page_model.specs.Tables.{Field, field_at, HasFields, header_fields}
use Rattle.page_space.specs.Map.{GivesPage}
use Rattle.lob_model.specs.Places.{whole_page}
use Rattle.lob_model.specs.Lobs.{IsPage}
use Rattle.lob_model.specs.declared.layout.TheConstants.{DATA, DATA_TYPE, PAGE}
use Rattle.lob_index.specs.declared.layout.TheConstants.{DATA_LENGTH, DATA_TRX}

-- the header, how many bytes of data, and who wrote them
abbrev pub data_fields : ℕ → ℕ → ℕ → List Field
data_fields page trx len =
    header_fields page null_page null_page DATA_TYPE
    ++ (field_at DATA_LENGTH 4 len ∷ field_at DATA_TRX 6 trx ∷ [])

pub record MakesData (page trx : ℕ) (bytes : List ℕ) (old new : Pages) : Type 0 where
  pub here : IsPage new DATA_TYPE page
  pub fields : HasFields new page (data_fields page trx (length bytes))
  pub bytes' : bytes_at new page DATA (length bytes) ≡ bytes
  pub outside : SameOutside (whole_page page ∷ []) old new

-- the first page stays where its data goes
abbrev pub data_given : ℕ → ℕ → List ℕ
data_given first page = cond (page == first) [] (page ∷ [])

abbrev pub GivesData : ℕ → ℕ → Pages → Pages → Type 0
GivesData first page old new =
    ((page ≡ first) × (new ≡ old)) ⊎ ((page ≢ first) × GivesPage page old new)

-- the page of the data in the entry there isn't one
pub record IsOddDataPage (told : Option Pages) (count : ℕ) (entry : Address)
    (page at value : ℕ) : Type 0 where
  pub same_page : page ≡ entry.page
  pub same_place : at ≡ entry.at + PAGE
  pub reads : IfSome told (λ pages. value ≡ field pages entry.page (entry.at + PAGE) 4)
  pub above : count ≤ value
