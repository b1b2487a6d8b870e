-- An index page as it is made: its first node is in no list, and the others follow one another.
--     linked page k      the address of node k, or null before the first of the list and behind
--         the last
--     node_fields page i      the fields of node i + 1
--     MakesIndexPage, SetsFreeBase      what the two writes leave
use Rattle.std.specs.Prelude.{◌≡◌, ℕ, ◌+◌, ◌*◌, ◌<◌, ◌==◌, cond, List, [], ◌∷◌}
use Rattle.page_model.specs.Pages.{Pages, Address, field, address_at, null_address, null_page}
use Rattle.page_model.specs.Spans.{SameOutside}
use Rattle.page_model.specs.Lists.{base_span}
use Rattle.page_model.specs.Tables.{Field, field_at, HasFields, header_fields}
use Rattle.lob_model.specs.Places.{at_place, whole_page, free_base}
use Rattle.lob_model.specs.declared.layout.TheConstants.{INDEX_TYPE, INDEX_ENTRIES, INDEX_COUNT, ENTRY, FREE}

abbrev pub node_at : ℕ → ℕ → Address
node_at page k = at_place page (INDEX_ENTRIES + ENTRY * k)

abbrev pub linked : ℕ → ℕ → Address
linked page k = cond (k == 0) null_address (cond (k == INDEX_COUNT) null_address (node_at page k))

abbrev pub link_fields : ℕ → Address → Address → List Field
link_fields at before behind =
    field_at at 4 before.page ∷ field_at (at + 4) 2 before.at ∷ field_at (at + 6) 4 behind.page
    ∷ field_at (at + 10) 2 behind.at ∷ []

abbrev pub node_fields : ℕ → ℕ → List Field
node_fields page i =
    link_fields (INDEX_ENTRIES + ENTRY * (i + 1)) (linked page i) (linked page (i + 2))

-- the first so many of them are linked
abbrev pub AreLinked : Pages → ℕ → ℕ → ℕ → Type 0
AreLinked pages at page n = (i : ℕ) → i < n → HasFields pages at (node_fields page i)

pub record MakesIndexPage (page behind : ℕ) (old new : Pages) : Type 0 where
  pub header : HasFields new page (header_fields page null_page behind INDEX_TYPE)
  pub nodes : AreLinked new page page 271
  pub outside : SameOutside (whole_page page ∷ []) old new

-- the base of the free nodes has 271, from node 1 of that page to node 271
pub record SetsFreeBase (first page : ℕ) (old new : Pages) : Type 0 where
  pub count : field new first FREE 4 ≡ 271
  pub first' : address_at new first (FREE + 4) ≡ node_at page 1
  pub last : address_at new first (FREE + 10) ≡ node_at page 271
  pub outside : SameOutside (base_span (free_base first) ∷ []) old new
