-- A page's layout as a table of fields, each with the value that it is to hold.
--     Field, field_at      where a field stands, how wide it is, and its value
--     HasFields, SetsFields      the fields of a page have these values; they were written, and
--                                nothing else
--     field_write, AreNarrow      what writes a field; each value has room in its field
--     are_rising, table_end      the fields stand one behind another; where the last of them ends
--     header_fields, base_fields      a page's header, and the base of a list without nodes
use Rattle.std.specs.Prelude.{◌≡◌, ℕ, ◌+◌, ◌^◌, ◌<◌, nat_le, Bool, true, ◌&&◌, List, [], ◌∷◌, map}
use Rattle.byteorder.specs.Endian.{big_bytes}
use Rattle.page_model.specs.Pages.{Pages, Write, field, null_page}
use Rattle.page_model.specs.Spans.{Span, span, SameOutside}

pub record Field : Type 0 where
  pub at : ℕ
  pub width : ℕ
  pub value : ℕ

abbrev pub field_at : ℕ → ℕ → ℕ → Field
field_at at width value = record { at = at; width = width; value = value }

abbrev pub field_span : ℕ → Field → Span
field_span page f = span page f.at f.width

-- each field has its value
abbrev pub HasFields : Pages → ℕ → List Field → Type 0
HasFields pages page [] = Unit {0}
HasFields pages page (f ∷ more) =
    (field pages page f.at f.width ≡ f.value) × HasFields pages page more

-- the fields were written, and every byte outside them is as it was
pub record SetsFields (page : ℕ) (table : List Field) (old new : Pages) : Type 0 where
  pub here : HasFields new page table
  pub outside : SameOutside (map (field_span page) table) old new

-- what writes a field
abbrev pub field_write : ℕ → Field → Write
field_write page f = record { page = page; at = f.at; bytes = big_bytes f.width f.value }

-- each value has no more bytes than its field
abbrev pub AreNarrow : List Field → Type 0
AreNarrow [] = Unit {0}
AreNarrow (f ∷ more) = (f.value < 256 ^ f.width) × AreNarrow more

-- each field begins where the one before ends, or later
abbrev pub are_rising : ℕ → List Field → Bool
are_rising from [] = true
are_rising from (f ∷ more) = nat_le from f.at && are_rising (f.at + f.width) more

abbrev pub table_end : ℕ → List Field → ℕ
table_end from [] = from
table_end from (f ∷ more) = table_end (f.at + f.width) more

-- the fields of a page's header that aren't always zero: its number, the pages before and behind
-- it, and its type
abbrev pub header_fields : ℕ → ℕ → ℕ → ℕ → List Field
header_fields number before behind type =
    field_at 4 4 number ∷ field_at 8 4 before ∷ field_at 12 4 behind ∷ field_at 24 2 type ∷ []

-- the base of a list without nodes: its length, and both addresses, null
abbrev pub base_fields : ℕ → List Field
base_fields at = field_at at 4 0 ∷ field_at (at + 4) 4 null_page ∷ field_at (at + 8) 2 0
    ∷ field_at (at + 10) 4 null_page ∷ field_at (at + 14) 2 0 ∷ []
