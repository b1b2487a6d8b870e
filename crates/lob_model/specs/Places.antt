-- Where the parts of a LOB stand in its pages.
--     heads_base, free_base, versions_base      the bases of a LOB's lists
--     entry_span, data_span, whole_page      the bytes of an entry, of a version's data, and of a
--         page
--     IsEntryPlace      a place of an entry in the first page or an index page
--     IsSteady      along the list of heads the page changes only where that is allowed
use Rattle.std.specs.Prelude.{◌≡◌, ◌⊎◌, ℕ, zero, suc, ◌+◌, ◌*◌, ◌<◌, ◌==◌, cond, List, [], ◌∷◌, ◌++◌}
use Rattle.page_model.specs.Pages.{Address, page_bytes}
use Rattle.page_model.specs.Spans.{Span, span}
use Rattle.store_data.specs.Store.{Version}
use Rattle.lob_model.specs.declared.layout.TheConstants.{HEADS, FREE, FIRST_ENTRIES, FIRST_COUNT, FIRST_DATA, FIRST_ROOM, DATA, DATA_ROOM, INDEX_ENTRIES, INDEX_COUNT, ENTRY, VERSIONS}

abbrev pub at_place : ℕ → ℕ → Address
at_place page at = record { page = page; at = at }

abbrev pub heads_base : ℕ → Address
heads_base first = at_place first HEADS

abbrev pub free_base : ℕ → Address
free_base first = at_place first FREE

abbrev pub versions_base : Address → Address
versions_base entry = at_place entry.page (entry.at + VERSIONS)

abbrev pub entry_span : Address → Span
entry_span entry = span entry.page entry.at ENTRY

abbrev pub whole_page : ℕ → Span
whole_page page = span page 0 page_bytes

-- the bytes of a page before its own
abbrev pub head_span : ℕ → Span
head_span page = span page 0 INDEX_ENTRIES

-- the first page's bytes before its lists
abbrev pub first_span : ℕ → Span
first_span page = span page 0 HEADS

-- where the data stands in a page, and how much it may be
abbrev pub data_at : ℕ → ℕ → ℕ
data_at first page = cond (page == first) FIRST_DATA DATA

abbrev pub data_room : ℕ → ℕ → ℕ
data_room first page = cond (page == first) FIRST_ROOM DATA_ROOM

-- all that a version has of its page
abbrev pub data_span : ℕ → Version → Span
data_span first x = cond (x.page == first) (span first FIRST_DATA FIRST_ROOM) (whole_page x.page)

-- ---- entries

-- the place of one of so many entries, of which the first stands at `from`
abbrev pub IsNth : ℕ → ℕ → ℕ → Type 0
IsNth from count at = (i : ℕ) × (i < count) × (at ≡ from + ENTRY * i)

abbrev pub IsAmong : ℕ → List ℕ → Type 0
IsAmong n [] = ⊥
IsAmong n (m ∷ more) = (n ≡ m) ⊎ IsAmong n more

abbrev pub IsEntryPlace : ℕ → List ℕ → Address → Type 0
IsEntryPlace first index a =
    ((a.page ≡ first) × IsNth FIRST_ENTRIES FIRST_COUNT a.at)
    ⊎ (IsAmong a.page index × IsNth INDEX_ENTRIES INDEX_COUNT a.at)

abbrev pub AreEntryPlaces : ℕ → List ℕ → List Address → Type 0
AreEntryPlaces first index [] = Unit {0}
AreEntryPlaces first index (a ∷ more) = IsEntryPlace first index a × AreEntryPlaces first index more

-- so many entries one behind another
abbrev pub entries_from : ℕ → ℕ → ℕ → List Address
entries_from page at zero = []
entries_from page at (suc n) = at_place page at ∷ entries_from page (at + ENTRY) n

abbrev pub first_entries : ℕ → List Address
first_entries page = entries_from page FIRST_ENTRIES FIRST_COUNT

abbrev pub index_entries : ℕ → List Address
index_entries page = entries_from page INDEX_ENTRIES INDEX_COUNT

-- the entries of the index pages, those of the page made first before the others
abbrev pub all_index_entries : List ℕ → List Address
all_index_entries [] = []
all_index_entries (page ∷ older) = all_index_entries older ++ index_entries page

-- ---- heads

-- behind so many pieces the list of heads may go on in another page
abbrev pub MayTurn : ℕ → Type 0
MayTurn k = (k ≡ 10) ⊎ ((k ≡ 282) ⊎ ((k ≡ 554) ⊎ (k ≡ 826)))

-- these heads stand behind k others, of which the last stands in that page
abbrev pub IsSteady : ℕ → ℕ → List Address → Type 0
IsSteady k page [] = Unit {0}
IsSteady k page (a ∷ more) = ((a.page ≡ page) ⊎ MayTurn k) × IsSteady (k + 1) a.page more
