-- Which pages a store owns.
--     owned_lobs      the first pages of the LOBs that rows and records own
--     owned      page 0, the pages of rows, of undo logs and of owned LOBs, each as often as it is
--         owned
--     AreSound      no page is owned twice
--     AreOf page lobs runs      runs of the pages of one LOB
use Rattle.std.specs.Prelude.{◌≡◌, ◌≢◌, ◌⊎◌, ℕ, List, [], ◌∷◌, ◌++◌, Option, Some, None, ◌==◌, if◌then◌else◌}
use Rattle.page_model.specs.Pages.{Address}
use Rattle.store_data.specs.Store.{RowState, absent, live, deleted, Row, Version, Piece, Lob, Run, Body, inserted, rebuilt, versioned, patched, removed, Record, Log, Store}
use Rattle.store_model.specs.Lobs.{lob_of}

-- a live row owns its LOB
abbrev pub owned_if : RowState → ℕ → List ℕ
owned_if absent page = []
owned_if live page = page ∷ []
owned_if deleted page = []

abbrev pub row_lobs : List (ℕ × Row) → List ℕ
row_lobs [] = []
row_lobs (r ∷ rs) = owned_if r.1.state r.1.lob.page ++ row_lobs rs

-- a record of kind Full or Removed owns the LOB before, until purge has passed it
abbrev pub owned_by : Body → Row → List ℕ
owned_by (inserted page) before = []
owned_by (rebuilt page) before = before.lob.page ∷ []
owned_by (versioned pieces touched) before = []
owned_by (patched old) before = []
owned_by removed before = before.lob.page ∷ []

abbrev pub record_lobs : List (Address × Record) → List ℕ
record_lobs [] = []
record_lobs (u ∷ us) = owned_by u.1.body u.1.before ++ record_lobs us

abbrev pub log_lobs : List Log → List ℕ
log_lobs [] = []
log_lobs (l ∷ ls) = record_lobs l.records ++ log_lobs ls

abbrev pub owned_lobs : Store → List ℕ
owned_lobs store = row_lobs store.rows ++ (log_lobs store.active ++ log_lobs store.committed)

-- the pages of data but the first page
abbrev pub data_page : ℕ → Version → List ℕ
data_page first v = if v.page == first then [] else v.page ∷ []

abbrev pub data_pages : ℕ → List Version → List ℕ
data_pages first [] = []
data_pages first (v ∷ vs) = data_page first v ++ data_pages first vs

abbrev pub piece_pages : ℕ → List Piece → List ℕ
piece_pages first [] = []
piece_pages first (p ∷ ps) = data_pages first (p.head ∷ p.older) ++ piece_pages first ps

abbrev pub rest_of : Option Lob → List ℕ
rest_of None = []
rest_of (Some l) = l.index ++ piece_pages l.page l.pieces

abbrev pub lob_pages : List Lob → List ℕ → List ℕ
lob_pages lobs [] = []
lob_pages lobs (page ∷ pages) = (page ∷ rest_of (lob_of lobs page)) ++ lob_pages lobs pages

abbrev pub log_pages : List Log → List ℕ
log_pages [] = []
log_pages (l ∷ ls) = l.pages ++ log_pages ls

abbrev pub owned : Store → List ℕ
owned store = (0 ∷ store.row_pages) ++
    (log_pages store.active ++
    (log_pages store.committed ++ lob_pages store.lobs (owned_lobs store)))

-- ---- no page twice

abbrev pub IsNotAmong : ℕ → List ℕ → Type 0
IsNotAmong n [] = Unit {0}
IsNotAmong n (m ∷ ms) = (m ≢ n) × IsNotAmong n ms

abbrev pub AreDifferent : List ℕ → Type 0
AreDifferent [] = Unit {0}
AreDifferent (n ∷ ns) = IsNotAmong n ns × AreDifferent ns

abbrev pub AreSound : Store → Type 0
AreSound store = AreDifferent (owned store)

abbrev pub IsAmong : ℕ → List ℕ → Type 0
IsAmong n [] = ⊥
IsAmong n (m ∷ ms) = (m ≡ n) ⊎ IsAmong n ms

abbrev pub AreOf : ℕ → List Lob → List Run → Type 0
AreOf page lobs [] = Unit {0}
AreOf page lobs (r ∷ rs) = IsAmong r.page (page ∷ rest_of (lob_of lobs page)) × AreOf page lobs rs
