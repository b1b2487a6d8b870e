-- How owned pages move: what a store owns, counted page by page.
--     Takes pages old new, Gives pages old new      the new store owns these pages more than the
--         old one, or fewer
--     piece_of      the k-th piece
use Rattle.std.specs.Prelude.{◌≡◌, ℕ, zero, suc, ◌+◌, Option, Some, None, List, [], ◌∷◌, ◌==◌, if◌then◌else◌}
use Rattle.page_model.specs.Pages.{Address}
use Rattle.page_model.specs.Counts.{times}
use Rattle.store_data.specs.Store.{Row, Piece, Lob, Body, inserted, rebuilt, versioned, patched, removed, Record, Log, Store}
use Rattle.store_model.specs.Lobs.{lob_of}
use Rattle.store_model.specs.Owned.{rest_of, owned, IsNotAmong}

abbrev pub Takes : List ℕ → Store → Store → Type 0
Takes pages old new = (n : ℕ) → times n (owned new) ≡ times n (owned old) + times n pages

abbrev pub Gives : List ℕ → Store → Store → Type 0
Gives pages old new = (n : ℕ) → times n (owned new) + times n pages ≡ times n (owned old)

abbrev pub piece_of : ℕ → List Piece → Option Piece
piece_of k [] = None
piece_of zero (p ∷ ps) = Some p
piece_of (suc k) (p ∷ ps) = piece_of k ps

abbrev pub AreUnowned : List ℕ → Store → Type 0
AreUnowned [] store = Unit {0}
AreUnowned (p ∷ ps) store = IsNotAmong p (owned store) × AreUnowned ps store

-- the pages of a log that loses its last record
abbrev pub pages_if_last : List (Address × Record) → List ℕ → List ℕ
pages_if_last [] pages = []
pages_if_last (u ∷ []) pages = pages
pages_if_last (u ∷ v ∷ us) pages = []

abbrev pub gone_pages : ℕ → List Log → List ℕ
gone_pages trx [] = []
gone_pages trx (l ∷ ls) =
    if l.trx == trx then pages_if_last l.records l.pages else gone_pages trx ls

-- the pages of a LOB that a record made
abbrev pub made_pages : Body → List Lob → List ℕ
made_pages (inserted page) lobs = page ∷ rest_of (lob_of lobs page)
made_pages (rebuilt page) lobs = page ∷ rest_of (lob_of lobs page)
made_pages (versioned pieces touched) lobs = []
made_pages (patched old) lobs = []
made_pages removed lobs = []

-- and of the LOB before, where its purge frees it
abbrev pub freed_pages : Body → Row → List Lob → List ℕ
freed_pages (inserted page) before lobs = []
freed_pages (rebuilt page) before lobs = before.lob.page ∷ rest_of (lob_of lobs before.lob.page)
freed_pages (versioned pieces touched) before lobs = []
freed_pages (patched old) before lobs = []
freed_pages removed before lobs = before.lob.page ∷ rest_of (lob_of lobs before.lob.page)
