-- How parts of a store change: rows, logs and LOBs.
--     on_log, on_lob, on_piece      a change of one of them; the others stay
--     with_row, without_row, with_lob, without_lob
use Rattle.std.specs.Prelude.{ℕ, zero, suc, not, List, [], ◌∷◌, ◌++◌, Option, Some, None, ◌==◌, if◌then◌else◌}
use Rattle.std.specs.Ordering.{nat_cmp}
use Rattle.std.specs.FinMap.Entries.{put, where_key}
use Rattle.page_model.specs.Pages.{Address}
use Rattle.store_data.specs.Store.{Row, Piece, Lob, Record, Log, Store}
use Rattle.store_data.specs.Pieces.{all_but_last}

-- ---- lists

abbrev pub last_in : {A : Type 0} → List A → List A
last_in [] = []
last_in (x ∷ []) = x ∷ []
last_in (x ∷ y ∷ ys) = last_in (y ∷ ys)

abbrev pub all_but_first : {A : Type 0} → List A → List A
all_but_first [] = []
all_but_first (x ∷ xs) = xs

-- ---- rows

abbrev pub with_row : ℕ → Row → Store → Store
with_row d row store = record store { rows = put nat_cmp d row store.rows }

abbrev pub without_row : ℕ → Store → Store
without_row d store = record store { rows = where_key nat_cmp (λ n. not (n == d)) store.rows }

-- ---- logs: the first one of a transaction

abbrev pub on_log : ℕ → (Log → Log) → List Log → List Log
on_log trx f [] = []
on_log trx f (l ∷ ls) = if l.trx == trx then f l ∷ ls else l ∷ on_log trx f ls

abbrev pub without_log : ℕ → List Log → List Log
without_log trx [] = []
without_log trx (l ∷ ls) = if l.trx == trx then ls else l ∷ without_log trx ls

abbrev pub log_of : List Log → ℕ → Option Log
log_of [] trx = None
log_of (l ∷ ls) trx = if l.trx == trx then Some l else log_of ls trx

-- a log without its newest record; without records it goes
abbrev pub shrunk : Log → List (Address × Record) → List Log → List Log
shrunk l [] ls = ls
shrunk l (u ∷ us) ls = record l { records = u ∷ us } ∷ ls

abbrev pub without_record : ℕ → List Log → List Log
without_record trx [] = []
without_record trx (l ∷ ls) =
    if l.trx == trx then shrunk l (all_but_first l.records) ls else l ∷ without_record trx ls

-- ---- LOBs: the first one with a first page

abbrev pub on_lob : ℕ → (Lob → Lob) → List Lob → List Lob
on_lob page f [] = []
on_lob page f (l ∷ ls) = if l.page == page then f l ∷ ls else l ∷ on_lob page f ls

abbrev pub without_lob : ℕ → List Lob → List Lob
without_lob page [] = []
without_lob page (l ∷ ls) = if l.page == page then ls else l ∷ without_lob page ls

abbrev pub on_lobs : (List Lob → List Lob) → Store → Store
on_lobs f store = record store { lobs = f store.lobs }

abbrev pub at_version : ℕ → Lob → Lob
at_version v l = record l { version = v }

abbrev pub with_piece : Piece → Lob → Lob
with_piece p l = record l { pieces = l.pieces ++ p ∷ [] }

abbrev pub without_piece : Lob → Lob
without_piece l = record l { pieces = all_but_last l.pieces }

abbrev pub without_index : Lob → Lob
without_index l = record l { index = all_but_first l.index }

abbrev pub on_piece : ℕ → (Piece → Piece) → List Piece → List Piece
on_piece k f [] = []
on_piece zero f (p ∷ ps) = f p ∷ ps
on_piece (suc k) f (p ∷ ps) = p ∷ on_piece k f ps

abbrev pub at_piece : ℕ → (Piece → Piece) → Lob → Lob
at_piece k f l = record l { pieces = on_piece k f l.pieces }

-- the pages of the index and the free nodes of a LOB, as taking or giving back nodes leaves them
abbrev pub with_nodes : List ℕ → List Address → Lob → Lob
with_nodes index free l = record l { index = index; free = free }
