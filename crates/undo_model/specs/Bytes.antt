-- An undo record as bytes, with the address of the record before it in its log. Numbers are
-- big-endian.
use Rattle.std.specs.Prelude.{ℕ, ◌+◌, Bool, true, false, List, [], ◌∷◌, ◌++◌, length}
use Rattle.byteorder.specs.Endian.{big_bytes}
use Rattle.page_model.specs.Pages.{Address, address_bytes}
use Rattle.store_data.specs.Store.{RowState, absent, live, deleted, Run}
use Rattle.undo_model.specs.Data.{Reference, Row, Body, inserted, rebuilt, versioned, patched, removed, Record}

abbrev pub state_code : RowState → ℕ
state_code absent = 0
state_code live = 1
state_code deleted = 2

-- 20 bytes; the flags in the high bytes of the length are zero
abbrev pub reference_bytes : Reference → List ℕ
reference_bytes r = big_bytes 4 r.space ++
    (big_bytes 4 r.page ++ (big_bytes 4 r.version ++ (big_bytes 4 0 ++ big_bytes 4 r.length)))

-- 34 bytes
abbrev pub row_bytes : Row → List ℕ
row_bytes r = big_bytes 1 (state_code r.state) ++
    (big_bytes 6 r.trx ++ (big_bytes 7 r.roll ++ reference_bytes r.lob))

-- page, offset, length, the old bytes
abbrev pub run_bytes : Run → List ℕ
run_bytes r = big_bytes 4 r.page ++ (big_bytes 2 r.at ++ (big_bytes 1 (length r.bytes) ++ r.bytes))

abbrev pub runs_bytes : List Run → List ℕ
runs_bytes [] = []
runs_bytes (r ∷ more) = run_bytes r ++ runs_bytes more

abbrev pub kind_code : Body → ℕ
kind_code (inserted page) = 1
kind_code (rebuilt page) = 2
kind_code (versioned pieces bits) = 3
kind_code (patched runs) = 4
kind_code removed = 5

abbrev pub body_bytes : Body → List ℕ
body_bytes (inserted page) = big_bytes 4 page
body_bytes (rebuilt page) = big_bytes 4 page
body_bytes (versioned pieces bits) = big_bytes 4 pieces ++ bits
body_bytes (patched runs) = big_bytes 1 (length runs) ++ runs_bytes runs
body_bytes removed = []

-- how many bytes stand before the body
abbrev pub head_size : ℕ
head_size = 51

abbrev pub record_size : Record → ℕ
record_size r = head_size + length (body_bytes r.body)

-- length, kind, number, document, the row before, the record before, and the body
abbrev pub record_bytes : Record → Address → List ℕ
record_bytes r previous =
    big_bytes 2 (record_size r) ++
    (big_bytes 1 (kind_code r.body) ++ (big_bytes 4 r.number ++ (big_bytes 4 r.doc
    ++ (row_bytes r.before ++ (address_bytes previous ++ body_bytes r.body)))))

-- the record is that of a new document
abbrev pub is_insert : Body → Bool
is_insert (inserted page) = true
is_insert (rebuilt page) = false
is_insert (versioned pieces bits) = false
is_insert (patched runs) = false
is_insert removed = false
