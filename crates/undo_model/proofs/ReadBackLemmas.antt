-- A record's bytes are read as that record.
use Rattle.std.proofs.Common.{◌≡◌, ℕ, suc, ◌+◌, ◌-◌, ◌^◌, ◌<◌, ◌≤◌, ◌==◌, ◌&&◌, Bool, true, cond, List, [], ◌∷◌, ◌++◌, length, take, drop, slice_index, Option, Some, None, refl, sym, ap, ap₂, ◌∙◌, arith, nat_lt, nat_le}
use Rattle.std.specs.Option.{option_and_then}
use Rattle.std.proofs.lemmas.List.{drop-drop, length-append}
use Rattle.std.proofs.Math.Seq.{take-append_seam, drop-append_seam}
use Rattle.std.proofs.lemmas.Bool.{lt-ltb, le-leb, eq-eqb}
use Rattle.byteorder.specs.Endian.{big_number, big_bytes}
use Rattle.page_model.specs.Pages.{Address, address_bytes}
use Rattle.store_data.specs.Store.{RowState, absent, live, deleted, Run}
use Rattle.undo_model.specs.Data.{Reference, Row, Body, inserted, rebuilt, versioned, patched, removed, Record}
use Rattle.undo_model.specs.Bytes.{state_code, reference_bytes, row_bytes, runs_bytes, kind_code, body_bytes, record_bytes}
use Rattle.undo_model.specs.Reading.{state_of, reference_in, row_with, row_in, runs_in, is_run, bitmap_size, new_lob_in, versioned_in, patched_in, body_in, record_in, max_pieces, max_runs, max_old, IsSoundRow, AreSoundRuns, IsSoundBody, IsSoundRecord, IsSoundPrevious, is_previous, is_pointer, is_reference}
use Rattle.undo_model.proofs.BlockLemmas.{number_first, number_alone, byte_first}

-- ---- the row

state_back : (s : RowState) (rest : List ℕ) → state_of (slice_index (big_bytes 1 (state_code s) ++ rest) 0) ≡ Some s
state_back absent rest = refl
state_back live rest = refl
state_back deleted rest = refl

reference_back : (r : Reference) (rest : List ℕ) → r.space < 256 ^ 4 → r.page < 256 ^ 4 → r.version < 256 ^ 4 → r.length < 256 ^ 4
    → reference_in (reference_bytes r ++ rest) ≡ r
reference_back r rest s p v l =
    let bytes = reference_bytes r ++ rest in
    let e1 : big_number 4 bytes ≡ r.space = number_first 4 r.space (big_bytes 4 r.page ++ (big_bytes 4 r.version ++ (big_bytes 4 0 ++ (big_bytes 4 r.length ++ rest)))) s in
    let e2 : big_number 4 (drop 4 bytes) ≡ r.page = number_first 4 r.page (big_bytes 4 r.version ++ (big_bytes 4 0 ++ (big_bytes 4 r.length ++ rest))) p in
    let e3 : big_number 4 (drop 8 bytes) ≡ r.version = number_first 4 r.version (big_bytes 4 0 ++ (big_bytes 4 r.length ++ rest)) v in
    let e4 : big_number 4 (drop 16 bytes) ≡ r.length = number_first 4 r.length rest l in
    let B : ℕ → ℕ → ℕ → ℕ → Reference = λ a b c d. record { space = a; page = b; version = c; length = d } in
    ap₂ (λ (a b : ℕ). B a b (big_number 4 (drop 8 bytes)) (big_number 4 (drop 16 bytes))) e1 e2 ∙ ap₂ (λ (c d : ℕ). B r.space r.page c d) e3 e4

-- what a row's fields give, once they are known
row_known : (count : ℕ) (r : Row) (s : Option RowState) (t p : ℕ) (l : Reference) → s ≡ Some r.state → t ≡ r.trx → p ≡ r.roll → l ≡ r.lob
    → is_pointer count r.roll ≡ true → is_reference count r.lob ≡ true → option_and_then (row_with count t p l) s ≡ Some r
row_known count r s t p l es et ep el sound sound' =
    ap (option_and_then (row_with count t p l)) es
    ∙ ap₂ (λ (a b : ℕ). row_with count a b l r.state) et ep
    ∙ ap (λ (m : Reference). row_with count r.trx r.roll m r.state) el
    ∙ ap₂ (λ (x y : Bool). cond (x && y) (Some (let k : Row = record { state = r.state; trx = r.trx; roll = r.roll; lob = r.lob } in k)) None) sound sound'

row_back : (count : ℕ) (r : Row) (rest : List ℕ) → IsSoundRow count r → row_in count (row_bytes r ++ rest) ≡ Some r
row_back count r rest sound =
    let bytes = row_bytes r ++ rest in
    let t4 = reference_bytes r.lob ++ rest in
    let t3 = big_bytes 7 r.roll ++ t4 in
    row_known count r (state_of (slice_index bytes 0)) (big_number 6 (drop 1 bytes)) (big_number 7 (drop 7 bytes)) (reference_in (drop 14 bytes))
    (state_back r.state (big_bytes 6 r.trx ++ t3))
    (number_first 6 r.trx t3 sound.trx)
    (number_first 7 r.roll t4 sound.roll_fits)
    (reference_back r.lob rest sound.space sound.page_fits sound.version sound.length_fits)
    sound.roll sound.lob

-- ---- the body

known_true : {X : Type 0} (b : Bool) (x y : X) → b ≡ true → cond b x y ≡ x
known_true b x y e = ap (λ (a : Bool). cond a x y) e

both_true : (a b : Bool) → a ≡ true → b ≡ true → (a && b) ≡ true
both_true a b p q = ap₂ (λ (x y : Bool). x && y) p q

lob_back : (count page : ℕ) (body : ℕ → Body) → page < count → page < 256 ^ 4 → new_lob_in count body (big_bytes 4 page) ≡ Some (body page)
lob_back count page body below small =
    let n : big_number 4 (big_bytes 4 page) ≡ page = number_alone 4 page small in
    ap (λ (m : ℕ). cond ((length (big_bytes 4 page) == 4) && (let b : Bool = nat_lt m count in b)) (Some (body m)) None) n
    ∙ known_true _ (Some (body page)) None (lt-ltb page count below)

versioned_back : (pieces : ℕ) (bits : List ℕ) → pieces ≤ max_pieces → length bits ≡ bitmap_size pieces
    → versioned_in (big_bytes 4 pieces ++ bits) ≡ Some (versioned pieces bits)
versioned_back pieces bits few len =
    let bytes = big_bytes 4 pieces ++ bits in
    let n : big_number 4 bytes ≡ pieces = number_first 4 pieces bits (omega arith) in
    let size : length bytes ≡ 4 + length bits = length-append (big_bytes 4 pieces) bits in
    ap (λ (m : ℕ). cond (nat_le 4 (length bytes) && (nat_le m max_pieces && (length bytes == 4 + bitmap_size m))) (Some (versioned m (drop 4 bytes))) None) n
    ∙ known_true _ (Some (versioned pieces bits)) None
    (both_true _ _ (le-leb 4 (length bytes) (omega (arith, size))) (both_true _ _ (le-leb pieces max_pieces few) (eq-eqb (length bytes) (4 + bitmap_size pieces) (size ∙ ap (λ (m : ℕ). 4 + m) len))))

runs_known : (count left n page at size : ℕ) (bytes rest : List ℕ) (r : Run) (more : List Run)
    → big_number 4 bytes ≡ r.page → big_number 2 (drop 4 bytes) ≡ r.at → slice_index bytes 6 ≡ length r.bytes → take (length r.bytes) (drop 7 bytes) ≡ r.bytes → drop (7 + length r.bytes) bytes ≡ rest
    → 7 + length r.bytes ≤ length bytes → length r.bytes ≤ left → is_run count r.page r.at (length r.bytes) ≡ true
    → runs_in count n (left - length r.bytes) rest ≡ Some more → runs_in count (suc n) left bytes ≡ Some (r ∷ more)
runs_known count left n page at size bytes rest r more p a s o d fits few sound ih = rw (s, p, a, o, d, ih, sound, le-leb _ _ fits, le-leb _ _ few) refl

runs_back : (count left : ℕ) (runs : List Run) → left < 256 → AreSoundRuns count left runs → runs_in count (length runs) left (runs_bytes runs) ≡ Some runs
runs_back count left [] small sound = refl
runs_back count left (r ∷ more) small sound =
    let n = length r.bytes in
    let rest = runs_bytes more in
    let t = r.bytes ++ rest in
    let bytes = big_bytes 4 r.page ++ (big_bytes 2 r.at ++ (big_bytes 1 n ++ t)) in
    let same : runs_bytes (r ∷ more) ≡ bytes = refl in
    let ih = runs_back count (left - n) more (omega arith) sound.4 in
    runs_known count left (length more) r.page r.at n bytes rest r more
    (number_first 4 r.page (big_bytes 2 r.at ++ (big_bytes 1 n ++ t)) sound.0)
    (number_first 2 r.at (big_bytes 1 n ++ t) sound.1)
    (byte_first n t (omega (arith, sound.2)))
    (take-append_seam r.bytes rest)
    (sym (drop-drop n 7 bytes) ∙ drop-append_seam r.bytes rest)
    (let l : length t ≡ n + length rest = length-append r.bytes rest in omega (arith, l))
    sound.2 sound.3 ih

patched_back : (count : ℕ) (runs : List Run) → length runs ≤ max_runs → AreSoundRuns count max_old runs
    → patched_in count (big_bytes 1 (length runs) ++ runs_bytes runs) ≡ Some (patched runs)
patched_back count runs few sound =
    let bytes = big_bytes 1 (length runs) ++ runs_bytes runs in
    let n : slice_index bytes 0 ≡ length runs = byte_first (length runs) (runs_bytes runs) (omega arith) in
    rw (n, runs_back count max_old runs (omega arith) sound, le-leb 1 (length bytes) (let l : length bytes ≡ 1 + length (runs_bytes runs) = length-append (big_bytes 1 (length runs)) (runs_bytes runs) in omega (arith, l)), le-leb _ _ few) refl

body_back : (count : ℕ) (b : Body) → IsSoundBody count b → body_in count (kind_code b) (body_bytes b) ≡ Some b
body_back count (inserted page) sound = lob_back count page inserted sound.0 sound.1
body_back count (rebuilt page) sound = lob_back count page rebuilt sound.0 sound.1
body_back count (versioned pieces bits) sound = versioned_back pieces bits sound.0 sound.1
body_back count (patched runs) sound = patched_back count runs sound.0 sound.1
body_back count removed sound = refl

kind_fits : (b : Body) → kind_code b < 256
kind_fits (inserted page) = omega arith
kind_fits (rebuilt page) = omega arith
kind_fits (versioned pieces bits) = omega arith
kind_fits (patched runs) = omega arith
kind_fits removed = omega arith

-- ---- the record

record_known : (count : ℕ) (bytes : List ℕ) (r : Record) (previous : Address) → big_number 4 (drop 45 bytes) ≡ previous.page → big_number 2 (drop 49 bytes) ≡ previous.at → is_previous count previous.page previous.at ≡ true
    → row_in count (drop 11 bytes) ≡ Some r.before → body_in count (slice_index bytes 2) (drop 51 bytes) ≡ Some r.body
    → big_number 4 (drop 3 bytes) ≡ r.number → big_number 4 (drop 7 bytes) ≡ r.doc
    → record_in count bytes ≡ Some (record { undo = r; previous = previous })
record_known count bytes r previous p q allowed row body n d = rw (p, q, allowed, row, body, n, d) refl

-- the bytes of a sound record are read as the record and the address of the previous one
pub record_back : (count : ℕ) (r : Record) (previous : Address) → IsSoundRecord count r → IsSoundPrevious count previous
    → record_in count (record_bytes r previous) ≡ Some (record { undo = r; previous = previous })
record_back count r previous sound sound' =
    let b = body_bytes r.body in
    let t6 = address_bytes previous ++ b in
    let t5 = row_bytes r.before ++ t6 in
    let t4 = big_bytes 4 r.doc ++ t5 in
    let t3 = big_bytes 4 r.number ++ t4 in
    let t2 = big_bytes 1 (kind_code r.body) ++ t3 in
    let bytes = record_bytes r previous in
    let kind : slice_index bytes 2 ≡ kind_code r.body = byte_first (kind_code r.body) t3 (kind_fits r.body) in
    record_known count bytes r previous
    (number_first 4 previous.page (big_bytes 2 previous.at ++ b) sound'.page)
    (number_first 2 previous.at b sound'.at)
    sound'.allowed
    (row_back count r.before t6 sound.before)
    (ap (λ (k : ℕ). body_in count k b) kind ∙ body_back count r.body sound.body)
    (number_first 4 r.number t4 sound.number)
    (number_first 4 r.doc t5 sound.doc)
