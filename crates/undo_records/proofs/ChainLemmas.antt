-- Blocks put behind one another.
use Rattle.std.proofs.Common.{◌≡◌, ℕ, zero, suc, ◌+◌, ◌<◌, ◌≤◌, List, [], ◌∷◌, ◌++◌, length, map, drop, get_or, sym, ap, ◌∙◌, arith, drop-cons, add-one}
use Rattle.std.proofs.lemmas.List.{append_assoc, append-nil, length-append}
use Rattle.byteorder.specs.Endian.{big_bytes}
use Rattle.page_model.specs.Pages.{Address}
use Rattle.undo_model.specs.Data.{Reference, Row, Record}
use Rattle.undo_model.specs.Bytes.{state_code, reference_bytes, row_bytes, kind_code, body_bytes, record_size, record_bytes, run_bytes, runs_bytes}
use Rattle.undo_model.specs.Old.{old_size}
use Rattle.undo_records.specs.Views.{run_of}
use Rattle.undo_records.specs.declared.runs.Run.{Run}

pub then : (o p q a b : List ℕ) → p ≡ o ++ a → q ≡ p ++ b → q ≡ o ++ (a ++ b)
then o p q a b first second = second ∙ ap (λ (x : List ℕ). x ++ b) first ∙ append_assoc o a b

-- the run at a place, and those behind it
pub run_next : (xs : List Run) (i : ℕ) (r : Run) → i < length xs → r ≡ get_or xs i r → runs_bytes (map run_of (drop i xs)) ≡ run_bytes (run_of r) ++ runs_bytes (map run_of (drop (i + 1) xs))
run_next xs i r below is =
    ap (λ (ys : List Run). runs_bytes (map run_of ys)) (drop-cons xs i r below)
    ∙ ap (λ (x : Run). run_bytes (run_of x) ++ runs_bytes (map run_of (drop (suc i) xs))) (sym is)
    ∙ ap (λ (k : ℕ). run_bytes (run_of r) ++ runs_bytes (map run_of (drop k xs))) (sym (add-one i))

-- a run has at most as many old bytes as all runs together
pub old_within : (xs : List Run) (i : ℕ) (r : Run) → i < length xs → r ≡ get_or xs i r → length (run_of r).bytes ≤ old_size (map run_of xs)
old_within [] i r below is = absurd (let f : i < 0 = below in omega arith)
old_within (x ∷ xs) zero r below is = let e : length (run_of r).bytes ≡ length (run_of x).bytes = ap (λ (y : Run). length (run_of y).bytes) is in omega (arith, e)
old_within (x ∷ xs) (suc i) r below is = let ih = old_within xs i r (omega (arith, below)) is in omega (arith, ih)

-- one more run is written
pub run_put : (xs : List Run) (i : ℕ) (r : Run) (whole out new : List ℕ) → i < length xs → r ≡ get_or xs i r → out ++ runs_bytes (map run_of (drop i xs)) ≡ whole
    → new ≡ out ++ runs_bytes (run_of r ∷ []) → new ++ runs_bytes (map run_of (drop (i + 1) xs)) ≡ whole
run_put xs i r whole out new below is inv put =
    let rest = runs_bytes (map run_of (drop (i + 1) xs)) in
    let one = run_bytes (run_of r) in
    ap (λ (n : List ℕ). n ++ rest) (put ∙ ap (λ (b : List ℕ). out ++ b) (append-nil one)) ∙ append_assoc out one rest ∙ ap (λ (b : List ℕ). out ++ b) (sym (run_next xs i r below is)) ∙ inv

-- where start and all runs are within 852 bytes, so is what is written with run i behind it
pub run_room : (xs : List Run) (i : ℕ) (r : Run) (start out : List ℕ) → i < length xs → r ≡ get_or xs i r
    → out ++ runs_bytes (map run_of (drop i xs)) ≡ start ++ runs_bytes (map run_of xs) → length start + length (runs_bytes (map run_of xs)) ≤ 852
    → length out + 7 + length (run_of r).bytes ≤ 852
run_room xs i r start out below is inv room =
    let whole = start ++ runs_bytes (map run_of xs) in
    let w : length whole ≡ length start + length (runs_bytes (map run_of xs)) = length-append start (runs_bytes (map run_of xs)) in
    let a : length whole ≡ length out + length (runs_bytes (map run_of (drop i xs))) = ap length (sym inv) ∙ length-append out _ in
    let b : length (runs_bytes (map run_of (drop i xs))) ≡ length (run_bytes (run_of r)) + length (runs_bytes (map run_of (drop (i + 1) xs))) = ap length (run_next xs i r below is) ∙ length-append (run_bytes (run_of r)) _ in
    omega (arith, a, b, w, room)

-- ---- blocks of a row

-- the fields of a reference, put one behind another, are the reference's bytes
pub reference_put : (o o1 o2 o3 o4 o5 : List ℕ) (r : Reference) → o1 ≡ o ++ big_bytes 4 r.space → o2 ≡ o1 ++ big_bytes 4 r.page → o3 ≡ o2 ++ big_bytes 4 r.version
    → o4 ≡ o3 ++ big_bytes 4 0 → o5 ≡ o4 ++ big_bytes 4 r.length → o5 ≡ o ++ reference_bytes r
reference_put o o1 o2 o3 o4 o5 r a b c d e =
    let l = big_bytes 4 r.length in
    let z = big_bytes 4 0 ++ l in
    let v = big_bytes 4 r.version ++ z in
    let p = big_bytes 4 r.page ++ v in
    then o o1 o5 (big_bytes 4 r.space) p a (then o1 o2 o5 (big_bytes 4 r.page) v b (then o2 o3 o5 (big_bytes 4 r.version) z c (then o3 o4 o5 (big_bytes 4 0) l d e)))

-- the fields of a row and its reference, put one behind another, are the row's bytes
pub row_put : (o o1 o2 o3 o4 : List ℕ) (r : Row) → o1 ≡ o ++ big_bytes 1 (state_code r.state) → o2 ≡ o1 ++ big_bytes 6 r.trx → o3 ≡ o2 ++ big_bytes 7 r.roll → o4 ≡ o3 ++ reference_bytes r.lob
    → o4 ≡ o ++ row_bytes r
row_put o o1 o2 o3 o4 r a b c d =
    let l = reference_bytes r.lob in
    let p = big_bytes 7 r.roll ++ l in
    let t = big_bytes 6 r.trx ++ p in
    then o o1 o4 (big_bytes 1 (state_code r.state)) t a (then o1 o2 o4 (big_bytes 6 r.trx) p b (then o2 o3 o4 (big_bytes 7 r.roll) l c d))

-- a record's parts: length, kind, number, document, row, the record before, body
pub record_put : (o1 o2 o3 o4 o5 o6 o7 o8 : List ℕ) (r : Record) (a : Address) → o1 ≡ big_bytes 2 (record_size r) → o2 ≡ o1 ++ big_bytes 1 (kind_code r.body) → o3 ≡ o2 ++ big_bytes 4 r.number
    → o4 ≡ o3 ++ big_bytes 4 r.doc → o5 ≡ o4 ++ row_bytes r.before → o6 ≡ o5 ++ big_bytes 4 a.page → o7 ≡ o6 ++ big_bytes 2 a.at → o8 ≡ o7 ++ body_bytes r.body → o8 ≡ record_bytes r a
record_put o1 o2 o3 o4 o5 o6 o7 o8 r a e1 e2 e3 e4 e5 e6 e7 e8 =
    let b = body_bytes r.body in
    let addr = big_bytes 4 a.page ++ big_bytes 2 a.at in
    let x6 : o8 ≡ o5 ++ (addr ++ b) = then o5 o7 o8 addr b (then o5 o6 o7 (big_bytes 4 a.page) (big_bytes 2 a.at) e6 e7) e8 in
    let t4 = row_bytes r.before ++ (addr ++ b) in
    let t3 = big_bytes 4 r.doc ++ t4 in
    let t2 = big_bytes 4 r.number ++ t3 in
    let x2 : o8 ≡ o2 ++ t2 = then o2 o3 o8 (big_bytes 4 r.number) t3 e3 (then o3 o4 o8 (big_bytes 4 r.doc) t4 e4 (then o4 o5 o8 (row_bytes r.before) (addr ++ b) e5 x6)) in
    then [] o1 o8 (big_bytes 2 (record_size r)) (big_bytes 1 (kind_code r.body) ++ t2) e1 (then o1 o2 o8 (big_bytes 1 (kind_code r.body)) t2 e2 x2)
