-- Old bytes put back, one after the other.
use Rattle.std.proofs.Common.{◌≡◌, ℕ, ◌+◌, ◌<◌, List, length, map, drop, get_or, sym, ap, ◌∙◌, arith, drop-cons, add-one}
use Rattle.undo_model.specs.Old.{put_byte, put_from, put_run, put_runs}
use Rattle.undo_records.specs.Views.{run_of}
use Rattle.undo_records.specs.declared.runs.Run.{Run}

pub byte_put : (base at i b : ℕ) (old buf new whole : List ℕ) → i < length old → b ≡ get_or old i 0 → put_from base (at + i) (drop i old) buf ≡ whole → new ≡ put_byte base (at + i) b buf
    → put_from base (at + (i + 1)) (drop (i + 1) old) new ≡ whole
byte_put base at i b old buf new whole below is inv put =
    ap (put_from base (at + (i + 1)) (drop (i + 1) old)) (put ∙ ap (λ (x : ℕ). put_byte base (at + i) x buf) is)
    ∙ ap (λ (k : ℕ). put_from base k (drop (i + 1) old) (put_byte base (at + i) (get_or old i 0) buf)) (omega arith)
    ∙ ap (λ (k : ℕ). put_from base (at + i + 1) (drop k old) (put_byte base (at + i) (get_or old i 0) buf)) (add-one i)
    ∙ ap (λ (xs : List ℕ). put_from base (at + i) xs buf) (sym (drop-cons old i 0 below)) ∙ inv

pub run_next : (page base i : ℕ) (r : Run) (runs : List Run) (buf new whole : List ℕ) → i < length runs → r ≡ get_or runs i r → put_runs page base (map run_of (drop i runs)) buf ≡ whole → new ≡ put_run page base (run_of r) buf
    → put_runs page base (map run_of (drop (i + 1) runs)) new ≡ whole
run_next page base i r runs buf new whole below is inv put =
    ap (put_runs page base (map run_of (drop (i + 1) runs))) (put ∙ ap (λ (x : Run). put_run page base (run_of x) buf) is)
    ∙ ap (λ (k : ℕ). put_runs page base (map run_of (drop k runs)) (put_run page base (run_of (get_or runs i r)) buf)) (add-one i)
    ∙ ap (λ (xs : List Run). put_runs page base (map run_of xs) buf) (sym (drop-cons runs i r below)) ∙ inv
