-- How many bytes runs have.
use Rattle.std.proofs.Common.{◌≡◌, ℕ, suc, ◌+◌, ◌*◌, ◌<◌, List, [], ◌∷◌, length, map, drop, get_or, sym, ap, ◌∙◌, arith, drop-cons, add-one}
use Rattle.store_data.specs.Store.{Run as OldRun}
use Rattle.undo_model.specs.Data.{patched}
use Rattle.undo_model.specs.Bytes.{runs_bytes, body_bytes}
use Rattle.undo_model.specs.Old.{old_size}
use Rattle.undo_model.proofs.SizeLemmas.{run_size}
use Rattle.undo_records.specs.Views.{run_of}
use Rattle.undo_records.specs.declared.runs.Run.{Run}

pub runs_length : (runs : List OldRun) → length (runs_bytes runs) ≡ 7 * length runs + old_size runs
runs_length [] = omega arith
runs_length (r ∷ more) = let ih = runs_length more in let s = run_size r more in omega (arith, ih, s)

pub patched_bytes : (runs : List OldRun) → length (body_bytes (patched runs)) ≡ 1 + 7 * length runs + old_size runs
patched_bytes runs = let r = runs_length runs in omega (arith, r)

-- the old bytes of the runs from the i-th on are its own and those of the runs behind it
pub next_old : (runs : List Run) (i : ℕ) (r : Run) → i < length runs → r ≡ get_or runs i r → old_size (map run_of (drop i runs)) ≡ length (run_of r).bytes + old_size (map run_of (drop (i + 1) runs))
next_old runs i r below is =
    ap (λ (ys : List Run). old_size (map run_of ys)) (drop-cons runs i r below)
    ∙ ap (λ (x : Run). length (run_of x).bytes + old_size (map run_of (drop (suc i) runs))) (sym is)
    ∙ ap (λ (k : ℕ). length (run_of r).bytes + old_size (map run_of (drop k runs))) (sym (add-one i))
