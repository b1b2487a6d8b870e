-- A run put behind others.
use Rattle.std.proofs.Common.{◌≡◌, ℕ, ◌+◌, ◌<◌, ◌≤◌, List, [], ◌∷◌, ◌++◌, length, map, sym, ap, ◌∙◌, arith}
use Rattle.std.proofs.lemmas.List.{length-append, length-map, map-append}
use Rattle.store_data.specs.Store.{Run as OldRun}
use Rattle.undo_model.specs.Old.{old_size}
use Rattle.undo_model.proofs.OldLemmas.{old_size_append}
use Rattle.undo_records.specs.Views.{run_of}
use Rattle.undo_records.specs.declared.runs.Run.{Run}

-- with a run more there are at most 100 runs and 100 old bytes, where there was room for it
pub pushed : (xs new : List Run) (r : Run) (olds : List OldRun) (n : ℕ) → new ≡ xs ++ r ∷ [] → olds ≡ map run_of xs → length (run_of r).bytes ≡ n
    → length olds < 100 → old_size olds + n ≤ 100 → (length new ≤ 100) × (old_size (map run_of new) ≤ 100)
pushed xs new r olds n is view len few small =
    let l : length new ≡ length xs + 1 = ap length is ∙ length-append xs (r ∷ []) in
    let m : length olds ≡ length xs = ap length view ∙ length-map xs run_of in
    let s : old_size (map run_of new) ≡ old_size olds + (length (run_of r).bytes + 0) =
    ap (λ (ys : List Run). old_size (map run_of ys)) is ∙ ap old_size (map-append run_of xs (r ∷ [])) ∙ old_size_append (map run_of xs) (run_of r ∷ []) ∙ ap (λ (ys : List OldRun). old_size ys + (length (run_of r).bytes + 0)) (sym view) in
    (omega (arith, l, m, few), omega (arith, s, len, small))
