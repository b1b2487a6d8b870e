-- Runs written one after the other.
use Rattle.std.proofs.Common.{◌≡◌, ◌≤◌, ℕ, List, length, map, drop, sym, ap, ◌∙◌}
use Rattle.std.proofs.lemmas.List.{drop_all}
use Rattle.binary_model.specs.Change.{Run, runs, put_all, put_back}
use Rattle.binary_model.proofs.runs.RunLemmas.{runs_applied}
use Rattle.binary_model.proofs.runs.MaximalLemmas.{runs_put_back}
use Rattle.json_patch.specs.declared.parts.Patch.{Patch}
use Rattle.json_patch.specs.View.{run_of}

-- the runs of the patches from number i on
abbrev pub left_runs : List Patch → ℕ → List Run
left_runs items i = map run_of (drop i items)

-- with no patch left to put, the bytes are the new ones, if the patches are the runs to these
pub all_put : (items : List Patch) (i : ℕ) (bytes old new : List ℕ) → length items ≤ i → put_all (left_runs items i) bytes ≡ put_all (map run_of items) old
    → length old ≡ length new → map run_of items ≡ runs old new → bytes ≡ new
all_put items i bytes old new high whole e same =
    sym (ap (λ ps. put_all (map run_of ps) bytes) (drop_all i items high)) ∙ whole ∙ ap (λ rs. put_all rs old) same ∙ runs_applied old new e

-- with no patch left to take back, the bytes are the old ones, where the patches are the runs from
-- these
pub all_back : (items : List Patch) (i : ℕ) (bytes old new : List ℕ) → length items ≤ i → put_back (left_runs items i) bytes ≡ put_back (map run_of items) new
    → length old ≡ length new → map run_of items ≡ runs old new → bytes ≡ old
all_back items i bytes old new high whole e same =
    sym (ap (λ ps. put_back (map run_of ps) bytes) (drop_all i items high)) ∙ whole ∙ ap (λ rs. put_back rs new) same ∙ runs_put_back old new e
