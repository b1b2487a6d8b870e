use Rattle.std.proofs.Common.{◌≡◌, ℕ, List, length, map, take, drop}
use Rattle.binary_model.specs.Change.{runs, written}
use Rattle.json_patch.specs.View.{run_of}
use Rattle.json_patch.proofs.touched.add_bytes.Given as goal

abbrev pub invariant-loop-k : goal.invariant-loop-k
invariant-loop-k l = (new : List ℕ) → length new ≡ length l.bytes → drop l.at new ≡ drop l.at l.bytes → map run_of l.initial.patches.items ≡ runs l.bytes new
    → map run_of l.patches.items ≡ runs l.bytes (written new l.at (take l.k l.after))
