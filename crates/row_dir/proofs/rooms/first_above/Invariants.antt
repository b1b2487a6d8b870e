use Rattle.std.proofs.Common.{◌≡◌, ◌≤◌, ◌<◌, ◌-◌, ℕ, length, slice_index}
use Rattle.row_dir.proofs.rooms.first_above.Given as goal

abbrev pub invariant-loop-i : goal.invariant-loop-i
invariant-loop-i l = record {
  low : l.fn.from ≤ l.i;
  zeros : (i : ℕ) → l.fn.from ≤ i → i < l.i → i < length l.rooms → slice_index l.rooms i ≡ 0;
}

abbrev pub decreases-loop-i : goal.decreases-loop-i
decreases-loop-i l = length l.rooms - l.i
