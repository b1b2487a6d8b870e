use Rattle.std.proofs.Common.{◌≡◌, ℕ, List, length}
use Rattle.json_patch.specs.Writes.{put_writes, AreInside}
use Rattle.json_patch.specs.Spans.{DifferInSpans}
use Rattle.json_patch.proofs.WriteLemmas.{left_writes}
use Rattle.json_patch.proofs.writes.write_all.Given as goal

abbrev pub invariant-loop-write : goal.invariant-loop-write
invariant-loop-write l = AreInside (length l.bytes) (left_writes l.writes l.write-index)
    × (put_writes (left_writes l.writes l.write-index) l.bytes ≡ put_writes l.writes l.initial.bytes)
    × ((old : List ℕ) → DifferInSpans old l.initial.bytes l.initial.spans.items → DifferInSpans old l.bytes l.spans.items)
