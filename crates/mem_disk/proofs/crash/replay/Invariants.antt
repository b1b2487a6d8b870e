use Rattle.std.proofs.Common.{◌≤◌, drop, vec_capacity}
use Rattle.mem_disk.specs.MemDisk.{total}
use Rattle.mem_disk.specs.Crash.{replayed}
use Rattle.mem_disk.proofs.ReplayLemmas.{Replays}
use Rattle.mem_disk.proofs.crash.replay.Given as goal

abbrev pub invariant-loop-step : goal.invariant-loop-step
invariant-loop-step l =
    Replays (drop l.step-index l.steps) l.rest l.file.items (vec_capacity l.file) (replayed l.steps l.bytes l.initial.file.items) (drop (total l.steps) l.bytes)
    × (vec_capacity l.initial.file ≤ vec_capacity l.file)
