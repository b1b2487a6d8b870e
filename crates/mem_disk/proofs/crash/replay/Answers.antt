use Rattle.std.proofs.Common.{◌+◌, List, ℕ, take, drop, vec_capacity, false, if◌then◌else◌, get_or, sym, subst, arith}
use Rattle.mem_disk.specs.declared.mem_disk.Step.{Step}
use Rattle.mem_disk.specs.SureDisk.{overlaid}
use Rattle.mem_disk.specs.MemDisk.{total}
use Rattle.mem_disk.specs.Crash.{replayed}
use Rattle.mem_disk.proofs.ReplayLemmas.{Replays, replays_on}
use Rattle.mem_disk.proofs.crash.replay.Goals as goal

pub loop-step-preserved : goal.loop-step-preserved
loop-step-preserved c =
    let steps = c.args.steps.now in
    let i = c.loop-step.step-index in
    let d : Step = record { is_sync = false; at = 0; len = 0 } in
    let x = get_or steps i d in
    let file = c.loop-step.file.items in
    let rest = c.loop-step.rest.now in
    let all = replayed steps c.args.bytes.now c.args.file.now.items in
    let behind = drop (total steps) c.args.bytes.now in
    let cap = vec_capacity c.make-rest.new.file in
    let grown = c.make-rest.ensures.capacity in
    let kept = c.loop-step.invariant in
    let old = kept.1 in
    let next = replays_on steps i d rest file (vec_capacity c.loop-step.file) cap all behind c.loop-step-test.true grown kept.0 in
    let P : List ℕ → Type 0 = λ r. Replays (drop (i + 1) steps) r (if x.is_sync then file else overlaid file x.at (take x.len rest)) cap all behind in
    let Q : List ℕ → Type 0 = λ f. Replays (drop (i + 1) steps) c.make-rest.result.now f cap all behind in
    (subst Q (sym c.make-rest.ensures.file) (subst P (sym c.make-rest.ensures.rest) next), omega (arith, old, grown))
