use Rattle.std.proofs.Common.{length, [], ◌∷◌}
use Rattle.engine_base.specs.Disk.{Torn, Written}
use Rattle.file_model.specs.Sections.{armed_place, count_place}
use Rattle.engine_base.proofs.CrashLemmas.{told_then, ok_map, crash_map, crash_tear, crash_then}
use Rattle.doublewrite.specs.Batches.{batch_of}
use Rattle.doublewrite.specs.Steps.{Arming, WhileArming}
use Rattle.doublewrite.proofs.StepLemmas.{arming_first, arming_second, arming_done}
use Rattle.doublewrite.proofs.area.arm_area.Goals as goal

pub returns-in_err-write_synced-clause-any_moment : goal.returns-in_err-write_synced-clause-any_moment
returns-in_err-write_synced-clause-any_moment g c l count keeps =
    crash_map (Torn count_place (length c.args.buffer.now)) (WhileArming l (batch_of count c.args.buffer.now))
    (arming_first l count c.args.buffer.now keeps) (g.D.Disk.state c.args.disk.now) (g.D.Disk.state c.write_synced.new.disk)
    (crash_tear count_place (length c.args.buffer.now) (g.D.Disk.state c.args.disk.now) (g.D.Disk.state c.write_synced.new.disk) c.write_synced.ensures.any_moment)

pub returns-clause-arms : goal.returns-clause-arms
returns-clause-arms g c l count keeps =
    ok_map _ _ (told_then (Written count_place c.args.buffer.now) (Written armed_place (1 ∷ [])) (Arming l (batch_of count c.args.buffer.now))
    (arming_done l count c.args.buffer.now keeps) (g.D.Disk.state c.args.disk.now).seen (g.D.Disk.state c.write_synced.new.disk).seen (g.D.Disk.state c.write_synced-2.new.disk).seen
    c.in_ok-write_synced.ensures.written) c.write_synced-2.result c.write_synced-2.ensures.written

pub returns-clause-any_moment : goal.returns-clause-any_moment
returns-clause-any_moment g c l count keeps =
    crash_then (Written count_place c.args.buffer.now) (Torn count_place (length c.args.buffer.now)) (Torn armed_place 1)
    (WhileArming l (batch_of count c.args.buffer.now))
    (arming_first l count c.args.buffer.now keeps) (arming_second l count c.args.buffer.now keeps)
    (g.D.Disk.state c.args.disk.now) (g.D.Disk.state c.write_synced.new.disk) (g.D.Disk.state c.write_synced-2.new.disk)
    (crash_tear count_place (length c.args.buffer.now) (g.D.Disk.state c.args.disk.now) (g.D.Disk.state c.write_synced.new.disk) c.write_synced.ensures.any_moment)
    c.in_ok-write_synced.ensures.written c.in_ok-write_synced.ensures.durable
    (crash_tear armed_place 1 (g.D.Disk.state c.write_synced.new.disk) (g.D.Disk.state c.write_synced-2.new.disk) c.write_synced-2.ensures.any_moment)
