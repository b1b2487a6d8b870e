use Rattle.std.proofs.Common.{[], ◌∷◌}
use Rattle.engine_base.specs.Disk.{Torn, Written}
use Rattle.file_model.specs.Sections.{armed_place}
use Rattle.engine_base.proofs.CrashLemmas.{told_map, ok_map, crash_map, crash_tear}
use Rattle.doublewrite.specs.Steps.{Resting, WhileResting}
use Rattle.doublewrite.proofs.StepLemmas.{resting_torn, resting_done}
use Rattle.doublewrite.proofs.area.disarm_area.Goals as goal

pub returns-clause-rests : goal.returns-clause-rests
returns-clause-rests g c l batch =
    ok_map _ _ (told_map (Written armed_place (0 ∷ [])) (Resting l batch) (resting_done l batch) (g.D.Disk.state c.args.disk.now).seen (g.D.Disk.state c.write_synced.new.disk).seen) c.write_synced.result c.write_synced.ensures.written

pub returns-clause-any_moment : goal.returns-clause-any_moment
returns-clause-any_moment g c l batch =
    crash_map (Torn armed_place 1) (WhileResting l batch) (resting_torn l batch) (g.D.Disk.state c.args.disk.now) (g.D.Disk.state c.write_synced.new.disk)
    (crash_tear armed_place 1 (g.D.Disk.state c.args.disk.now) (g.D.Disk.state c.write_synced.new.disk) c.write_synced.ensures.any_moment)

pub returns-clause-torn : goal.returns-clause-torn
returns-clause-torn g c = crash_tear armed_place 1 (g.D.Disk.state c.args.disk.now) (g.D.Disk.state c.write_synced.new.disk) c.write_synced.ensures.any_moment
