use Rattle.std.proofs.Common.{[], ◌∷◌}
use Rattle.engine_base.specs.Disk.{Torn, Written}
use Rattle.file_model.specs.Sections.{armed_place}
use Rattle.file_model.specs.Changes.{SameElsewhere}
use Rattle.file_model.specs.Doublewrite.{InPages}
use Rattle.engine_base.proofs.CrashLemmas.{told_then, ok_map, crash_map, crash_then}
use Rattle.doublewrite.specs.Steps.{headed_numbers, CopyingHeaded, Heading, WhileHeading}
use Rattle.doublewrite.proofs.RepairLemmas.{heading_first, heading_second, heading_done}
use Rattle.doublewrite.proofs.recovery.home_headed.Goals as goal

pub returns-in_err-copy_synced-clause-any_moment : goal.returns-in_err-copy_synced-clause-any_moment
returns-in_err-copy_synced-clause-any_moment g c =
    crash_map (SameElsewhere (InPages c.args.layout.now (headed_numbers c.args.header.now c.args.count))) (WhileHeading c.args.layout.now c.args.header.now c.args.count)
    (heading_first c.args.layout.now c.args.header.now c.args.count c.requires.few c.requires.size) (g.D.Disk.state c.args.disk.now) (g.D.Disk.state c.copy_synced.new.disk) c.copy_synced.ensures.any_moment

pub returns-clause-repairs : goal.returns-clause-repairs
returns-clause-repairs g c =
    ok_map _ _ (told_then (CopyingHeaded c.args.layout.now c.args.header.now c.args.count c.args.count) (Written armed_place (0 ∷ [])) (Heading c.args.layout.now c.args.header.now c.args.count)
    (heading_done c.args.layout.now c.args.header.now c.args.count c.requires.few c.requires.size) (g.D.Disk.state c.args.disk.now).seen (g.D.Disk.state c.copy_synced.new.disk).seen (g.D.Disk.state c.disarm_area.new.disk).seen
    c.in_ok-copy_synced.ensures.copies) c.disarm_area.result c.disarm_area.ensures.written

pub returns-clause-any_moment : goal.returns-clause-any_moment
returns-clause-any_moment g c =
    crash_then (CopyingHeaded c.args.layout.now c.args.header.now c.args.count c.args.count)
    (SameElsewhere (InPages c.args.layout.now (headed_numbers c.args.header.now c.args.count))) (Torn armed_place 1) (WhileHeading c.args.layout.now c.args.header.now c.args.count)
    (heading_first c.args.layout.now c.args.header.now c.args.count c.requires.few c.requires.size) (heading_second c.args.layout.now c.args.header.now c.args.count c.requires.few c.requires.size)
    (g.D.Disk.state c.args.disk.now) (g.D.Disk.state c.copy_synced.new.disk) (g.D.Disk.state c.disarm_area.new.disk) c.copy_synced.ensures.any_moment c.in_ok-copy_synced.ensures.copies c.in_ok-copy_synced.ensures.durable c.disarm_area.ensures.torn
