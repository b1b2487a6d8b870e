use Rattle.std.proofs.Common.{[], ◌∷◌}
use Rattle.engine_base.specs.Disk.{Torn, Written}
use Rattle.file_model.specs.Sections.{live_place}
use Rattle.page_device.specs.Device.{SetsLive, MaySetLive}
use Rattle.engine_base.proofs.CrashLemmas.{told_map, ok_map, crash_map, crash_tear}
use Rattle.page_device.proofs.DeviceLemmas.{live_torn, live_set}
use Rattle.page_device.proofs.region.set_live.Goals as goal

pub returns-clause-sets : goal.returns-clause-sets
returns-clause-sets g c =
    ok_map _ _ (told_map (Written live_place (c.args.region ∷ [])) (SetsLive c.args.region) (live_set c.args.region c.requires) (g.D.Disk.state c.args.disk.now).seen (g.D.Disk.state c.write_synced.new.disk).seen) c.write_synced.result c.write_synced.ensures.written

pub returns-clause-torn : goal.returns-clause-torn
returns-clause-torn g c = told_map (Torn live_place 1) MaySetLive live_torn (g.D.Disk.state c.args.disk.now).seen (g.D.Disk.state c.write_synced.new.disk).seen c.write_synced.ensures.torn

pub returns-clause-any_moment : goal.returns-clause-any_moment
returns-clause-any_moment g c =
    crash_map (Torn live_place 1) MaySetLive live_torn (g.D.Disk.state c.args.disk.now) (g.D.Disk.state c.write_synced.new.disk)
    (crash_tear live_place 1 (g.D.Disk.state c.args.disk.now) (g.D.Disk.state c.write_synced.new.disk) c.write_synced.ensures.any_moment)
