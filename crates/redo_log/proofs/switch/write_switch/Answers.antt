use Rattle.std.proofs.Common.{length, ap, ◌∙◌}
use Rattle.engine_base.specs.Disk.{Torn, Written}
use Rattle.page_device.specs.Device.{SetsLive, MaySetLive}
use Rattle.engine_base.proofs.CrashLemmas.{told_then, ok_map, crash_map, crash_tear, crash_then}
use Rattle.redo_log.specs.Switches.{region_head, Switching, WhileSwitching}
use Rattle.redo_log.proofs.SwitchLemmas.{code_torn, code_second, code_done}
use Rattle.redo_log.proofs.switch.write_switch.Goals as goal

pub returns-in_err-write_synced-clause-any_moment :
    goal.returns-in_err-write_synced-clause-any_moment
returns-in_err-write_synced-clause-any_moment g c s limits most which place start =
    let are = c.region_head.ensures ∙ ap region_head start in
    crash_map (Torn c.args.place (length c.region_head.result)) (WhileSwitching s)
    (code_torn s limits most c.args.place c.args.region c.region_head.result place which are) (g.D.Disk.state c.args.disk.now) (g.D.Disk.state c.write_synced.new.disk)
    (crash_tear c.args.place (length c.region_head.result) (g.D.Disk.state c.args.disk.now) (g.D.Disk.state c.write_synced.new.disk) c.write_synced.ensures.any_moment)

pub returns-clause-switches : goal.returns-clause-switches
returns-clause-switches g c s limits most which place start =
    let are = c.region_head.ensures ∙ ap region_head start in
    ok_map _ _ (told_then (Written c.args.place c.region_head.result) (SetsLive c.args.region) (Switching s)
    (code_done s limits most c.args.place c.args.region c.region_head.result place which are) (g.D.Disk.state c.args.disk.now).seen (g.D.Disk.state c.write_synced.new.disk).seen (g.D.Disk.state c.set_live.new.disk).seen
    c.in_ok-write_synced.ensures.written) c.set_live.result c.set_live.ensures.sets

pub returns-clause-any_moment : goal.returns-clause-any_moment
returns-clause-any_moment g c s limits most which place start =
    let are = c.region_head.ensures ∙ ap region_head start in
    crash_then (Written c.args.place c.region_head.result) (Torn c.args.place (length c.region_head.result)) MaySetLive (WhileSwitching s)
    (code_torn s limits most c.args.place c.args.region c.region_head.result place which are) (code_second s limits most c.args.place c.args.region c.region_head.result place which are)
    (g.D.Disk.state c.args.disk.now) (g.D.Disk.state c.write_synced.new.disk) (g.D.Disk.state c.set_live.new.disk)
    (crash_tear c.args.place (length c.region_head.result) (g.D.Disk.state c.args.disk.now) (g.D.Disk.state c.write_synced.new.disk) c.write_synced.ensures.any_moment)
    c.in_ok-write_synced.ensures.written c.in_ok-write_synced.ensures.durable c.set_live.ensures.any_moment
