use Rattle.redo_log.proofs.StageLemmas.{told_one, told_two, ok_opened, run_one, run_two}
use Rattle.redo_log.proofs.block.write_block.Goals as goal

pub returns-in_err-write_synced-clause-stage : goal.returns-in_err-write_synced-clause-stage
returns-in_err-write_synced-clause-stage g c = told_one c.args.gate c.args.bytes.now _ _ c.write_synced.ensures.torn

pub returns-in_err-write_synced-clause-any_moment : goal.returns-in_err-write_synced-clause-any_moment
returns-in_err-write_synced-clause-any_moment g c =
    run_one c.args.gate c.args.bytes.now (g.D.Disk.state c.args.disk.now).seen (g.D.Disk.state c.args.disk.now) (g.D.Disk.state c.write_synced.new.disk) c.write_synced.ensures.any_moment

pub returns-clause-written : goal.returns-clause-written
returns-clause-written g c =
    ok_opened c.args.gate c.args.bytes.now c.write_synced-2.result (g.D.Disk.state c.args.disk.now).seen (g.D.Disk.state c.write_synced.new.disk).seen (g.D.Disk.state c.write_synced-2.new.disk).seen
    c.requires.some c.in_ok-write_synced.ensures.written c.write_synced-2.ensures.written

pub returns-clause-stage : goal.returns-clause-stage
returns-clause-stage g c =
    told_two c.args.gate c.args.bytes.now (g.D.Disk.state c.args.disk.now).seen (g.D.Disk.state c.write_synced.new.disk).seen (g.D.Disk.state c.write_synced-2.new.disk).seen
    c.requires.some c.in_ok-write_synced.ensures.written c.write_synced-2.ensures.torn

pub returns-clause-any_moment : goal.returns-clause-any_moment
returns-clause-any_moment g c =
    run_two c.args.gate c.args.bytes.now (g.D.Disk.state c.args.disk.now).seen (g.D.Disk.state c.write_synced.new.disk).seen
    (g.D.Disk.state c.args.disk.now) (g.D.Disk.state c.write_synced.new.disk) (g.D.Disk.state c.write_synced-2.new.disk)
    c.requires.some c.in_ok-write_synced.ensures.written c.in_ok-write_synced.ensures.durable c.write_synced.ensures.any_moment c.write_synced-2.ensures.any_moment
