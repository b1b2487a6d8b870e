use Rattle.std.proofs.Common.{length}
use Rattle.engine_base.specs.Durable.{MayTear}
use Rattle.engine_base.proofs.Moments.{goes_on}
use Rattle.page_device.proofs.TearLemmas.{write_made}
use Rattle.page_device.proofs.synced.write_synced.Goals as goal

pub returns-in_err-write_at-clause-any_moment : goal.returns-in_err-write_at-clause-any_moment
returns-in_err-write_at-clause-any_moment g c =
    write_made (g.D.Disk.state c.args.disk.now) (g.D.Disk.state c.write_at.new.self) c.args.at (length c.args.bytes.now) (g.met.D.Disk.only_now c.args.disk.now) c.write_at.ensures.goes_on.time c.write_at.ensures.images

pub returns-clause-any_moment : goal.returns-clause-any_moment
returns-clause-any_moment g c =
    let first = write_made (g.D.Disk.state c.args.disk.now) (g.D.Disk.state c.write_at.new.self) c.args.at (length c.args.bytes.now) (g.met.D.Disk.only_now c.args.disk.now) c.write_at.ensures.goes_on.time c.write_at.ensures.images in
    goes_on (g.D.Disk.state c.args.disk.now) (g.D.Disk.state c.write_at.new.self) (g.D.Disk.state c.sync.new.self) (MayTear (g.D.Disk.state c.args.disk.now).may_leave c.args.at (length c.args.bytes.now))
    first c.sync.ensures.goes_on.time (λ f now. c.write_at.ensures.images f (c.sync.ensures.images f now))
