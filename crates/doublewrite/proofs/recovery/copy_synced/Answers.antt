use Rattle.file_model.specs.Changes.{SameElsewhere}
use Rattle.file_model.specs.Doublewrite.{InPages}
use Rattle.engine_base.proofs.Moments.{goes_on}
use Rattle.engine_base.proofs.CrashLemmas.{crash_any}
use Rattle.doublewrite.specs.Steps.{MayCopy, headed_numbers, CopyingHeaded}
use Rattle.doublewrite.proofs.HomeLemmas.{ok_same}
use Rattle.doublewrite.proofs.recovery.copy_synced.Goals as goal

pub returns-in_err-copy_images-clause-any_moment : goal.returns-in_err-copy_images-clause-any_moment
returns-in_err-copy_images-clause-any_moment g c =
    crash_any (SameElsewhere (InPages c.args.layout.now (headed_numbers c.args.header.now c.args.count))) (g.D.Disk.state c.args.disk.now) (g.D.Disk.state c.copy_images.new.disk) c.copy_images.ensures.any_moment

pub returns-clause-copies : goal.returns-clause-copies
returns-clause-copies g c =
    ok_same (CopyingHeaded c.args.layout.now c.args.header.now c.args.count c.args.count) c.sync.result (g.D.Disk.state c.args.disk.now).seen (g.D.Disk.state c.copy_images.new.disk).seen (g.D.Disk.state c.sync.new.self).seen c.sync.ensures.seen c.in_ok-copy_images.ensures.copies

pub returns-clause-any_moment : goal.returns-clause-any_moment
returns-clause-any_moment g c =
    crash_any (SameElsewhere (InPages c.args.layout.now (headed_numbers c.args.header.now c.args.count))) (g.D.Disk.state c.args.disk.now) (g.D.Disk.state c.sync.new.self)
    (goes_on (g.D.Disk.state c.args.disk.now) (g.D.Disk.state c.copy_images.new.disk) (g.D.Disk.state c.sync.new.self) (MayCopy (g.D.Disk.state c.args.disk.now).may_leave c.args.layout.now (headed_numbers c.args.header.now c.args.count))
    c.copy_images.ensures.any_moment c.sync.ensures.goes_on.time (λ f now. c.copy_images.ensures.images f (c.sync.ensures.images f now)))
