use Rattle.std.proofs.Common.{ℕ, List}
use Rattle.file_model.specs.Changes.{SameElsewhere}
use Rattle.file_model.specs.Doublewrite.{numbers, InPages}
use Rattle.engine_base.proofs.Moments.{goes_on}
use Rattle.engine_base.proofs.CrashLemmas.{told_map, crash_map, crash_any}
use Rattle.doublewrite.specs.Batches.{batch_of}
use Rattle.doublewrite.specs.Steps.{Copying, MayCopy, Homing, WhileHoming}
use Rattle.doublewrite.proofs.HomeLemmas.{homing_torn, homing_done, ok_same}
use Rattle.doublewrite.proofs.home.home_area.Goals as goal

pub returns-in_err-write_images-clause-any_moment :
    goal.returns-in_err-write_images-clause-any_moment
returns-in_err-write_images-clause-any_moment g c =
    let l = c.args.layout.now in
    let batch = batch_of c.args.count c.args.buffer.now in
    let S : List ℕ → List ℕ → Type 0 = SameElsewhere (InPages l (numbers batch)) in
    crash_map S (WhileHoming l batch) (homing_torn l batch) (g.D.Disk.state c.args.disk.now) (g.D.Disk.state c.write_images.new.disk)
    (crash_any S (g.D.Disk.state c.args.disk.now) (g.D.Disk.state c.write_images.new.disk) c.write_images.ensures.any_moment)

pub returns-clause-homes : goal.returns-clause-homes
returns-clause-homes g c =
    let l = c.args.layout.now in
    let batch = batch_of c.args.count c.args.buffer.now in
    ok_same (Homing l batch) c.sync.result (g.D.Disk.state c.args.disk.now).seen (g.D.Disk.state c.write_images.new.disk).seen (g.D.Disk.state c.sync.new.self).seen c.sync.ensures.seen
    (told_map (Copying l (numbers batch) batch) (Homing l batch) (homing_done l batch) (g.D.Disk.state c.args.disk.now).seen (g.D.Disk.state c.write_images.new.disk).seen c.in_ok-write_images.ensures.copies)

pub returns-clause-any_moment : goal.returns-clause-any_moment
returns-clause-any_moment g c =
    let l = c.args.layout.now in
    let batch = batch_of c.args.count c.args.buffer.now in
    let S : List ℕ → List ℕ → Type 0 = SameElsewhere (InPages l (numbers batch)) in
    crash_map S (WhileHoming l batch) (homing_torn l batch) (g.D.Disk.state c.args.disk.now) (g.D.Disk.state c.sync.new.self)
    (crash_any S (g.D.Disk.state c.args.disk.now) (g.D.Disk.state c.sync.new.self)
    (goes_on (g.D.Disk.state c.args.disk.now) (g.D.Disk.state c.write_images.new.disk) (g.D.Disk.state c.sync.new.self) (MayCopy (g.D.Disk.state c.args.disk.now).may_leave l (numbers batch))
    c.write_images.ensures.any_moment c.sync.ensures.goes_on.time (λ f now. c.write_images.ensures.images f (c.sync.ensures.images f now))))
