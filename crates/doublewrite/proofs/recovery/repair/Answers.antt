use Rattle.std.proofs.Common.{refl}
use Rattle.doublewrite.specs.Steps.{WhileHeading, WhileRepairing}
use Rattle.engine_base.proofs.ReadLemmas.{read_one, read_then, crash_read, crash_behind}
use Rattle.doublewrite.proofs.ReadLemmas.{repair_none, headed_now, while_headed, count_headed}
use Rattle.doublewrite.proofs.recovery.repair.Goals as goal

pub returns-in_err-read_at-clause-any_moment : goal.returns-in_err-read_at-clause-any_moment
returns-in_err-read_at-clause-any_moment g c =
    let one = read_one (g.D.Disk.state c.args.disk.now) (g.D.Disk.state c.is_armed.new.disk) (g.met.D.Disk.only_now c.args.disk.now) c.is_armed.ensures.stays c.is_armed.ensures.goes_on.time in
    let two = read_one (g.D.Disk.state c.is_armed.new.disk) (g.D.Disk.state c.read_at.new.self) (g.met.D.Disk.only_now c.is_armed.new.disk) c.read_at.ensures.stays c.read_at.ensures.goes_on.time in
    crash_read (WhileRepairing c.args.layout.now) (repair_none c.args.layout.now) (g.D.Disk.state c.args.disk.now) (g.D.Disk.state c.read_at.new.self) (read_then (g.D.Disk.state c.args.disk.now) (g.D.Disk.state c.is_armed.new.disk) (g.D.Disk.state c.read_at.new.self) one two)

pub returns-in_err-home_headed-clause-any_moment :
    goal.returns-in_err-home_headed-clause-any_moment
returns-in_err-home_headed-clause-any_moment g c =
    let l = c.args.layout.now in
    let one = read_one (g.D.Disk.state c.args.disk.now) (g.D.Disk.state c.is_armed.new.disk) (g.met.D.Disk.only_now c.args.disk.now) c.is_armed.ensures.stays c.is_armed.ensures.goes_on.time in
    let two = read_one (g.D.Disk.state c.is_armed.new.disk) (g.D.Disk.state c.read_at.new.self) (g.met.D.Disk.only_now c.is_armed.new.disk) c.read_at.ensures.stays c.read_at.ensures.goes_on.time in
    let headed = headed_now l c.read_at.new.into c.count_of-count.result (g.D.Disk.state c.args.disk.now).seen (g.D.Disk.state c.is_armed.new.disk).seen c.in_ok-is_armed.field-0 c.in_ok-is_armed.ensures.odd c.if-not-branch.false one.same c.in_ok-read_at.ensures.bytes (λ file holds. c.count_of-count.ensures.batch l file refl holds) in
    crash_behind (WhileHeading l c.read_at.new.into c.count_of-count.result) (WhileRepairing l) (repair_none l) (g.D.Disk.state c.args.disk.now) (g.D.Disk.state c.read_at.new.self) (g.D.Disk.state c.home_headed.new.disk)
    (read_then (g.D.Disk.state c.args.disk.now) (g.D.Disk.state c.is_armed.new.disk) (g.D.Disk.state c.read_at.new.self) one two) c.home_headed.ensures.any_moment (while_headed l c.read_at.new.into c.count_of-count.result (g.D.Disk.state c.args.disk.now).seen headed)

pub returns-clause-count : goal.returns-clause-count
returns-clause-count g c =
    let l = c.args.layout.now in
    let headed = headed_now l c.read_at.new.into c.count_of-count.result (g.D.Disk.state c.args.disk.now).seen (g.D.Disk.state c.is_armed.new.disk).seen c.in_ok-is_armed.field-0 c.in_ok-is_armed.ensures.odd c.if-not-branch.false c.is_armed.ensures.stays.reads c.in_ok-read_at.ensures.bytes (λ file holds. c.count_of-count.ensures.batch l file refl holds) in
    count_headed l c.read_at.new.into c.count_of-count.result (g.D.Disk.state c.args.disk.now).seen c.requires.whole headed

pub returns-clause-any_moment : goal.returns-clause-any_moment
returns-clause-any_moment g c =
    let l = c.args.layout.now in
    let one = read_one (g.D.Disk.state c.args.disk.now) (g.D.Disk.state c.is_armed.new.disk) (g.met.D.Disk.only_now c.args.disk.now) c.is_armed.ensures.stays c.is_armed.ensures.goes_on.time in
    let two = read_one (g.D.Disk.state c.is_armed.new.disk) (g.D.Disk.state c.read_at.new.self) (g.met.D.Disk.only_now c.is_armed.new.disk) c.read_at.ensures.stays c.read_at.ensures.goes_on.time in
    let headed = headed_now l c.read_at.new.into c.count_of-count.result (g.D.Disk.state c.args.disk.now).seen (g.D.Disk.state c.is_armed.new.disk).seen c.in_ok-is_armed.field-0 c.in_ok-is_armed.ensures.odd c.if-not-branch.false one.same c.in_ok-read_at.ensures.bytes (λ file holds. c.count_of-count.ensures.batch l file refl holds) in
    crash_behind (WhileHeading l c.read_at.new.into c.count_of-count.result) (WhileRepairing l) (repair_none l) (g.D.Disk.state c.args.disk.now) (g.D.Disk.state c.read_at.new.self) (g.D.Disk.state c.home_headed.new.disk)
    (read_then (g.D.Disk.state c.args.disk.now) (g.D.Disk.state c.is_armed.new.disk) (g.D.Disk.state c.read_at.new.self) one two) c.home_headed.ensures.any_moment (while_headed l c.read_at.new.into c.count_of-count.result (g.D.Disk.state c.args.disk.now).seen headed)
