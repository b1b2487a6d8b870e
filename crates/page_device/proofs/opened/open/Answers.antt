use Rattle.std.proofs.Common.{◌∙◌}
use Rattle.page_device.proofs.OpenLemmas.{short_answer, full_answer, no_cause}
use Rattle.page_device.proofs.opened.open.Goals as goal

pub returns-then-size-lt-CONTROL_BYTES-clause-answer : goal.returns-then-size-lt-CONTROL_BYTES-clause-answer
returns-then-size-lt-CONTROL_BYTES-clause-answer g c =
    short_answer (g.D.Disk.state c.args.disk.now).seen (g.D.Disk.state c.sync.new.self).seen c.in-Ok.size c.sync.ensures.seen c.in-Ok.ensures.length c.if-size-lt-CONTROL_BYTES.true

pub returns-clause-answer : goal.returns-clause-answer
returns-clause-answer g c =
    full_answer (g.D.Disk.state c.args.disk.now).seen (g.D.Disk.state c.sync.new.self).seen (g.D.Disk.state c.size.new.self).seen c.in-Ok.size c.read_at.new.into c.judge.result
    c.sync.ensures.seen (c.size.ensures.stays.reads ∙ c.sync.ensures.seen) c.in-Ok.ensures.length c.in_default-read_at.ensures.bytes c.judge.ensures.answer

pub returns-clause-cause : goal.returns-clause-cause
returns-clause-cause g c = no_cause c.judge.result (g.D.Disk.state c.args.disk.now).faults _ c.judge.ensures.no_fault
