use Rattle.std.proofs.Common.{arith, ◌∙◌}
use Rattle.redo_log.proofs.GateLemmas.{length_early, length_open}
use Rattle.redo_log.proofs.gates.read_len.Goals as goal

pub returns-then-rest-len-clause-len : goal.returns-then-rest-len-clause-len
returns-then-rest-len-clause-len g c =
    let n = c.from-len.result in
    length_early (g.D.Disk.state c.args.disk.now).seen c.args.gate c.args.rest c.requires.whole c.read_at.new.into n c.requires.some c.read_at.auto.into (c.from-len.ensures ∙ c.read_u32.ensures) (omega (arith, c.if-rest-len.true)) c.in_ok-read_at.ensures.bytes

pub returns-clause-len : goal.returns-clause-len
returns-clause-len g c =
    let n = c.from-len.result in
    length_open (g.D.Disk.state c.args.disk.now).seen c.args.gate c.args.rest c.requires.whole c.read_at.new.into n c.requires.some c.read_at.auto.into (c.from-len.ensures ∙ c.read_u32.ensures) (omega (arith, c.if-rest-len.false)) c.in_ok-read_at.ensures.bytes
