use Rattle.std.proofs.Common.{arith}
use Rattle.std.proofs.lemmas.Bool.{eq-eqb, ne_eqb}
use Rattle.redo_log.proofs.GateLemmas.{is_closed, is_short, is_by_length}
use Rattle.redo_log.proofs.gates.read_gate.Goals as goal

pub returns-then-not-is_open-clause-is : goal.returns-then-not-is_open-clause-is
returns-then-not-is_open-clause-is g c =
    is_closed (g.D.Disk.state c.args.disk.now).seen c.args.gate c.args.rest c.requires.whole c.read_at.new.into c.requires.some c.read_at.auto.into (ne_eqb _ _ c.if-not-is_open.true) c.in_ok-read_at.ensures.bytes

pub returns-then-rest-lt6-clause-is : goal.returns-then-rest-lt6-clause-is
returns-then-rest-lt6-clause-is g c =
    is_short (g.D.Disk.state c.args.disk.now).seen c.args.gate c.args.rest c.requires.whole c.read_at.new.into c.requires.some (omega (arith, c.if-rest-lt6.true)) c.read_at.auto.into (eq-eqb _ _ c.if-not-is_open.false) c.in_ok-read_at.ensures.bytes

pub returns-clause-is : goal.returns-clause-is
returns-clause-is g c =
    is_by_length (g.D.Disk.state c.args.disk.now).seen c.args.gate c.args.rest c.requires.whole c.read_len.result c.read_at.new.into (g.D.Disk.state c.read_at.new.self).seen c.read_at.ensures.stays.reads c.requires.some c.read_at.auto.into (eq-eqb _ _ c.if-not-is_open.false) c.in_ok-read_at.ensures.bytes c.read_len.ensures.len
