use Rattle.std.proofs.Common.{inl, inr, [], arith}
use Rattle.redo_log.proofs.HeadLemmas.{head_none, head_not, head_first}
use Rattle.redo_log.proofs.frames.read_frame.Goals as goal
use Rattle.redo_log.proofs.frames.read_frame.Goals.{then-len-gt-MAX_GROUP-via-then-len-gt-MAX_GROUP, then-len-gt-MAX_GROUP-via-else-len-gt-MAX_GROUP+then-len-left}

pub returns-then-left-lt6-clause-bytes : goal.returns-then-left-lt6-clause-bytes
returns-then-left-lt6-clause-bytes g c = head_none c.args.place c.args.left [] (g.D.Disk.state c.args.disk.now).seen (omega (arith, c.if-left-lt6.true)) c.requires.whole

pub returns-then-len-gt-MAX_GROUP-clause-bytes :
    goal.returns-then-len-gt-MAX_GROUP-clause-bytes
returns-then-len-gt-MAX_GROUP-clause-bytes g c =
    head_not c.args.place c.args.left [] c.read_at.new.into c.read_u32-len.result (g.D.Disk.state c.args.disk.now).seen (omega (arith, c.if-left-lt6.false)) c.read_at.auto.into c.read_u32-len.ensures
    (elim c.then-len-gt-MAX_GROUP.branch [
      | then-len-gt-MAX_GROUP-via-then-len-gt-MAX_GROUP w ↦ inl (omega (arith, w.if-len-gt-MAX_GROUP))
      | then-len-gt-MAX_GROUP-via-else-len-gt-MAX_GROUP+then-len-left w ↦ inr (omega (arith, w.if-len-left))
    ])
    c.requires.whole c.in_ok-read_at.ensures.bytes

pub returns-clause-bytes : goal.returns-clause-bytes
returns-clause-bytes g c =
    head_first c.args.place c.args.left _ c.read_at.new.into c.read_u32-len.result (g.D.Disk.state c.args.disk.now).seen (g.D.Disk.state c.read_at.new.self).seen c.read_at.ensures.stays.reads (omega (arith, c.if-left-lt6.false)) c.read_at.auto.into c.read_u32-len.ensures
    (omega (arith, c.if-len-left.false)) c.requires.whole c.in_ok-read_at.ensures.bytes c.in_ok-fill.ensures.bytes
