use Rattle.std.proofs.Common.{lit≤}
use Rattle.undo_records.proofs.TestLemmas.{ample, sound}
use Rattle.undo_records.proofs.tests.written.Goals as goal

pub write-requires-clause-within : goal.write-requires-clause-within
write-requires-clause-within c = lit≤ tt

pub write-requires-clause-sound : goal.write-requires-clause-sound
write-requires-clause-sound c = sound _ c.requires

pub write-requires-clause-may : goal.write-requires-clause-may
write-requires-clause-may c = ample _ 0 63 c.args.p.now (lit≤ tt) (lit≤ tt)
