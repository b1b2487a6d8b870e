use Rattle.std.proofs.Common.{lit≤, arith}
use Rattle.page_bench.proofs.Ample.{ample, sound}
use Rattle.page_bench.proofs.undo.append_one.Goals as goal

pub append-requires-clause-sound : goal.append-requires-clause-sound
append-requires-clause-sound c = sound _ c.args.number c.requires.pages (omega (arith, c.ranges.number.fits))

pub append-requires-clause-may : goal.append-requires-clause-may
append-requires-clause-may c = ample _ 3 236 c.args.p.now (lit≤ tt) (lit≤ tt)
