use Rattle.std.proofs.Common.{lit≤}
use Rattle.undo_logs.proofs.TestLemmas.{ample, place_there}
use Rattle.undo_logs.proofs.tests.first_record.Goals as goal

pub at-requires-clause-place : goal.at-requires-clause-place
at-requires-clause-place c = λ a leads. place_there _ a c.requires leads

pub at-requires-clause-may : goal.at-requires-clause-may
at-requires-clause-may c = λ a leads. ample _ 0 0 c.args.p.now (lit≤ tt) (lit≤ tt)
