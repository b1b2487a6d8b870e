use Rattle.std.proofs.Common.{lit≤, arith}
use Rattle.lob_model.proofs.rows.row_falls.Goals as goal

pub returns-clause-falls : goal.returns-clause-falls
returns-clause-falls c = (lit≤ tt, (lit≤ tt, (lit≤ tt, tt)))

pub returns-clause-bounded : goal.returns-clause-bounded
returns-clause-bounded c = λ falling. omega (arith, falling.0)
