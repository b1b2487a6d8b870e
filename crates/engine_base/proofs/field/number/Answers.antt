use Rattle.std.proofs.Common.{arith, length}
use Rattle.byteorder.specs.Numbers.{big_from-lt}
use Rattle.engine_base.proofs.field.number.Goals as goal

pub returns-clause-fits : goal.returns-clause-fits
returns-clause-fits c = rw c.read_uint.ensures (big_from-lt 0 (length c.args.bytes.now) c.args.bytes.now (λ i. let f = c.type_inv.bytes i in omega arith))
