use Rattle.json_splice.proofs.HeldLemmas.{none_filled, more_filled}
use Rattle.std.proofs.Common.{arith}
use Rattle.json_splice.proofs.entry.+are_all.Goals as goal

pub returns-then-end-from : goal.returns-then-end-from
returns-then-end-from t c = λ e. none_filled c.args.bytes.now c.args.from c.args.end c.args.byte c.if-end-from.true (omega (arith, c.requires.inside, c.requires.rising))

pub returns-then-bytes-from : goal.returns-then-bytes-from
returns-then-bytes-from t c = λ e. more_filled c.args.bytes.now c.args.from c.args.end c.args.byte c.if-end-from.false c.requires.inside c.if-bytes-from.true (c.are_all.ensures e)
