use Rattle.std.proofs.Common.{◌∙◌}
use Rattle.undo_records.proofs.PageLemmas.{front_is}
use Rattle.undo_records.proofs.decode.record_at.Goals as goal

pub returns-clause-value : goal.returns-clause-value
returns-clause-value c = front_is c.args.count c.from-size.result c.args.bytes.now _ (c.from-size.ensures ∙ c.u16_at.ensures) c.if-size-lt-HEAD.false c.if-size-bytes.false c.record.ensures.value
