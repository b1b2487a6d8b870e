use Rattle.mini_trx.proofs.GroupLemmas.{keeps_none}
use Rattle.mini_trx.proofs.group.Group.new.Goals as goal

pub invariant_of-result : goal.invariant_of-result
invariant_of-result c = (keeps_none c.begin.new.buffer.items c.begin.ensures.frame).group

pub returns-clause-writes : goal.returns-clause-writes
returns-clause-writes c = (keeps_none c.begin.new.buffer.items c.begin.ensures.frame).writes
