use Rattle.rollback.proofs.ChainLemmas.{can_end}
use Rattle.rollback.proofs.laws.record_may_end.Goals as goal

pub returns : goal.returns
returns c = can_end
