use Rattle.page_model.proofs.StepLemmas.{may_reach}
use Rattle.page_model.proofs.laws.counting_is_enough.Goals as goal

pub returns : goal.returns
returns c = may_reach
