use Rattle.page_model.proofs.StepLemmas.{may_pinned}
use Rattle.page_model.proofs.laws.pinned_pages_cost_nothing.Goals as goal

pub returns : goal.returns
returns c = may_pinned
