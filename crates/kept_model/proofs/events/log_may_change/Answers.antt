use Rattle.kept_model.proofs.FirstPlan.{log_may_change}
use Rattle.kept_model.proofs.events.log_may_change.Goals as goal

pub returns : goal.returns
returns c = log_may_change
