use Rattle.kept_model.proofs.FirstPlan.{plan_keeps}
use Rattle.kept_model.proofs.events.plan_keeps.Goals as goal

pub returns : goal.returns
returns c = plan_keeps
