use Rattle.kept_model.proofs.FirstPlan.{first_plan_keeps}
use Rattle.kept_model.proofs.events.first_plan_keeps.Goals as goal

pub returns : goal.returns
returns c = first_plan_keeps
