use Rattle.kept_model.proofs.PlanPages.{first_plan_keeps_pages}
use Rattle.kept_model.proofs.pages.first_plan_keeps_pages.Goals as goal

pub returns : goal.returns
returns c = first_plan_keeps_pages
