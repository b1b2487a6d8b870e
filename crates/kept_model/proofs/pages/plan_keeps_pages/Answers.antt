use Rattle.kept_model.proofs.PlanPages.{plan_keeps_pages}
use Rattle.kept_model.proofs.pages.plan_keeps_pages.Goals as goal

pub returns : goal.returns
returns c = plan_keeps_pages
