use Rattle.kept_model.proofs.PlanPages.{work_keeps_pages}
use Rattle.kept_model.proofs.pages.work_keeps_pages.Goals as goal

pub returns : goal.returns
returns c = work_keeps_pages
