use Rattle.kept_model.proofs.PlanPages.{answer_keeps_pages}
use Rattle.kept_model.proofs.pages.answer_keeps_pages.Goals as goal

pub returns : goal.returns
returns c = answer_keeps_pages
