use Rattle.kept_model.proofs.NewKept.{pages_new}
use Rattle.kept_model.proofs.pages.first_keeps_pages.Goals as goal

pub returns : goal.returns
returns c = pages_new
