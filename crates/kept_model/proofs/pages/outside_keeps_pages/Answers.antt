use Rattle.kept_model.proofs.CommitPages.{outside_keeps_pages}
use Rattle.kept_model.proofs.pages.outside_keeps_pages.Goals as goal

pub returns : goal.returns
returns c = outside_keeps_pages
