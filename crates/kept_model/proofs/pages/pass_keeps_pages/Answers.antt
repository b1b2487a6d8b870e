use Rattle.kept_model.proofs.PurgePages.{pass_keeps_pages}
use Rattle.kept_model.proofs.pages.pass_keeps_pages.Goals as goal

pub returns : goal.returns
returns c = pass_keeps_pages
