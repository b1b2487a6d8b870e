use Rattle.kept_model.proofs.PurgePages.{drop_keeps_pages}
use Rattle.kept_model.proofs.pages.drop_keeps_pages.Goals as goal

pub returns : goal.returns
returns c = drop_keeps_pages
