use Rattle.kept_model.proofs.PurgePages.{purge_keeps_pages}
use Rattle.kept_model.proofs.pages.purge_keeps_pages.Goals as goal

pub returns : goal.returns
returns c = purge_keeps_pages
