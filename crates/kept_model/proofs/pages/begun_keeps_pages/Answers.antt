use Rattle.kept_model.proofs.PurgePages.{begun_keeps_pages}
use Rattle.kept_model.proofs.pages.begun_keeps_pages.Goals as goal

pub returns : goal.returns
returns c = begun_keeps_pages
