use Rattle.kept_model.proofs.UndoPages.{last_keeps_pages}
use Rattle.kept_model.proofs.pages.last_keeps_pages.Goals as goal

pub returns : goal.returns
returns c = last_keeps_pages
