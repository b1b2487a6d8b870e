use Rattle.kept_model.proofs.UndoPages.{end_keeps_pages}
use Rattle.kept_model.proofs.pages.end_keeps_pages.Goals as goal

pub returns : goal.returns
returns c = end_keeps_pages
