use Rattle.kept_model.proofs.UndoPages.{undo_keeps_pages}
use Rattle.kept_model.proofs.pages.undo_keeps_pages.Goals as goal

pub returns : goal.returns
returns c = undo_keeps_pages
