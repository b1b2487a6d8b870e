use Rattle.kept_model.proofs.UndoPages.{half_keeps_pages}
use Rattle.kept_model.proofs.pages.half_keeps_pages.Goals as goal

pub returns : goal.returns
returns c = half_keeps_pages
