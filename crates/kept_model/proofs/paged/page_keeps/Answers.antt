use Rattle.kept_model.proofs.PageKept.{page_kept}
use Rattle.kept_model.proofs.paged.page_keeps.Goals as goal

pub returns : goal.returns
returns c = page_kept
