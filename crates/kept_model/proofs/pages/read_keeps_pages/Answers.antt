use Rattle.kept_model.proofs.QuietPages.{read_keeps_pages}
use Rattle.kept_model.proofs.pages.read_keeps_pages.Goals as goal

pub returns : goal.returns
returns c = read_keeps_pages
