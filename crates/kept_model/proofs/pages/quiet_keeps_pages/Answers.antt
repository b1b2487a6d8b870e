use Rattle.kept_model.proofs.QuietPages.{quiet_keeps_pages}
use Rattle.kept_model.proofs.pages.quiet_keeps_pages.Goals as goal

pub returns : goal.returns
returns c = quiet_keeps_pages
