use Rattle.kept_model.proofs.QuietPages.{audit_keeps_pages}
use Rattle.kept_model.proofs.pages.audit_keeps_pages.Goals as goal

pub returns : goal.returns
returns c = audit_keeps_pages
