use Rattle.kept_model.proofs.CommitPages.{commit_keeps_pages}
use Rattle.kept_model.proofs.pages.commit_keeps_pages.Goals as goal

pub returns : goal.returns
returns c = commit_keeps_pages
