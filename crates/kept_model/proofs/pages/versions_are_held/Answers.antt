use Rattle.kept_model.proofs.PurgePages.{versions_are_held}
use Rattle.kept_model.proofs.pages.versions_are_held.Goals as goal

pub returns : goal.returns
returns c = versions_are_held
