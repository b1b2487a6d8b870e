use Rattle.kept_model.proofs.QuietPages.{granted_goes, released_goes}
use Rattle.kept_model.proofs.pages.locks_go.Goals as goal

pub returns-clause-granted : goal.returns-clause-granted
returns-clause-granted c = granted_goes

pub returns-clause-released : goal.returns-clause-released
returns-clause-released c = released_goes
