use Rattle.read_views.proofs.StoreLemmas.{first_stay_seen}
use Rattle.read_views.proofs.laws.view_stays_the_first_commits.Goals as goal

pub returns : goal.returns
returns c = first_stay_seen
