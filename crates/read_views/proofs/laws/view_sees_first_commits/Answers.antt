use Rattle.read_views.proofs.StoreLemmas.{first_are_seen}
use Rattle.read_views.proofs.laws.view_sees_first_commits.Goals as goal

pub returns : goal.returns
returns c = first_are_seen
