use Rattle.version_read.proofs.UnderWayLemmas.{lent_on}
use Rattle.version_read.proofs.under_way.lent_read_is_under_way.Goals as goal

pub returns : goal.returns
returns c = lent_on
