use Rattle.version_read.proofs.StayLemmas.{lent_stays}
use Rattle.version_read.proofs.under_way.lent_stays.Goals as goal

pub returns : goal.returns
returns c = lent_stays
