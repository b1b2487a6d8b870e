use Rattle.version_read.proofs.UnderWayLemmas.{stays}
use Rattle.version_read.proofs.under_way.read_stays_under_way.Goals as goal

pub returns : goal.returns
returns c = stays
