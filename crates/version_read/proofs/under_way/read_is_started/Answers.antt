use Rattle.version_read.proofs.UnderWayLemmas.{started}
use Rattle.version_read.proofs.under_way.read_is_started.Goals as goal

pub returns : goal.returns
returns c = started
