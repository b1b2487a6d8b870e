use Rattle.page_space.proofs.MapLemmas.{map_kept}
use Rattle.page_space.proofs.laws.map_stays.Goals as goal

pub returns : goal.returns
returns c = λ spans old new same apart map. map_kept spans old new same apart.0 apart.1.0 map
