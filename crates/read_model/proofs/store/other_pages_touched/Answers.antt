use Rattle.read_model.proofs.StoreLobLemmas.{runs_touch}
use Rattle.read_model.proofs.store.other_pages_touched.Goals as goal

pub returns : goal.returns
returns c = runs_touch
