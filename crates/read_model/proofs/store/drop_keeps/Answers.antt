use Rattle.read_model.proofs.StoreLobLemmas.{drop_touches}
use Rattle.read_model.proofs.store.drop_keeps.Goals as goal

pub returns : goal.returns
returns c = drop_touches
