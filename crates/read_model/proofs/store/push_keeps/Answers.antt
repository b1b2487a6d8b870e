use Rattle.read_model.proofs.StoreLobLemmas.{push_touches}
use Rattle.read_model.proofs.store.push_keeps.Goals as goal

pub returns : goal.returns
returns c = push_touches
