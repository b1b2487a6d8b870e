use Rattle.read_model.proofs.StoreLobLemmas.{pop_frees}
use Rattle.read_model.proofs.store.pop_keeps.Goals as goal

pub returns : goal.returns
returns c = pop_frees
