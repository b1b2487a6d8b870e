use Rattle.read_model.proofs.StoreLobLemmas.{planned_others}
use Rattle.read_model.proofs.store.others_see_lobs_change.Goals as goal

pub returns : goal.returns
returns c = planned_others
