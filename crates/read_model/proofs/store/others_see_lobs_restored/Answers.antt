use Rattle.read_model.proofs.StoreLobLemmas.{undone_others}
use Rattle.read_model.proofs.store.others_see_lobs_restored.Goals as goal

pub returns : goal.returns
returns c = undone_others
