use Rattle.kept_model.proofs.WaitLemmas.{lock_is_met}
use Rattle.kept_model.proofs.waits.lock_is_met.Goals as goal

pub returns : goal.returns
returns c = lock_is_met
