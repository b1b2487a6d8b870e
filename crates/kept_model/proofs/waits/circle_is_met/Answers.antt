use Rattle.kept_model.proofs.WaitLemmas.{circle_is_met}
use Rattle.kept_model.proofs.waits.circle_is_met.Goals as goal

pub returns : goal.returns
returns c = circle_is_met
