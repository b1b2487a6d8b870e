use Rattle.rollback.proofs.BeginLemmas.{undoing_begins}
use Rattle.rollback.proofs.laws.undoing_begins.Goals as goal

pub returns : goal.returns
returns c = undoing_begins
