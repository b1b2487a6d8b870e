use Rattle.std.proofs.Common.{ap, ◌∙◌}
use Rattle.binary_model.specs.Change.{runs, put_back}
use Rattle.binary_model.proofs.runs.RunLemmas.{runs_applied}
use Rattle.binary_model.proofs.runs.MaximalLemmas.{runs_put_back}
use Rattle.binary_model.proofs.undoing.changes_are_undone.Goals as goal

pub returns : goal.returns
returns c = λ old new e. ap (put_back (runs old new)) (runs_applied old new e) ∙ runs_put_back old new e
