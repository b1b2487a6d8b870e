use Rattle.read_model.proofs.StorePurgeLemmas.{record_sweeps}
use Rattle.read_model.proofs.store.sweep_keeps.Goals as goal

pub returns : goal.returns
returns c = record_sweeps
