use Rattle.read_model.proofs.StorePurgeLemmas.{record_passes}
use Rattle.read_model.proofs.store.pass_keeps.Goals as goal

pub returns : goal.returns
returns c = record_passes
