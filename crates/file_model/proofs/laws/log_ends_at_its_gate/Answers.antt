use Rattle.file_model.proofs.LogImages.{closed_same}
use Rattle.file_model.proofs.laws.log_ends_at_its_gate.Goals as goal

pub returns : goal.returns
returns c = λ l region used old new limits ends longer same closed. closed_same l region used limits old ends new longer same closed
