use Rattle.std.proofs.Common.{arith}
use Rattle.file_model.proofs.LogImages.{at_gate}
use Rattle.file_model.proofs.laws.gate_decides.Goals as goal

pub returns : goal.returns
returns c = λ l region used n old mid new groups limits ends good fits behind holds other. let few = limits.max_pages in at_gate l region used limits old ends groups mid new n (omega (arith, few)) good fits behind holds other
