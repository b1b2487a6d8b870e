use Rattle.lob_model.proofs.PieceLemmas.{push_older, read_before}
use Rattle.store_data.specs.Pieces.{pushed}
use Rattle.lob_model.proofs.laws.push_keeps_what_is_read.Goals as goal

pub returns : goal.returns
returns c = λ new node before p behind v above. read_before v before (pushed node new p) p behind (push_older new node p v above)
