use Rattle.lob_model.proofs.PieceLemmas.{newest_kept, read_still}
use Rattle.store_data.specs.Pieces.{dropped}
use Rattle.lob_model.proofs.laws.drop_keeps_what_is_read.Goals as goal

pub returns : goal.returns
returns c = λ before p behind v. read_still v before (dropped p) p behind (newest_kept v p.head p.older)
