use Rattle.page_model.proofs.CoverLemmas.{off_covers, covers_off}
use Rattle.page_model.proofs.laws.off_by_counting.Goals as goal

pub returns : goal.returns
returns c = record { none = off_covers; off = covers_off }
