use Rattle.kept_model.proofs.LengthKept.{row_length}
use Rattle.kept_model.proofs.shown.found_row_is_measured.Goals as goal

pub returns : goal.returns
returns c = row_length
