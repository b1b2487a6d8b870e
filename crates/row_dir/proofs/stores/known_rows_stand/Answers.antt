use Rattle.row_dir.proofs.StoreLemmas.{known_stand}
use Rattle.row_dir.proofs.stores.known_rows_stand.Goals as goal

pub returns : goal.returns
returns c = known_stand
