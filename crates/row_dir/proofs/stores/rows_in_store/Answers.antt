use Rattle.row_dir.proofs.StoreLemmas.{rows_in}
use Rattle.row_dir.proofs.stores.rows_in_store.Goals as goal

pub returns : goal.returns
returns c = rows_in
