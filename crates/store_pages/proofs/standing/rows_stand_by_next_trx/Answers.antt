use Rattle.store_pages.proofs.StoreMoveLemmas.{next_trx_rows}
use Rattle.store_pages.proofs.standing.rows_stand_by_next_trx.Goals as goal

pub returns : goal.returns
returns c = next_trx_rows
