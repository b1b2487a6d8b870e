use Rattle.store_pages.proofs.StandLemmas.{by_purge, by_last}
use Rattle.store_pages.proofs.standing.rows_stand_by_oldest.Goals as goal

pub returns-clause-changed : goal.returns-clause-changed
returns-clause-changed c = by_purge

pub returns-clause-purged : goal.returns-clause-purged
returns-clause-purged c = by_last
