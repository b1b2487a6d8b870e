use Rattle.store_pages.proofs.StoreMoveLemmas.{log_begun_rows}
use Rattle.store_pages.proofs.StandLemmas.{by_append, by_change, by_going, by_commit}
use Rattle.store_pages.proofs.standing.rows_stand_by_log.Goals as goal

pub returns-clause-begun : goal.returns-clause-begun
returns-clause-begun c = λ old mid new store m is log active keeps lists. (log_begun_rows old mid new store m is log active keeps lists).1

pub returns-clause-appended : goal.returns-clause-appended
returns-clause-appended c = by_append

pub returns-clause-changed : goal.returns-clause-changed
returns-clause-changed c = by_change

pub returns-clause-gone : goal.returns-clause-gone
returns-clause-gone c = by_going

pub returns-clause-committed : goal.returns-clause-committed
returns-clause-committed c = by_commit
