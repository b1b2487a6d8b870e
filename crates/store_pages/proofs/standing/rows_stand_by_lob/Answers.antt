use Rattle.store_pages.proofs.LobStoreLemmas.{begun_rows, lob_rows}
use Rattle.store_pages.proofs.PushStoreLemmas.{push_rows}
use Rattle.store_pages.proofs.StandLemmas.{by_write, by_take, by_give}
use Rattle.store_pages.proofs.standing.rows_stand_by_lob.Goals as goal

pub returns-clause-begun : goal.returns-clause-begun
returns-clause-begun c = λ old new store own is keeps. begun_rows old new store is own keeps

pub returns-clause-changed : goal.returns-clause-changed
returns-clause-changed c = λ old new store page l own is there keeps. lob_rows old new store is page l own there keeps

pub returns-clause-written : goal.returns-clause-written
returns-clause-written c = by_write

pub returns-clause-takes : goal.returns-clause-takes
returns-clause-takes c = by_take

pub returns-clause-gives : goal.returns-clause-gives
returns-clause-gives c = by_give

pub returns-clause-pushed : goal.returns-clause-pushed
returns-clause-pushed c = λ old new store page l x node rest bs p cs is there steps. push_rows old new store page l x node rest bs p cs is there steps
