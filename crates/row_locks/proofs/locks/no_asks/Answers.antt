use Rattle.engine_base.specs.declared.ids.DocId.{DocId}
use Rattle.row_locks.proofs.TableLemmas.{nothing_asked}
use Rattle.row_locks.proofs.locks.no_asks.Goals as goal

pub returns : goal.returns
returns c = λ s. nothing_asked DocId 65 s
