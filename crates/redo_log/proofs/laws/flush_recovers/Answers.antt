use Rattle.redo_log.proofs.RecoverLemmas.{flush_recovers}
use Rattle.redo_log.proofs.laws.flush_recovers.Goals as goal

pub returns : goal.returns
returns c = λ s file image limits region fits may flush. flush_recovers s limits region fits file may image flush
