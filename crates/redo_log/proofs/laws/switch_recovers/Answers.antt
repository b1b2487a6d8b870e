use Rattle.redo_log.proofs.RecoverLemmas.{switch_recovers}
use Rattle.redo_log.proofs.laws.switch_recovers.Goals as goal

pub returns : goal.returns
returns c = λ s file image limits region may home switch. switch_recovers s limits region file may image home switch
