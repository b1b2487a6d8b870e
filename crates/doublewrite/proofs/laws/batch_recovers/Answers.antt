use Rattle.doublewrite.proofs.RecoverLemmas.{arm_recovers, home_recovers, rest_recovers, repair_recovers}
use Rattle.doublewrite.proofs.laws.batch_recovers.Goals as goal

pub returns-clause-arm : goal.returns-clause-arm
returns-clause-arm c = λ l batch file image limits whole rest final may. arm_recovers l limits file image whole batch rest final may

pub returns-clause-home : goal.returns-clause-home
returns-clause-home c = λ l batch file image limits whole is may. home_recovers l limits file image whole batch is may

pub returns-clause-rest : goal.returns-clause-rest
returns-clause-rest c = λ l batch file image limits whole is may. rest_recovers l limits file image whole batch is may

pub returns-clause-repair : goal.returns-clause-repair
returns-clause-repair c = λ l file image limits whole may. repair_recovers l limits file image whole may
