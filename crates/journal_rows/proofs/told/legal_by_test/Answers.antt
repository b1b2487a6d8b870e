use Rattle.journal_rows.proofs.ToldLemmas.{legal, illegal}
use Rattle.journal_rows.proofs.told.legal_by_test.Goals as goal

pub returns-clause-legal : goal.returns-clause-legal
returns-clause-legal c = legal

pub returns-clause-illegal : goal.returns-clause-illegal
returns-clause-illegal c = illegal
