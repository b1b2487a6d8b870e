use Rattle.journal_rows.proofs.CutLemmas.{turns}
use Rattle.journal_rows.proofs.told.turns_by_test.Goals as goal

pub returns : goal.returns
returns c = turns
