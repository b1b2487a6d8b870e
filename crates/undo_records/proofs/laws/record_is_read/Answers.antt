use Rattle.undo_records.proofs.AnswerLemmas.{reads_back}
use Rattle.undo_records.proofs.laws.record_is_read.Goals as goal

pub returns : goal.returns
returns c = reads_back
