use Rattle.page_model.proofs.GroupFrameLemmas.{length-frame}
use Rattle.page_model.proofs.ParseLemmas.{frame_back}
use Rattle.page_model.proofs.laws.frame_reads_back.Goals as goal

pub returns : goal.returns
returns c = record { writes = frame_back; length = length-frame }
