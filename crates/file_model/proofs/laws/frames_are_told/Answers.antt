use Rattle.file_model.proofs.InsideLemmas.{frame_holds, holds_frame}
use Rattle.file_model.proofs.laws.frames_are_told.Goals as goal

pub returns-clause-holds : goal.returns-clause-holds
returns-clause-holds c = frame_holds

pub returns-clause-counts : goal.returns-clause-counts
returns-clause-counts c = holds_frame
