use Rattle.file_model.proofs.FrameLemmas.{frames_back}
use Rattle.file_model.proofs.laws.frames_read_back.Goals as goal

pub returns : goal.returns
returns c = frames_back
