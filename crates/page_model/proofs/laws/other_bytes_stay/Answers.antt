use Rattle.page_model.proofs.FrameLemmas.{all_outside}
use Rattle.page_model.proofs.laws.other_bytes_stay.Goals as goal

pub returns : goal.returns
returns c = all_outside
