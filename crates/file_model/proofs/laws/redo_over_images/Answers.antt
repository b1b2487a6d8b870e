use Rattle.file_model.specs.Doublewrite.{homes}
use Rattle.file_model.specs.Blocks.{log_of}
use Rattle.file_model.proofs.InsideLemmas.{homes_whole, log_fits, log_shape}
use Rattle.file_model.proofs.RedoLemmas.{copied_under}
use Rattle.file_model.proofs.laws.redo_over_images.Goals as goal

pub returns : goal.returns
returns c = λ l region batch file whole final. copied_under (log_of l region file).groups batch (homes l file) (log_fits l region file (homes l file) (homes_whole l file whole)) (log_shape l region file whole) final
