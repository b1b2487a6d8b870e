use Rattle.file_model.proofs.BatchImages.{homing}
use Rattle.file_model.proofs.laws.armed_images_repair.Goals as goal

pub returns : goal.returns
returns c = λ l batch old new whole is same. homing l old new whole batch is same
