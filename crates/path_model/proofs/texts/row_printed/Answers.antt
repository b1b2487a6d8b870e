use Rattle.std.proofs.Common.{refl}
use Rattle.std.specs.Fmt.{digits}
use Rattle.json.specs.Print.{escape_byte}
use Rattle.path_model.proofs.texts.row_printed.Goals as goal

pub returns-clause-bare : goal.returns-clause-bare
unfolding digits
returns-clause-bare c = refl

pub returns-clause-quoted : goal.returns-clause-quoted
unfolding escape_byte
returns-clause-quoted c = refl
