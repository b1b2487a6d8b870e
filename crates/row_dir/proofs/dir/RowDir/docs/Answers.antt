use Rattle.std.proofs.Common.{ap}
use Rattle.engine_base.specs.Addresses.{address_of}
use Rattle.row_dir.specs.Directory.{numbers}
use Rattle.std.proofs.Common.{◌∙◌}
use Rattle.row_dir.proofs.FindLemmas.{listed}
use Rattle.row_dir.proofs.dir.RowDir.docs.Goals as goal

pub returns-clause-listed : goal.returns-clause-listed
returns-clause-listed c = λ rows doc is. listed address_of (numbers c.as_slice.result.now) c.args.self.now.places.entries doc rows (ap numbers c.as_slice.ensures.value ∙ is.docs) (is.finds doc)
