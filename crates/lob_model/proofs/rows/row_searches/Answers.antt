use Rattle.std.proofs.Common.{refl}
use Rattle.lob_model.specs.Search.{sought}
use Rattle.lob_model.proofs.rows.row_searches.Goals as goal

pub returns-clause-second : goal.returns-clause-second
unfolding sought
returns-clause-second c = refl

pub returns-clause-no_further : goal.returns-clause-no_further
unfolding sought
returns-clause-no_further c = refl

pub returns-clause-none : goal.returns-clause-none
unfolding sought
returns-clause-none c = refl
