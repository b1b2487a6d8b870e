use Rattle.kept_model.proofs.DropLemmas.{piece_drops, index_drops, version_drops}
use Rattle.kept_model.proofs.purge.purge_goes_on.Goals as goal

pub returns-clause-piece : goal.returns-clause-piece
returns-clause-piece c = piece_drops

pub returns-clause-index : goal.returns-clause-index
returns-clause-index c = index_drops

pub returns-clause-version : goal.returns-clause-version
returns-clause-version c = version_drops
