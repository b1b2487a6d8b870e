use Rattle.kept_model.proofs.PassLobs.{piece_drops, index_drops}
use Rattle.kept_model.proofs.VersionEnds.{version_drops}
use Rattle.kept_model.proofs.held.lobs_are_half_purged.Goals as goal

pub returns-clause-piece : goal.returns-clause-piece
returns-clause-piece c = piece_drops

pub returns-clause-index : goal.returns-clause-index
returns-clause-index c = index_drops

pub returns-clause-version : goal.returns-clause-version
returns-clause-version c = version_drops
