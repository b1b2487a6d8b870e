use Rattle.kept_model.proofs.WorkLobs.{piece_halves, index_halves, pop_halves}
use Rattle.kept_model.proofs.held.lobs_are_half_undone.Goals as goal

pub returns-clause-piece : goal.returns-clause-piece
returns-clause-piece c = piece_halves

pub returns-clause-index : goal.returns-clause-index
returns-clause-index c = index_halves

pub returns-clause-version : goal.returns-clause-version
returns-clause-version c = pop_halves
