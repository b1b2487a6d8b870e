use Rattle.kept_model.proofs.WorkLobs.{piece_goes_on, push_goes_on}
use Rattle.kept_model.proofs.held.lobs_go_on.Goals as goal

pub returns-clause-piece : goal.returns-clause-piece
returns-clause-piece c = piece_goes_on

pub returns-clause-version : goal.returns-clause-version
returns-clause-version c = push_goes_on
