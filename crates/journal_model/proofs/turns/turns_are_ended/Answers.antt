use Rattle.journal_model.proofs.TurnSteps.{turns_ended, turns_settled}
use Rattle.journal_model.proofs.turns.turns_are_ended.Goals as goal

pub returns-clause-ended : goal.returns-clause-ended
returns-clause-ended c = turns_ended

pub returns-clause-settled : goal.returns-clause-settled
returns-clause-settled c = turns_settled
