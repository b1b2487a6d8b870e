use Rattle.store_steps.proofs.UseLemmas.{on_told}
use Rattle.rollback.proofs.KindLemmas.{ended_removed}
use Rattle.rollback.proofs.kinds.undo_removed.Goals as goal

pub returns-clause-makes : goal.returns-clause-makes
returns-clause-makes g c = λ s is newest dir body can.
    on_told c.end_record.result _ _ _ (λ new e. ended_removed s c.end_record.new.rows new body e)
    (c.end_record.ensures.ends s is newest dir can)
