use Rattle.kept_model.proofs.UndoLobs.{made_undoes, raised_undoes, patched_undoes, removed_undoes}
use Rattle.kept_model.proofs.held.lobs_are_undone.Goals as goal

pub returns-clause-made : goal.returns-clause-made
returns-clause-made c = made_undoes

pub returns-clause-raised : goal.returns-clause-raised
returns-clause-raised c = raised_undoes

pub returns-clause-patched : goal.returns-clause-patched
returns-clause-patched c = patched_undoes

pub returns-clause-removed : goal.returns-clause-removed
returns-clause-removed c = removed_undoes
