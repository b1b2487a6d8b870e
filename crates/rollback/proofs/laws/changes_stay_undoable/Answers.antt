use Rattle.rollback.proofs.ChangeLemmas.{insert_undoable, rebuild_undoable, piece_undoable, raise_undoable, push_undoable, patch_undoable, delete_undoable}
use Rattle.rollback.proofs.laws.changes_stay_undoable.Goals as goal

pub returns-clause-insert : goal.returns-clause-insert
returns-clause-insert c = insert_undoable

pub returns-clause-full : goal.returns-clause-full
returns-clause-full c = rebuild_undoable

pub returns-clause-piece : goal.returns-clause-piece
returns-clause-piece c = piece_undoable

pub returns-clause-versioned : goal.returns-clause-versioned
returns-clause-versioned c = raise_undoable

pub returns-clause-push : goal.returns-clause-push
returns-clause-push c = push_undoable

pub returns-clause-patched : goal.returns-clause-patched
returns-clause-patched c = patch_undoable

pub returns-clause-delete : goal.returns-clause-delete
returns-clause-delete c = delete_undoable
