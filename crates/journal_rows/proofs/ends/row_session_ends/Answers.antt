use Rattle.std.proofs.Common.{refl}
use Rattle.std.specs.Fmt.{digits}
use Rattle.std.specs.Str.{is_utf8, chars}
use Rattle.json.specs.Print.{escape_byte}
use Rattle.binary_model.proofs.OnLiterals.{binary_on_literals}
use Rattle.serde_json.proofs.OnLiterals.{serde_json_on_literals}
use Rattle.journal_model.specs.Locks.{sessions}
use Rattle.journal_model.specs.Part.{next_part}
use Rattle.journal_model.specs.Journal.{new_store, done, by_rollback, by_deadlock, by_end, Did, Commit, Undone}
use Rattle.journal_rows.specs.EndRuns.{session_ends}
use Rattle.journal_rows.proofs.RunLemmas.{runs, refused}
use Rattle.journal_rows.proofs.ends.row_session_ends.Goals as goal

pub returns-clause-runs : goal.returns-clause-runs
unfolding binary_on_literals serde_json_on_literals digits sessions next_part is_utf8 chars escape_byte
returns-clause-runs c = runs (new_store 4096) session_ends refl refl

pub returns-clause-begun_twice : goal.returns-clause-begun_twice
unfolding binary_on_literals serde_json_on_literals digits sessions next_part is_utf8 chars escape_byte
returns-clause-begun_twice c = refused (new_store 4096) session_ends 3 (Did 1 2 done) refl

pub returns-clause-committed : goal.returns-clause-committed
unfolding binary_on_literals serde_json_on_literals digits sessions next_part is_utf8 chars escape_byte
returns-clause-committed c = refused (new_store 4096) session_ends 6 (Commit 1 1) refl

pub returns-clause-rolled_back : goal.returns-clause-rolled_back
unfolding binary_on_literals serde_json_on_literals digits sessions next_part is_utf8 chars escape_byte
returns-clause-rolled_back c = refused (new_store 4096) session_ends 6 (Undone 1 by_rollback) refl

pub returns-clause-by_deadlock : goal.returns-clause-by_deadlock
unfolding binary_on_literals serde_json_on_literals digits sessions next_part is_utf8 chars escape_byte
returns-clause-by_deadlock c = refused (new_store 4096) session_ends 6 (Undone 1 by_deadlock) refl

pub returns-clause-ended_early : goal.returns-clause-ended_early
unfolding binary_on_literals serde_json_on_literals digits sessions next_part is_utf8 chars escape_byte
returns-clause-ended_early c = refused (new_store 4096) session_ends 4 (Undone 1 by_end) refl
