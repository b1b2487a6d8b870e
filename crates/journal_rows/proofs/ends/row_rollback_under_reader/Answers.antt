use Rattle.std.proofs.Common.{refl}
use Rattle.std.specs.Fmt.{digits}
use Rattle.std.specs.Str.{is_utf8, chars}
use Rattle.json.specs.Print.{escape_byte}
use Rattle.binary_model.proofs.OnLiterals.{binary_on_literals}
use Rattle.serde_json.proofs.OnLiterals.{serde_json_on_literals}
use Rattle.journal_model.specs.Locks.{sessions}
use Rattle.journal_model.specs.Part.{next_part}
use Rattle.journal_model.specs.Journal.{new_store, done, absent, by_end, busy, session, Did, Commit, Undone, Audited}
use Rattle.journal_rows.specs.EndRuns.{rollback_under_reader}
use Rattle.journal_rows.proofs.RunLemmas.{runs, refused, allowed}
use Rattle.journal_rows.proofs.ends.row_rollback_under_reader.Goals as goal

pub returns-clause-runs : goal.returns-clause-runs
unfolding binary_on_literals serde_json_on_literals digits sessions next_part is_utf8 chars escape_byte
returns-clause-runs c = runs (new_store 4096) rollback_under_reader refl refl

pub returns-clause-answered_first : goal.returns-clause-answered_first
unfolding binary_on_literals serde_json_on_literals digits sessions next_part is_utf8 chars escape_byte
returns-clause-answered_first c = refused (new_store 4096) rollback_under_reader 12 (Did 1 4 done) refl

pub returns-clause-other_cause : goal.returns-clause-other_cause
unfolding binary_on_literals serde_json_on_literals digits sessions next_part is_utf8 chars escape_byte
returns-clause-other_cause c = refused (new_store 4096) rollback_under_reader 12 (Undone 1 by_end) refl

pub returns-clause-committed : goal.returns-clause-committed
unfolding binary_on_literals serde_json_on_literals digits sessions next_part is_utf8 chars escape_byte
returns-clause-committed c = refused (new_store 4096) rollback_under_reader 12 (Commit 1 2) refl

pub returns-clause-shown_dirty : goal.returns-clause-shown_dirty
unfolding binary_on_literals serde_json_on_literals digits sessions next_part is_utf8 chars escape_byte
returns-clause-shown_dirty c = refused (new_store 4096) rollback_under_reader 14 (Did 2 2 absent) refl

pub returns-clause-busy : goal.returns-clause-busy
unfolding binary_on_literals serde_json_on_literals digits sessions next_part is_utf8 chars escape_byte
returns-clause-busy c = allowed (new_store 4096) rollback_under_reader 12 (Audited (busy (session 1))) refl
