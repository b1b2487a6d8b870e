use Rattle.std.proofs.Common.{refl}
use Rattle.std.specs.Fmt.{digits}
use Rattle.std.specs.Str.{is_utf8, chars}
use Rattle.json.specs.Print.{escape_byte}
use Rattle.binary_model.proofs.OnLiterals.{binary_on_literals}
use Rattle.serde_json.proofs.OnLiterals.{serde_json_on_literals}
use Rattle.journal_model.specs.Locks.{sessions}
use Rattle.journal_model.specs.Part.{next_part}
use Rattle.journal_model.specs.Journal.{new_store, full, restarted, report, Start, Did, Audited, Restart}
use Rattle.journal_rows.specs.EndRuns.{restart_midway}
use Rattle.journal_rows.proofs.RunLemmas.{runs, refused, allowed}
use Rattle.journal_rows.proofs.ends.row_restart_midway.Goals as goal

pub returns-clause-runs : goal.returns-clause-runs
unfolding binary_on_literals serde_json_on_literals digits sessions next_part is_utf8 chars escape_byte
returns-clause-runs c = runs (new_store 64) restart_midway refl refl

pub returns-clause-other_count : goal.returns-clause-other_count
unfolding binary_on_literals serde_json_on_literals digits sessions next_part is_utf8 chars escape_byte
returns-clause-other_count c = refused (new_store 64) restart_midway 7 (Restart 1) refl

pub returns-clause-without_a_restart : goal.returns-clause-without_a_restart
unfolding binary_on_literals serde_json_on_literals digits sessions next_part is_utf8 chars escape_byte
returns-clause-without_a_restart c = refused (new_store 64) restart_midway 7 (Did 2 1 restarted) refl

pub returns-clause-goes_on : goal.returns-clause-goes_on
unfolding binary_on_literals serde_json_on_literals digits sessions next_part is_utf8 chars escape_byte
returns-clause-goes_on c = refused (new_store 64) restart_midway 8 (Start 1 3) refl

pub returns-clause-audited_first : goal.returns-clause-audited_first
unfolding binary_on_literals serde_json_on_literals digits sessions next_part is_utf8 chars escape_byte
returns-clause-audited_first c = refused (new_store 64) restart_midway 8 (Audited (report 2 2 3 3)) refl

pub returns-clause-answered_so : goal.returns-clause-answered_so
unfolding binary_on_literals serde_json_on_literals digits sessions next_part is_utf8 chars escape_byte
returns-clause-answered_so c = refused (new_store 64) restart_midway 8 (Did 2 1 full) refl

pub returns-clause-twice : goal.returns-clause-twice
unfolding binary_on_literals serde_json_on_literals digits sessions next_part is_utf8 chars escape_byte
returns-clause-twice c = refused (new_store 64) restart_midway 9 (Did 2 1 restarted) refl

pub returns-clause-more : goal.returns-clause-more
unfolding binary_on_literals serde_json_on_literals digits sessions next_part is_utf8 chars escape_byte
returns-clause-more c = refused (new_store 64) restart_midway 12 (Audited (report 2 3 5 5)) refl

pub returns-clause-again : goal.returns-clause-again
unfolding binary_on_literals serde_json_on_literals digits sessions next_part is_utf8 chars escape_byte
returns-clause-again c = allowed (new_store 64) restart_midway 9 (Restart 2) refl
