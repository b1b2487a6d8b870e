use Rattle.std.proofs.Common.{refl}
use Rattle.std.specs.Fmt.{digits}
use Rattle.std.specs.Str.{is_utf8, chars}
use Rattle.json.specs.Print.{escape_byte}
use Rattle.binary_model.proofs.OnLiterals.{binary_on_literals}
use Rattle.serde_json.proofs.OnLiterals.{serde_json_on_literals}
use Rattle.journal_model.specs.Locks.{sessions}
use Rattle.journal_model.specs.Part.{next_part}
use Rattle.journal_model.specs.Journal.{new_store, absent, report, Wait, Did, Audited}
use Rattle.journal_rows.specs.MixedRuns.{readers_between}
use Rattle.journal_rows.proofs.RunLemmas.{runs, refused}
use Rattle.journal_rows.proofs.mixed.row_readers_between.Goals as goal

pub returns-clause-runs : goal.returns-clause-runs
unfolding binary_on_literals serde_json_on_literals digits sessions next_part is_utf8 chars escape_byte
returns-clause-runs c = runs (new_store 4096) readers_between refl refl

pub returns-clause-purged_away : goal.returns-clause-purged_away
unfolding binary_on_literals serde_json_on_literals digits sessions next_part is_utf8 chars escape_byte
returns-clause-purged_away c = refused (new_store 4096) readers_between 20 (Audited (report 1 1 2 2)) refl

pub returns-clause-newest_shown : goal.returns-clause-newest_shown
unfolding binary_on_literals serde_json_on_literals digits sessions next_part is_utf8 chars escape_byte
returns-clause-newest_shown c = refused (new_store 4096) readers_between 27 (Did 3 1 absent) refl

pub returns-clause-another_holder : goal.returns-clause-another_holder
unfolding binary_on_literals serde_json_on_literals digits sessions next_part is_utf8 chars escape_byte
returns-clause-another_holder c = refused (new_store 4096) readers_between 35 (Wait 3 2 1) refl
