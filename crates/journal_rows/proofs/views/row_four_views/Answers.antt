use Rattle.std.proofs.Common.{refl}
use Rattle.std.specs.Fmt.{digits}
use Rattle.std.specs.Str.{is_utf8, chars}
use Rattle.json.specs.Print.{escape_byte}
use Rattle.binary_model.proofs.OnLiterals.{binary_on_literals}
use Rattle.serde_json.proofs.OnLiterals.{serde_json_on_literals}
use Rattle.journal_model.specs.Locks.{sessions}
use Rattle.journal_model.specs.Part.{next_part}
use Rattle.journal_model.specs.Journal.{new_store, report, busy, purging, Purged, Audited}
use Rattle.journal_rows.specs.ViewRuns.{four_views}
use Rattle.journal_rows.proofs.RunLemmas.{runs, refused}
use Rattle.journal_rows.proofs.views.row_four_views.Goals as goal

pub returns-clause-runs : goal.returns-clause-runs
unfolding binary_on_literals serde_json_on_literals digits sessions next_part is_utf8 chars escape_byte
returns-clause-runs c = runs (new_store 4096) four_views refl refl

pub returns-clause-past_a_view : goal.returns-clause-past_a_view
unfolding binary_on_literals serde_json_on_literals digits sessions next_part is_utf8 chars escape_byte
returns-clause-past_a_view c = refused (new_store 4096) four_views 25 (Purged 2) refl

pub returns-clause-out_of_order : goal.returns-clause-out_of_order
unfolding binary_on_literals serde_json_on_literals digits sessions next_part is_utf8 chars escape_byte
returns-clause-out_of_order c = refused (new_store 4096) four_views 24 (Purged 2) refl

pub returns-clause-busy_purge : goal.returns-clause-busy_purge
unfolding binary_on_literals serde_json_on_literals digits sessions next_part is_utf8 chars escape_byte
returns-clause-busy_purge c = refused (new_store 4096) four_views 37 (Audited (busy purging)) refl

pub returns-clause-fewer_versions : goal.returns-clause-fewer_versions
unfolding binary_on_literals serde_json_on_literals digits sessions next_part is_utf8 chars escape_byte
returns-clause-fewer_versions c = refused (new_store 4096) four_views 37 (Audited (report 1 1 1 1)) refl

pub returns-clause-past_the_last : goal.returns-clause-past_the_last
unfolding binary_on_literals serde_json_on_literals digits sessions next_part is_utf8 chars escape_byte
returns-clause-past_the_last c = refused (new_store 4096) four_views 52 (Purged 5) refl

pub returns-clause-more_versions : goal.returns-clause-more_versions
unfolding binary_on_literals serde_json_on_literals digits sessions next_part is_utf8 chars escape_byte
returns-clause-more_versions c = refused (new_store 4096) four_views 53 (Audited (report 1 1 1 2)) refl
