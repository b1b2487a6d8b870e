use Rattle.std.proofs.Common.{refl, codes}
use Rattle.std.specs.Fmt.{digits}
use Rattle.std.specs.Str.{is_utf8, chars}
use Rattle.json.specs.Print.{escape_byte}
use Rattle.binary_model.proofs.OnLiterals.{binary_on_literals}
use Rattle.serde_json.proofs.OnLiterals.{serde_json_on_literals}
use Rattle.journal_model.specs.Locks.{sessions}
use Rattle.journal_model.specs.Part.{next_part}
use Rattle.journal_model.specs.Journal.{new_store, doc, View, Did}
use Rattle.journal_rows.specs.ViewRuns.{repeatable_read}
use Rattle.journal_rows.proofs.RunLemmas.{runs, refused}
use Rattle.journal_rows.proofs.views.row_repeatable_read.Goals as goal

pub returns-clause-runs : goal.returns-clause-runs
unfolding binary_on_literals serde_json_on_literals digits sessions next_part is_utf8 chars escape_byte
returns-clause-runs c = runs (new_store 4096) repeatable_read refl refl

pub returns-clause-second_view : goal.returns-clause-second_view
unfolding binary_on_literals serde_json_on_literals digits sessions next_part is_utf8 chars escape_byte
returns-clause-second_view c = refused (new_store 4096) repeatable_read 20 (View 2 4) refl

pub returns-clause-changed_elsewhere : goal.returns-clause-changed_elsewhere
unfolding binary_on_literals serde_json_on_literals digits sessions next_part is_utf8 chars escape_byte
returns-clause-changed_elsewhere c = refused (new_store 4096) repeatable_read 23 (Did 2 5 (doc (codes "{\"n\": 5}"))) refl

pub returns-clause-at_its_view : goal.returns-clause-at_its_view
unfolding binary_on_literals serde_json_on_literals digits sessions next_part is_utf8 chars escape_byte
returns-clause-at_its_view c = refused (new_store 4096) repeatable_read 20 (Did 2 4 (doc (codes "{\"k\": 9, \"n\": 1}"))) refl
