use Rattle.std.proofs.Common.{refl, codes}
use Rattle.std.specs.Fmt.{digits}
use Rattle.std.specs.Str.{is_utf8, chars}
use Rattle.json.specs.Print.{escape_byte}
use Rattle.binary_model.proofs.OnLiterals.{binary_on_literals}
use Rattle.serde_json.proofs.OnLiterals.{serde_json_on_literals}
use Rattle.journal_model.specs.Locks.{sessions}
use Rattle.journal_model.specs.Part.{next_part}
use Rattle.journal_model.specs.Journal.{new_store, doc, View, Did}
use Rattle.journal_rows.specs.ViewRuns.{read_committed}
use Rattle.journal_rows.proofs.RunLemmas.{runs, refused}
use Rattle.journal_rows.proofs.views.row_read_committed.Goals as goal

pub returns-clause-runs : goal.returns-clause-runs
unfolding binary_on_literals serde_json_on_literals digits sessions next_part is_utf8 chars escape_byte
returns-clause-runs c = runs (new_store 4096) read_committed refl refl

pub returns-clause-without_a_view : goal.returns-clause-without_a_view
unfolding binary_on_literals serde_json_on_literals digits sessions next_part is_utf8 chars escape_byte
returns-clause-without_a_view c = refused (new_store 4096) read_committed 18 (Did 2 3 (doc (codes "{\"n\": 2}"))) refl

pub returns-clause-old_view : goal.returns-clause-old_view
unfolding binary_on_literals serde_json_on_literals digits sessions next_part is_utf8 chars escape_byte
returns-clause-old_view c = refused (new_store 4096) read_committed 18 (View 2 2) refl

pub returns-clause-old_document : goal.returns-clause-old_document
unfolding binary_on_literals serde_json_on_literals digits sessions next_part is_utf8 chars escape_byte
returns-clause-old_document c = refused (new_store 4096) read_committed 19 (Did 2 3 (doc (codes "{\"n\": 1}"))) refl
