use Rattle.std.proofs.Common.{refl}
use Rattle.std.specs.Fmt.{digits}
use Rattle.std.specs.Str.{is_utf8, chars}
use Rattle.json.specs.Print.{escape_byte}
use Rattle.binary_model.proofs.OnLiterals.{binary_on_literals}
use Rattle.serde_json.proofs.OnLiterals.{serde_json_on_literals}
use Rattle.journal_model.specs.Locks.{sessions}
use Rattle.journal_model.specs.Part.{next_part}
use Rattle.journal_model.specs.Journal.{new_store, report, Audited}
use Rattle.journal_rows.specs.MixedRuns.{levels_and_audits}
use Rattle.journal_rows.proofs.RunLemmas.{runs, refused}
use Rattle.journal_rows.proofs.mixed.row_levels_and_audits.Goals as goal

pub returns-clause-runs : goal.returns-clause-runs
unfolding binary_on_literals serde_json_on_literals digits sessions next_part is_utf8 chars escape_byte
returns-clause-runs c = runs (new_store 4096) levels_and_audits refl refl

pub returns-clause-dropped_versions : goal.returns-clause-dropped_versions
unfolding binary_on_literals serde_json_on_literals digits sessions next_part is_utf8 chars escape_byte
returns-clause-dropped_versions c = refused (new_store 4096) levels_and_audits 67 (Audited (report 4 4 6 6)) refl
