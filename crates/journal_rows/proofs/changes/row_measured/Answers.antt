use Rattle.std.proofs.Common.{refl}
use Rattle.std.specs.Fmt.{digits}
use Rattle.std.specs.Str.{is_utf8, chars}
use Rattle.json.specs.Print.{escape_byte}
use Rattle.binary_model.proofs.OnLiterals.{binary_on_literals}
use Rattle.serde_json.proofs.OnLiterals.{serde_json_on_literals}
use Rattle.journal_model.specs.Locks.{sessions}
use Rattle.journal_model.specs.Part.{next_part}
use Rattle.journal_model.specs.Journal.{new_store, sized, Did}
use Rattle.journal_rows.specs.ChangeRuns.{measured}
use Rattle.journal_rows.proofs.RunLemmas.{runs, refused}
use Rattle.journal_rows.proofs.changes.row_measured.Goals as goal

pub returns-clause-runs : goal.returns-clause-runs
unfolding binary_on_literals serde_json_on_literals digits sessions next_part is_utf8 chars escape_byte
returns-clause-runs c = runs (new_store 4096) measured refl refl

pub returns-clause-other_size : goal.returns-clause-other_size
unfolding binary_on_literals serde_json_on_literals digits sessions next_part is_utf8 chars escape_byte
returns-clause-other_size c = refused (new_store 4096) measured 5 (Did 1 2 (sized 46 0)) refl

pub returns-clause-other_free : goal.returns-clause-other_free
unfolding binary_on_literals serde_json_on_literals digits sessions next_part is_utf8 chars escape_byte
returns-clause-other_free c = refused (new_store 4096) measured 5 (Did 1 2 (sized 47 1)) refl
