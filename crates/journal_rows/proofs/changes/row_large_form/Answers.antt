use Rattle.std.proofs.Common.{refl}
use Rattle.std.specs.Fmt.{digits}
use Rattle.std.specs.Str.{is_utf8, chars}
use Rattle.json.specs.Print.{escape_byte}
use Rattle.binary_model.proofs.OnLiterals.{binary_on_literals}
use Rattle.serde_json.proofs.OnLiterals.{serde_json_on_literals}
use Rattle.journal_model.specs.Locks.{sessions}
use Rattle.journal_model.specs.Part.{next_part}
use Rattle.journal_model.specs.Journal.{new_store}
use Rattle.journal_rows.specs.ChangeRuns.{large_form}
use Rattle.journal_rows.proofs.RunLemmas.{runs}
use Rattle.journal_rows.proofs.changes.row_large_form.Goals as goal

pub returns : goal.returns
unfolding binary_on_literals serde_json_on_literals digits sessions next_part is_utf8 chars escape_byte
returns c = runs (new_store 4096) large_form refl refl
