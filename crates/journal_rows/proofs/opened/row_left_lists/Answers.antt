use Rattle.std.proofs.Common.{refl}
use Rattle.std.specs.Fmt.{digits}
use Rattle.std.specs.Str.{is_utf8, chars}
use Rattle.json.specs.Print.{escape_byte}
use Rattle.binary_model.proofs.OnLiterals.{binary_on_literals}
use Rattle.serde_json.proofs.OnLiterals.{serde_json_on_literals}
use Rattle.journal_model.specs.Locks.{sessions}
use Rattle.journal_model.specs.Part.{next_part}
use Rattle.journal_rows.specs.OpenedRuns.{left_lists_opening, left_lists}
use Rattle.journal_rows.proofs.RunLemmas.{runs}
use Rattle.journal_rows.proofs.opened.row_left_lists.Goals as goal

pub returns-clause-runs : goal.returns-clause-runs
unfolding binary_on_literals serde_json_on_literals digits sessions next_part is_utf8 chars escape_byte
returns-clause-runs c = runs left_lists_opening left_lists refl refl

pub returns-clause-lobs_1 : goal.returns-clause-lobs_1
returns-clause-lobs_1 c = refl

pub returns-clause-lobs_2 : goal.returns-clause-lobs_2
returns-clause-lobs_2 c = refl

pub returns-clause-lobs_3 : goal.returns-clause-lobs_3
returns-clause-lobs_3 c = refl
