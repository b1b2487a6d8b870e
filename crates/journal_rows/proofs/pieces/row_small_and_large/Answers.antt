use Rattle.std.proofs.Common.{refl}
use Rattle.std.specs.Fmt.{digits}
use Rattle.std.specs.Str.{is_utf8, chars}
use Rattle.json.specs.Print.{escape_byte}
use Rattle.binary_model.proofs.OnLiterals.{binary_on_literals}
use Rattle.serde_json.proofs.OnLiterals.{serde_json_on_literals}
use Rattle.journal_model.specs.Locks.{sessions}
use Rattle.journal_model.specs.Part.{next_part}
use Rattle.journal_model.specs.Journal.{new_store, full, part, report, Did, Audited}
use Rattle.journal_rows.specs.PieceRuns.{small_and_large}
use Rattle.journal_rows.proofs.RunLemmas.{runs, refused}
use Rattle.journal_rows.proofs.pieces.row_small_and_large.Goals as goal

pub returns-clause-runs : goal.returns-clause-runs
unfolding binary_on_literals serde_json_on_literals digits sessions next_part is_utf8 chars escape_byte
returns-clause-runs c = runs (new_store 4096) small_and_large refl refl

pub returns-clause-one_more : goal.returns-clause-one_more
unfolding binary_on_literals serde_json_on_literals digits sessions next_part is_utf8 chars escape_byte
returns-clause-one_more c = refused (new_store 4096) small_and_large 4 (Did 1 2 (part 101)) refl

pub returns-clause-rewritten : goal.returns-clause-rewritten
unfolding binary_on_literals serde_json_on_literals digits sessions next_part is_utf8 chars escape_byte
returns-clause-rewritten c = refused (new_store 4096) small_and_large 4 (Did 1 2 full) refl

pub returns-clause-a_version : goal.returns-clause-a_version
unfolding binary_on_literals serde_json_on_literals digits sessions next_part is_utf8 chars escape_byte
returns-clause-a_version c = refused (new_store 4096) small_and_large 6 (Audited (report 1 1 1 2)) refl

pub returns-clause-none : goal.returns-clause-none
unfolding binary_on_literals serde_json_on_literals digits sessions next_part is_utf8 chars escape_byte
returns-clause-none c = refused (new_store 4096) small_and_large 10 (Audited (report 1 1 1 1)) refl
