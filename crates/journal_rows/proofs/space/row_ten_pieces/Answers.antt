use Rattle.std.proofs.Common.{refl}
use Rattle.std.specs.Fmt.{digits}
use Rattle.std.specs.Str.{is_utf8, chars}
use Rattle.json.specs.Print.{escape_byte}
use Rattle.binary_model.proofs.OnLiterals.{binary_on_literals}
use Rattle.serde_json.proofs.OnLiterals.{serde_json_on_literals}
use Rattle.journal_model.specs.Locks.{sessions}
use Rattle.journal_model.specs.Part.{next_part}
use Rattle.journal_model.specs.Journal.{new_store, no_room, full, Did}
use Rattle.journal_rows.specs.SpaceRuns.{ten_pieces}
use Rattle.journal_rows.proofs.RunLemmas.{runs, refused, allowed}
use Rattle.journal_rows.proofs.space.row_ten_pieces.Goals as goal

pub returns-clause-runs : goal.returns-clause-runs
unfolding binary_on_literals serde_json_on_literals digits sessions next_part is_utf8 chars escape_byte
returns-clause-runs c = runs (new_store 16) ten_pieces refl refl

pub returns-clause-other_need : goal.returns-clause-other_need
unfolding binary_on_literals serde_json_on_literals digits sessions next_part is_utf8 chars escape_byte
returns-clause-other_need c = refused (new_store 16) ten_pieces 4 (Did 1 2 (no_room 13 12)) refl

pub returns-clause-too_few : goal.returns-clause-too_few
unfolding binary_on_literals serde_json_on_literals digits sessions next_part is_utf8 chars escape_byte
returns-clause-too_few c = refused (new_store 16) ten_pieces 4 (Did 1 2 (no_room 14 10)) refl

pub returns-clause-enough : goal.returns-clause-enough
unfolding binary_on_literals serde_json_on_literals digits sessions next_part is_utf8 chars escape_byte
returns-clause-enough c = refused (new_store 16) ten_pieces 4 (Did 1 2 (no_room 14 14)) refl

pub returns-clause-small_change : goal.returns-clause-small_change
unfolding binary_on_literals serde_json_on_literals digits sessions next_part is_utf8 chars escape_byte
returns-clause-small_change c = refused (new_store 16) ten_pieces 1 (Did 1 1 (no_room 5 4)) refl

pub returns-clause-one_less : goal.returns-clause-one_less
unfolding binary_on_literals serde_json_on_literals digits sessions next_part is_utf8 chars escape_byte
returns-clause-one_less c = allowed (new_store 16) ten_pieces 4 (Did 1 2 (no_room 14 11)) refl

pub returns-clause-one_more : goal.returns-clause-one_more
unfolding binary_on_literals serde_json_on_literals digits sessions next_part is_utf8 chars escape_byte
returns-clause-one_more c = allowed (new_store 16) ten_pieces 4 (Did 1 2 (no_room 14 13)) refl

pub returns-clause-made : goal.returns-clause-made
unfolding binary_on_literals serde_json_on_literals digits sessions next_part is_utf8 chars escape_byte
returns-clause-made c = allowed (new_store 16) ten_pieces 4 (Did 1 2 full) refl
