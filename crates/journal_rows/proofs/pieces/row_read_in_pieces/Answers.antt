use Rattle.std.proofs.Common.{refl}
use Rattle.std.specs.Fmt.{digits}
use Rattle.std.specs.Str.{is_utf8, chars}
use Rattle.json.specs.Print.{escape_byte}
use Rattle.binary_model.proofs.OnLiterals.{binary_on_literals}
use Rattle.serde_json.proofs.OnLiterals.{serde_json_on_literals}
use Rattle.journal_model.specs.Locks.{sessions}
use Rattle.journal_model.specs.Part.{next_part}
use Rattle.journal_model.specs.Journal.{new_store, absent, View, Did, Commit}
use Rattle.journal_rows.specs.PieceRuns.{read_in_pieces}
use Rattle.journal_rows.proofs.RunLemmas.{runs, refused}
use Rattle.journal_rows.proofs.pieces.row_read_in_pieces.Goals as goal

pub returns-clause-runs : goal.returns-clause-runs
unfolding binary_on_literals serde_json_on_literals digits sessions next_part is_utf8 chars escape_byte
returns-clause-runs c = runs (new_store 4096) read_in_pieces refl refl

pub returns-clause-two_views : goal.returns-clause-two_views
unfolding binary_on_literals serde_json_on_literals digits sessions next_part is_utf8 chars escape_byte
returns-clause-two_views c = refused (new_store 4096) read_in_pieces 7 (View 2 1) refl

pub returns-clause-early_view : goal.returns-clause-early_view
unfolding binary_on_literals serde_json_on_literals digits sessions next_part is_utf8 chars escape_byte
returns-clause-early_view c = refused (new_store 4096) read_in_pieces 5 (View 2 1) refl

pub returns-clause-other_view : goal.returns-clause-other_view
unfolding binary_on_literals serde_json_on_literals digits sessions next_part is_utf8 chars escape_byte
returns-clause-other_view c = refused (new_store 4096) read_in_pieces 6 (View 2 2) refl

pub returns-clause-absent : goal.returns-clause-absent
unfolding binary_on_literals serde_json_on_literals digits sessions next_part is_utf8 chars escape_byte
returns-clause-absent c = refused (new_store 4096) read_in_pieces 10 (Did 2 2 absent) refl

pub returns-clause-uncommitted : goal.returns-clause-uncommitted
unfolding binary_on_literals serde_json_on_literals digits sessions next_part is_utf8 chars escape_byte
returns-clause-uncommitted c = refused (new_store 4096) read_in_pieces 9 (Did 2 2 absent) refl

pub returns-clause-other_commit : goal.returns-clause-other_commit
unfolding binary_on_literals serde_json_on_literals digits sessions next_part is_utf8 chars escape_byte
returns-clause-other_commit c = refused (new_store 4096) read_in_pieces 9 (Commit 1 3) refl
