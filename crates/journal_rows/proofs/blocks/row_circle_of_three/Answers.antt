use Rattle.std.proofs.Common.{refl, [], ◌∷◌}
use Rattle.std.specs.Fmt.{digits}
use Rattle.std.specs.Str.{is_utf8, chars}
use Rattle.json.specs.Print.{escape_byte}
use Rattle.binary_model.proofs.OnLiterals.{binary_on_literals}
use Rattle.serde_json.proofs.OnLiterals.{serde_json_on_literals}
use Rattle.journal_model.specs.Locks.{sessions}
use Rattle.journal_model.specs.Part.{next_part}
use Rattle.journal_model.specs.Journal.{new_store, deadlock, by_rollback, by_end, busy, session, Start, Did, Undone, Audited}
use Rattle.journal_rows.specs.LockRuns.{circle_of_three}
use Rattle.journal_rows.proofs.RunLemmas.{runs, refused, allowed}
use Rattle.journal_rows.proofs.blocks.row_circle_of_three.Goals as goal

pub returns-clause-runs : goal.returns-clause-runs
unfolding binary_on_literals serde_json_on_literals digits sessions next_part is_utf8 chars escape_byte
returns-clause-runs c = runs (new_store 4096) circle_of_three refl refl

pub returns-clause-two_of_them : goal.returns-clause-two_of_them
unfolding binary_on_literals serde_json_on_literals digits sessions next_part is_utf8 chars escape_byte
returns-clause-two_of_them c = refused (new_store 4096) circle_of_three 53 (Did 3 5 (deadlock (1 ∷ 3 ∷ []))) refl

pub returns-clause-starts : goal.returns-clause-starts
unfolding binary_on_literals serde_json_on_literals digits sessions next_part is_utf8 chars escape_byte
returns-clause-starts c = refused (new_store 4096) circle_of_three 54 (Start 3 6) refl

pub returns-clause-ends : goal.returns-clause-ends
unfolding binary_on_literals serde_json_on_literals digits sessions next_part is_utf8 chars escape_byte
returns-clause-ends c = refused (new_store 4096) circle_of_three 54 (Undone 3 by_end) refl

pub returns-clause-rolls_back : goal.returns-clause-rolls_back
unfolding binary_on_literals serde_json_on_literals digits sessions next_part is_utf8 chars escape_byte
returns-clause-rolls_back c = refused (new_store 4096) circle_of_three 59 (Undone 3 by_rollback) refl

pub returns-clause-busy : goal.returns-clause-busy
unfolding binary_on_literals serde_json_on_literals digits sessions next_part is_utf8 chars escape_byte
returns-clause-busy c = allowed (new_store 4096) circle_of_three 54 (Audited (busy (session 3))) refl
