use Rattle.std.proofs.Common.{refl, [], ◌∷◌}
use Rattle.std.specs.Fmt.{digits}
use Rattle.std.specs.Str.{is_utf8, chars}
use Rattle.json.specs.Print.{escape_byte}
use Rattle.binary_model.proofs.OnLiterals.{binary_on_literals}
use Rattle.serde_json.proofs.OnLiterals.{serde_json_on_literals}
use Rattle.journal_model.specs.Locks.{sessions}
use Rattle.journal_model.specs.Part.{next_part}
use Rattle.journal_model.specs.Journal.{new_store, deadlock, full, memory, by_rollback, by_deadlock, by_end, busy, session, Start, Wait, Did, Undone, Purged, Audited}
use Rattle.journal_rows.specs.LockRuns.{circle_of_two}
use Rattle.journal_rows.proofs.RunLemmas.{runs, refused, allowed}
use Rattle.journal_rows.proofs.blocks.row_circle_of_two.Goals as goal

pub returns-clause-runs : goal.returns-clause-runs
unfolding binary_on_literals serde_json_on_literals digits sessions next_part is_utf8 chars escape_byte
returns-clause-runs c = runs (new_store 4096) circle_of_two refl refl

pub returns-clause-waits_too : goal.returns-clause-waits_too
unfolding binary_on_literals serde_json_on_literals digits sessions next_part is_utf8 chars escape_byte
returns-clause-waits_too c = refused (new_store 4096) circle_of_two 17 (Did 2 3 full) refl

pub returns-clause-from_itself : goal.returns-clause-from_itself
unfolding binary_on_literals serde_json_on_literals digits sessions next_part is_utf8 chars escape_byte
returns-clause-from_itself c = refused (new_store 4096) circle_of_two 17 (Did 2 3 (deadlock (2 ∷ 1 ∷ []))) refl

pub returns-clause-too_short : goal.returns-clause-too_short
unfolding binary_on_literals serde_json_on_literals digits sessions next_part is_utf8 chars escape_byte
returns-clause-too_short c = refused (new_store 4096) circle_of_two 17 (Did 2 3 (deadlock (1 ∷ []))) refl

pub returns-clause-not_this_one : goal.returns-clause-not_this_one
unfolding binary_on_literals serde_json_on_literals digits sessions next_part is_utf8 chars escape_byte
returns-clause-not_this_one c = refused (new_store 4096) circle_of_two 15 (Did 1 5 (deadlock (2 ∷ 1 ∷ []))) refl

pub returns-clause-another_holder : goal.returns-clause-another_holder
unfolding binary_on_literals serde_json_on_literals digits sessions next_part is_utf8 chars escape_byte
returns-clause-another_holder c = refused (new_store 4096) circle_of_two 15 (Wait 1 2 3) refl

pub returns-clause-waits_again : goal.returns-clause-waits_again
unfolding binary_on_literals serde_json_on_literals digits sessions next_part is_utf8 chars escape_byte
returns-clause-waits_again c = refused (new_store 4096) circle_of_two 16 (Wait 1 2 2) refl

pub returns-clause-goes_on : goal.returns-clause-goes_on
unfolding binary_on_literals serde_json_on_literals digits sessions next_part is_utf8 chars escape_byte
returns-clause-goes_on c = refused (new_store 4096) circle_of_two 18 (Start 2 4) refl

pub returns-clause-ends : goal.returns-clause-ends
unfolding binary_on_literals serde_json_on_literals digits sessions next_part is_utf8 chars escape_byte
returns-clause-ends c = refused (new_store 4096) circle_of_two 18 (Undone 2 by_end) refl

pub returns-clause-rolls_back : goal.returns-clause-rolls_back
unfolding binary_on_literals serde_json_on_literals digits sessions next_part is_utf8 chars escape_byte
returns-clause-rolls_back c = refused (new_store 4096) circle_of_two 18 (Undone 2 by_rollback) refl

pub returns-clause-not_yet : goal.returns-clause-not_yet
unfolding binary_on_literals serde_json_on_literals digits sessions next_part is_utf8 chars escape_byte
returns-clause-not_yet c = refused (new_store 4096) circle_of_two 19 (Did 1 5 (deadlock (2 ∷ 1 ∷ []))) refl

pub returns-clause-undone_twice : goal.returns-clause-undone_twice
unfolding binary_on_literals serde_json_on_literals digits sessions next_part is_utf8 chars escape_byte
returns-clause-undone_twice c = refused (new_store 4096) circle_of_two 19 (Undone 2 by_deadlock) refl

pub returns-clause-past_the_last : goal.returns-clause-past_the_last
unfolding binary_on_literals serde_json_on_literals digits sessions next_part is_utf8 chars escape_byte
returns-clause-past_the_last c = refused (new_store 4096) circle_of_two 26 (Purged 4) refl

pub returns-clause-busy : goal.returns-clause-busy
unfolding binary_on_literals serde_json_on_literals digits sessions next_part is_utf8 chars escape_byte
returns-clause-busy c = allowed (new_store 4096) circle_of_two 18 (Audited (busy (session 2))) refl

pub returns-clause-busy_waiting : goal.returns-clause-busy_waiting
unfolding binary_on_literals serde_json_on_literals digits sessions next_part is_utf8 chars escape_byte
returns-clause-busy_waiting c = allowed (new_store 4096) circle_of_two 17 (Audited (busy (session 1))) refl

pub returns-clause-memory : goal.returns-clause-memory
unfolding binary_on_literals serde_json_on_literals digits sessions next_part is_utf8 chars escape_byte
returns-clause-memory c = allowed (new_store 4096) circle_of_two 17 (Did 2 3 memory) refl
