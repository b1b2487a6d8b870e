use Rattle.std.proofs.Common.{refl}
use Rattle.std.specs.Fmt.{digits}
use Rattle.std.specs.Str.{is_utf8, chars}
use Rattle.json.specs.Print.{escape_byte}
use Rattle.binary_model.proofs.OnLiterals.{binary_on_literals}
use Rattle.serde_json.proofs.OnLiterals.{serde_json_on_literals}
use Rattle.journal_model.specs.Locks.{sessions}
use Rattle.journal_model.specs.Part.{next_part}
use Rattle.journal_model.specs.Journal.{new_store, no_room, report, busy, session, Did, Audited}
use Rattle.journal_rows.specs.MixedRuns.{small_store}
use Rattle.journal_rows.proofs.RunLemmas.{runs, refused}
use Rattle.journal_rows.proofs.mixed.row_small_store.Goals as goal

pub returns-clause-runs : goal.returns-clause-runs
unfolding binary_on_literals serde_json_on_literals digits sessions next_part is_utf8 chars escape_byte
returns-clause-runs c = runs (new_store 16) small_store refl refl

pub returns-clause-other_need : goal.returns-clause-other_need
unfolding binary_on_literals serde_json_on_literals digits sessions next_part is_utf8 chars escape_byte
returns-clause-other_need c = refused (new_store 16) small_store 16 (Did 3 2 (no_room 5 4)) refl

pub returns-clause-busy_purge : goal.returns-clause-busy_purge
unfolding binary_on_literals serde_json_on_literals digits sessions next_part is_utf8 chars escape_byte
returns-clause-busy_purge c = refused (new_store 16) small_store 28 (Audited (busy (session 3))) refl

pub returns-clause-more_pieces : goal.returns-clause-more_pieces
unfolding binary_on_literals serde_json_on_literals digits sessions next_part is_utf8 chars escape_byte
returns-clause-more_pieces c = refused (new_store 16) small_store 28 (Audited (report 3 3 7 7)) refl
