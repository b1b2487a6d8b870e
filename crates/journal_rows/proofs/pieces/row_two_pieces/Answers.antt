use Rattle.std.proofs.Common.{refl}
use Rattle.std.specs.Fmt.{digits}
use Rattle.std.specs.Str.{is_utf8, chars}
use Rattle.json.specs.Print.{escape_byte}
use Rattle.binary_model.proofs.OnLiterals.{binary_on_literals}
use Rattle.serde_json.proofs.OnLiterals.{serde_json_on_literals}
use Rattle.journal_model.specs.Locks.{sessions}
use Rattle.journal_model.specs.Part.{next_part}
use Rattle.journal_model.specs.Journal.{new_store, report, busy, session, purging, Audited}
use Rattle.journal_rows.specs.PieceRuns.{two_pieces}
use Rattle.journal_rows.proofs.RunLemmas.{runs, refused, allowed}
use Rattle.journal_rows.proofs.pieces.row_two_pieces.Goals as goal

pub returns-clause-runs : goal.returns-clause-runs
unfolding binary_on_literals serde_json_on_literals digits sessions next_part is_utf8 chars escape_byte
returns-clause-runs c = runs (new_store 4096) two_pieces refl refl

pub returns-clause-other_documents : goal.returns-clause-other_documents
unfolding binary_on_literals serde_json_on_literals digits sessions next_part is_utf8 chars escape_byte
returns-clause-other_documents c = refused (new_store 4096) two_pieces 3 (Audited (report 0 1 2 2)) refl

pub returns-clause-other_lobs : goal.returns-clause-other_lobs
unfolding binary_on_literals serde_json_on_literals digits sessions next_part is_utf8 chars escape_byte
returns-clause-other_lobs c = refused (new_store 4096) two_pieces 3 (Audited (report 1 2 2 2)) refl

pub returns-clause-other_pieces : goal.returns-clause-other_pieces
unfolding binary_on_literals serde_json_on_literals digits sessions next_part is_utf8 chars escape_byte
returns-clause-other_pieces c = refused (new_store 4096) two_pieces 3 (Audited (report 1 1 1 2)) refl

pub returns-clause-other_versions : goal.returns-clause-other_versions
unfolding binary_on_literals serde_json_on_literals digits sessions next_part is_utf8 chars escape_byte
returns-clause-other_versions c = refused (new_store 4096) two_pieces 3 (Audited (report 1 1 2 3)) refl

pub returns-clause-busy_session : goal.returns-clause-busy_session
unfolding binary_on_literals serde_json_on_literals digits sessions next_part is_utf8 chars escape_byte
returns-clause-busy_session c = refused (new_store 4096) two_pieces 3 (Audited (busy (session 1))) refl

pub returns-clause-busy_purge : goal.returns-clause-busy_purge
unfolding binary_on_literals serde_json_on_literals digits sessions next_part is_utf8 chars escape_byte
returns-clause-busy_purge c = allowed (new_store 4096) two_pieces 3 (Audited (busy purging)) refl
