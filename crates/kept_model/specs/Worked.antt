-- A run of two sessions, event by event: document 1 is {"n":1}, of two pieces. Session 2 reads it
-- while session 1 sets its value in a transaction and takes it back; then the insert is purged.
--     e_..      the engine behind each event
use Rattle.std.specs.Prelude.{ℕ, codes, List, [], ◌∷◌, Some, None}
use Rattle.tree_model.specs.Tree.{Tree, number, object, no_members, member}
use Rattle.std.specs.Prelude.{pos}
use Rattle.journal_model.specs.Journal.{rr, full, part, done, doc, by_rollback, Start, View, Did, Undone}
use Rattle.journal_model.specs.Held.{versioned}
use Rattle.journal_model.specs.History.{commit, Made}
use Rattle.store_data.specs.Store.{Row, Piece, Lob, patched, inserted, Record}
use Rattle.store_model.specs.History.{row_before, absent_row}
use Rattle.store_model.specs.Steps.{on_lob, with_nodes, with_piece}
use Rattle.store_model.specs.Events.{Plan, insert_begun, patch_made}
use Rattle.store_model.specs.Undo.{undo_ended, record_passed}
use Rattle.read_model.specs.Document.{Sees}
use Rattle.read_model.specs.Steps.{opened}
use Rattle.read_model.specs.Flight.{Flight}
use Rattle.read_model.specs.OfStore.{document}
use Rattle.read_model.specs.Rows.{place, run, version_of}
use Rattle.kept_model.specs.Engine.{ReadView, sees_by, adding, nothing, Task, idle, fetching, reading, undoing, resting, Engine}
use Rattle.kept_model.specs.First.{new_engine}
use Rattle.kept_model.specs.Quiet.{granted, quiet_event}
use Rattle.kept_model.specs.Plans.{plan_event}
use Rattle.kept_model.specs.Begun.{log_event}
use Rattle.kept_model.specs.Works.{work_event}
use Rattle.kept_model.specs.Answers.{change_answered, at_once, opened_session, answer_event}
use Rattle.kept_model.specs.Commits.{due_event}
use Rattle.kept_model.specs.Reading.{view_now, read_event}
use Rattle.kept_model.specs.Lasts.{last_event}
use Rattle.kept_model.specs.Ended.{undone_event}
use Rattle.kept_model.specs.Passes.{pass_event}
use Rattle.kept_model.specs.Purges.{begun_event, purged_event}
use Rattle.kept_model.specs.Fetches.{fetch_begun}

-- ---- the document

abbrev pub tree : Tree
tree = object (member (codes "n") (number (pos 1)) no_members)

-- its stored bytes, as they are cut
abbrev pub front_bytes : List ℕ
front_bytes = 0 ∷ 1 ∷ 0 ∷ 12 ∷ 0 ∷ 11 ∷ 0 ∷ 1 ∷ []

abbrev pub back_bytes : List ℕ
back_bytes = 0 ∷ 5 ∷ 1 ∷ 0 ∷ 110 ∷ []

abbrev pub piece : ℕ → ℕ → ℕ → List ℕ → Piece
piece slot page start bytes =
    record { head = version_of (place 3 slot) 1 page start bytes; older = [] }

abbrev pub lob : Lob
lob = record {
  page = 3;
  version = 1;
  pieces = piece 96 3 696 front_bytes ∷ [];
  index = [];
  free = [];
}

abbrev pub starts : ℕ → ℕ → Task → Engine → Engine
starts s i k e =
    quiet_event s (record (e.sessions s) { task = k }) e.locks (Start s i ∷ e.journal) e

-- a change that is granted its lock at once
abbrev pub starts_change : ℕ → ℕ → ℕ → Engine → Engine
starts_change s i d e =
    quiet_event s (record (e.sessions s) { task = fetching d (fetch_begun e.store d) }) (granted d s e.locks)
    (Start s i ∷ e.journal) e

-- ---- session 1 inserts it

abbrev pub insert : Plan
insert = record { trx = 1; doc = 1; number = 0; place = place 9 107 }

abbrev pub e_planned : Engine
e_planned =
    let e = log_event 1 9 (starts_change 1 1 1 new_engine) in
    plan_event 1 insert (adding (back_bytes ∷ [])) full (insert_begun insert lob 13 e.store) e

abbrev pub e_inserted : Engine
e_inserted = due_event 1 1 (change_answered 1 1 full
    (work_event 1 1 nothing full
    (on_lob 3 (λ l. with_nodes [] [] (with_piece (piece 156 4 49 back_bytes) l))) e_planned))

-- ---- session 2 begins to read it, and has copied the first piece

abbrev pub view : ReadView
view = view_now e_inserted.store

abbrev pub e_reading : Engine
e_reading = read_event 2 1 (opened (sees_by None view) (document e_inserted.store 1)) view
    (quiet_event 2 (record resting {
      task = reading 1 (opened (sees_by None view) (document e_inserted.store 1));
      view = Some view;
    }) e_inserted.locks (View 2 1 ∷ Start 2 1 ∷ e_inserted.journal) e_inserted)

-- where the read of an engine has come
abbrev pub flight_of : Task → Flight
flight_of (reading d f) = f
flight_of k = opened (sees_by None view) (document e_inserted.store 1)

-- the row that is found by a read which begins now
abbrev pub seen_row : Sees → Engine → Row
seen_row sees e = (opened sees (document e.store 1)).row

abbrev pub read_on : Engine → Engine
read_on e = read_event 2 1 (flight_of (e.sessions 2).task) view e

-- ---- session 1 sets its value to 2, in a transaction, and the second piece is copied

abbrev pub set : Plan
set = record { trx = 2; doc = 1; number = 0; place = place 10 107 }

abbrev pub e_begun : Engine
e_begun = at_once 1 2 done (opened_session rr (e_reading.sessions 1)) e_reading.locks e_reading

abbrev pub e_set : Engine
e_set =
    let e = log_event 1 10 (starts_change 1 3 1 e_begun) in
    change_answered 1 3 (part 1) (plan_event 1 set nothing (part 1)
    (patch_made set (run 4 51 (1 ∷ []) ∷ []) (run 4 51 (2 ∷ []) ∷ []) e.store) e)

abbrev pub e_copied : Engine
e_copied = read_on e_set

-- ---- session 1 takes it back, while the record is still to be put back by the read

abbrev pub undone : Record
undone = record {
  number = 0;
  doc = 1;
  before = row_before e_begun.store 1;
  body = patched (run 4 51 (1 ∷ []) ∷ []);
}

abbrev pub e_rolled : Engine
e_rolled =
    let e = starts 1 4 (undoing by_rollback) e_copied in
    let last = last_event 1 (place 10 107) undone (undo_ended 2 undone e.store) e in
    undone_event 1 (Did 1 4 done ∷ Undone 1 by_rollback ∷ e.journal) last

abbrev pub e_ready : Engine
e_ready = read_on e_rolled

abbrev pub text : List ℕ
text = codes "{\"n\": 1}"

abbrev pub e_answered : Engine
e_answered = answer_event 2 1 (doc text) idle e_ready

-- ---- purge passes the insert

abbrev pub made : Record
made = record { number = 0; doc = 1; before = absent_row; body = inserted 3 }

abbrev pub e_purged : Engine
e_purged =
    let e = begun_event e_answered in
    purged_event (pass_event (record_passed (place 9 107) 1 made e.store) e)

-- ---- a change that touches two pieces of three

abbrev pub a_change : Made
a_change = record { owner = commit 1; kind = versioned (1 ∷ 3 ∷ []); left = None }
