-- LOBs alone change, and what other documents see of a change, an undoing and a purge.
use Rattle.std.proofs.Common.{◌≡◌, ◌≢◌, ℕ, Bool, true, false, cond, List, map, refl, ap}
use Rattle.page_model.specs.Pages.{Address}
use Rattle.store_data.specs.Store.{Run, Row, live, Version, Piece, Lob, Body, Record, Store}
use Rattle.store_model.specs.Runs.{all_laid, lobs_laid}
use Rattle.store_model.specs.History.{row_before}
use Rattle.store_model.specs.Steps.{with_row, without_row, on_lobs}
use Rattle.store_model.specs.Events.{Plan, planned, piece_added, version_pushed}
use Rattle.store_model.specs.Undo.{piece_freed, index_freed, version_popped, version_dropped, is_gone, unmade, without_newest, undo_ended}
use Rattle.store_model.specs.Moves.{IsNewest}
use Rattle.store_model.proofs.RowLemmas.{row-with_other, row-without_other}
use Rattle.store_model.proofs.ChangeLemmas.{changes-other}
use Rattle.store_model.proofs.UndoLemmas.{changes-popped_other}
use Rattle.read_model.specs.Patches.{Entry}
use Rattle.read_model.specs.Document.{Document, Sees, IsVisible, parts_at}
use Rattle.read_model.specs.Events.{Touches, Frees}
use Rattle.read_model.specs.OfStore.{entry, document}
use Rattle.read_model.specs.Kinds.{MayPop, MayDropAt, on_lobs as doc_lobs, IsElsewhere as SeesElsewhere, IsOlder}
use Rattle.read_model.proofs.LobLemmas.{untouched_in_lobs}
use Rattle.read_model.proofs.KindLemmas.{elsewhere_kept, push_kept, pop_kept, drop_kept}
use Rattle.read_model.proofs.StoreLemmas.{same_document}

-- ---- LOBs alone change

-- a push of a version newer than what the view sees touches LOBs alone
pub push_touches : (sees : Sees) (store : Store) (d page k : ℕ) (node : Address) (x : Version) (index : List ℕ) (free : List Address) → IsOlder sees (document store d) page x.number
    → Touches sees (document store d) (document (version_pushed page k node x index free store) d)
push_touches sees store d page k node x index free older = push_kept sees (document store d) page k node x index free older

-- a pop above the version that the view sees frees a node of a version list
pub pop_frees : (sees : Sees) (store : Store) (d page k : ℕ) (node head : Address) (free : List Address) → MayPop sees (document store d) page k node head
    → Frees sees (document store d) (document (version_popped page k free store) d) node head
pop_frees sees store d page k node head free may = pop_kept sees (document store d) page k node head free may

-- a drop of a version that the view doesn't need touches LOBs alone
pub drop_touches : (sees : Sees) (store : Store) (d page k : ℕ) (free : List Address) → MayDropAt sees (document store d) page k
    → Touches sees (document store d) (document (version_dropped page k free store) d)
drop_touches sees store d page k free may = drop_kept sees (document store d) page k free may

-- a piece added to a LOB that the view doesn't see touches LOBs alone
pub add_touches : (sees : Sees) (store : Store) (d page : ℕ) (piece : Piece) (index : List ℕ) (free : List Address) → SeesElsewhere sees (document store d) page
    → Touches sees (document store d) (document (piece_added page piece index free store) d)
add_touches sees store d page piece index free elsewhere = elsewhere_kept sees (document store d) page _ (λ l. refl) elsewhere

-- a piece freed of a LOB that the view doesn't see touches LOBs alone
pub free_touches : (sees : Sees) (store : Store) (d page : ℕ) (free : List Address) → SeesElsewhere sees (document store d) page
    → Touches sees (document store d) (document (piece_freed page free store) d)
free_touches sees store d page free elsewhere = elsewhere_kept sees (document store d) page _ (λ l. refl) elsewhere

-- an index page freed of a LOB that the view doesn't see touches LOBs alone
pub index_touches : (sees : Sees) (store : Store) (d page : ℕ) → SeesElsewhere sees (document store d) page → Touches sees (document store d) (document (index_freed page store) d)
index_touches sees store d page elsewhere = elsewhere_kept sees (document store d) page _ (λ l. refl) elsewhere

-- ---- other documents: of a change of one, and of its undoing, they see at most that LOBs change

-- a planned change leaves other documents, but for what it does to LOBs
pub planned_others : (p : Plan) (new : Row → Row) (body : Body) (f : List Lob → List Lob) (store : Store) (d : ℕ) → d ≢ p.doc
    → document (on_lobs f (planned p new body store)) d ≡ doc_lobs f (document store d)
planned_others p new body f store d other = same_document _ _
    (row-with_other p.doc d (new (row_before store p.doc)) store other)
    (ap (map entry) (changes-other p (new (row_before store p.doc)) (row_before store p.doc) body f store d other))
    refl

-- an undone record leaves other documents, but for what it does to LOBs
pub undone_others : (trx : ℕ) (place : Address) (u : Record) (store : Store) (d : ℕ) → IsNewest trx place u store → d ≢ u.doc
    → document (undo_ended trx u store) d ≡ doc_lobs (unmade u.body u.before) (document store d)
undone_others trx place u store d newest other = by_test (is_gone (without_newest trx u store) u.before.state u.before)
  where
    by_test : (b : Bool) → document (cond b (without_row u.doc (without_newest trx u store)) (with_row u.doc u.before (without_newest trx u store))) d ≡ doc_lobs (unmade u.body u.before) (document store d)
    by_test true = same_document _ _ (row-without_other u.doc d (without_newest trx u store) other) (ap (map entry) (changes-popped_other trx place u store d newest other)) refl
    by_test false = same_document _ _ (row-with_other u.doc d u.before (without_newest trx u store) other) (ap (map entry) (changes-popped_other trx place u store d newest other)) refl

-- runs of other pages
pub runs_touch : (sees : Sees) (doc : Document) (rs : List Run)
    → ((above older : List Entry) (v : Row) → IsVisible sees doc above older v → v.state ≡ live → map (all_laid rs) (parts_at doc.lobs v.lob) ≡ parts_at doc.lobs v.lob)
    → Touches sees doc (doc_lobs (lobs_laid rs) doc)
runs_touch sees doc rs same = record {
  row = refl;
  records = refl;
  pieces = λ above older v visible state. untouched_in_lobs rs doc.lobs v.lob.page v.lob.version (same above older v visible state);
}
