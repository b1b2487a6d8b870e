-- Each kind of change, in each of its events, is one of the relations that keep a read under way.
use Rattle.std.proofs.Common.{◌≡◌, ℕ, zero, suc, true, false, List, [], ◌∷◌, ◌++◌, refl, sym, ap, subst, ◌∙◌}
use Rattle.page_model.specs.Pages.{Address}
use Rattle.store_data.specs.Pieces.{pushed, popped, dropped}
use Rattle.store_data.specs.Store.{Run, Row, live, Version, Piece, Lob}
use Rattle.store_model.specs.Runs.{lobs_laid}
use Rattle.store_model.specs.Steps.{on_lob, without_lob, at_version, at_piece, with_nodes}
use Rattle.read_model.specs.Patches.{Entry, runs, AreAtSamePlaces}
use Rattle.read_model.specs.Document.{Document, Sees, IsVisible, IsOther, pieces_at}
use Rattle.read_model.specs.Flight.{row_behind}
use Rattle.read_model.specs.Events.{Adds, Removes, Touches, Frees, Passes, LeadsBack, IsPutBack, IsSame, IsMoved, EachPiece}
use Rattle.read_model.specs.Kinds.{with_change, without_change, on_lobs, IsPlan, IsElsewhere, IsOlder, MayPop, MayDropAt, MayDrop, PopsFrom, HasNoNode, AtOne, AtOthers}
use Rattle.read_model.proofs.LobLemmas.{put_back_in_lobs, written_in_lobs, back_in_lobs, each_same, same_leads, same_put_back, without_other, with_other, on_other}
use Rattle.read_model.proofs.PieceLemmas.{push_same, pop_moved, other_moved, drop_same, each_at, on_any}

-- ---- what other LOBs, and other fields of a LOB, leave

other_same : (v : ℕ) (xs ys : List Piece) → ys ≡ xs → EachPiece (IsSame v) xs ys
other_same v xs ys e = subst (EachPiece (IsSame v) xs) (sym e) (each_same v xs)

-- a LOB that is given another version number keeps its pieces as they are, and so do the others
pub version_same : (page n : ℕ) (lobs : List Lob) (q v : ℕ) → EachPiece (IsSame v) (pieces_at lobs q) (pieces_at (on_lob page (at_version n) lobs) q)
version_same page n lobs q v = on_any (IsSame v) page (at_version n) lobs q (λ l. refl) (λ here l is. each_same v l.pieces) (λ other. each_same v (pieces_at lobs q))

-- ---- planning events

plan_kept : (sees : Sees) (doc : Document) (e : Entry) (row : Row) (f : List Lob → List Lob) → IsPlan sees doc e row → runs e ≡ []
    → ((above older : List Entry) (v : Row) → IsVisible sees doc above older v → v.state ≡ live → EachPiece (IsSame v.lob.version) (pieces_at doc.lobs v.lob.page) (pieces_at (f doc.lobs) v.lob.page))
    → Adds sees doc (with_change e row f doc) e
plan_kept sees doc e row f plan none same = record {
  unseen = plan.unseen;
  led = plan.led;
  before = plan.before;
  records = refl;
  pieces = λ above older v visible is. subst (λ (rs : List Run). EachPiece (LeadsBack rs v.lob.version) (pieces_at doc.lobs v.lob.page) (pieces_at (f doc.lobs) v.lob.page)) (sym none)
      (same_leads v.lob.version _ _ (same above older v visible is));
}

-- an insert, or a new encoding: a LOB that the view doesn't see comes
pub lob_begun : (sees : Sees) (doc : Document) (e : Entry) (row : Row) (lob : Lob) → IsPlan sees doc e row → runs e ≡ [] → IsElsewhere sees doc lob.page
    → Adds sees doc (with_change e row (λ ls. ls ++ lob ∷ []) doc) e
lob_begun sees doc e row lob plan none elsewhere = plan_kept sees doc e row (λ ls. ls ++ lob ∷ []) plan none
    (λ above older v visible is. other_same v.lob.version _ _ (with_other lob doc.lobs v.lob.page (elsewhere above older v visible is)))

-- the LOB's version is raised
pub version_raised : (sees : Sees) (doc : Document) (e : Entry) (row : Row) (page n : ℕ) → IsPlan sees doc e row → runs e ≡ []
    → Adds sees doc (with_change e row (on_lob page (at_version n)) doc) e
version_raised sees doc e row page n plan none = plan_kept sees doc e row (on_lob page (at_version n)) plan none
    (λ above older v visible is. version_same page n doc.lobs v.lob.page v.lob.version)

-- the row is marked as deleted
pub row_deleted : (sees : Sees) (doc : Document) (e : Entry) (row : Row) → IsPlan sees doc e row → runs e ≡ [] → Adds sees doc (with_change e row (λ ls. ls) doc) e
row_deleted sees doc e row plan none = plan_kept sees doc e row (λ ls. ls) plan none (λ above older v visible is. each_same v.lob.version (pieces_at doc.lobs v.lob.page))

-- bytes are written in place; the record has the old ones
pub patched_in_place : (sees : Sees) (doc : Document) (e : Entry) (row : Row) (new : List Run) → IsPlan sees doc e row → AreAtSamePlaces (runs e) new → lobs_laid (runs e) doc.lobs ≡ doc.lobs
    → Adds sees doc (with_change e row (lobs_laid new) doc) e
patched_in_place sees doc e row new plan same stand = record {
  unseen = plan.unseen;
  led = plan.led;
  before = plan.before;
  records = refl;
  pieces = λ above older v visible is. written_in_lobs (runs e) new doc.lobs v.lob.page v.lob.version same stand;
}

-- the same, where the old bytes lead back to the LOBs as they were
pub written_back : (sees : Sees) (doc : Document) (e : Entry) (row : Row) (new : List Run) → IsPlan sees doc e row → lobs_laid (runs e) (lobs_laid new doc.lobs) ≡ doc.lobs
    → Adds sees doc (with_change e row (lobs_laid new) doc) e
written_back sees doc e row new plan back = record {
  unseen = plan.unseen;
  led = plan.led;
  before = plan.before;
  records = refl;
  pieces = λ above older v visible is. back_in_lobs (runs e) new doc.lobs v.lob.page v.lob.version back;
}

-- ---- further events: a LOB is worked on

-- one that the view doesn't see
pub elsewhere_kept : (sees : Sees) (doc : Document) (page : ℕ) (f : Lob → Lob) → ((l : Lob) → (f l).page ≡ l.page) → IsElsewhere sees doc page → Touches sees doc (on_lobs (on_lob page f) doc)
elsewhere_kept sees doc page f stays elsewhere = record {
  row = refl;
  records = refl;
  pieces = λ above older v visible is. other_same v.lob.version _ _ (on_other page f doc.lobs v.lob.page stays (elsewhere above older v visible is));
}

-- a version is pushed that the view doesn't see
pub push_kept : (sees : Sees) (doc : Document) (page k : ℕ) (node : Address) (x : Version) (index : List ℕ) (free : List Address) → IsOlder sees doc page x.number
    → Touches sees doc (on_lobs (on_lob page (λ l. with_nodes index free (at_piece k (pushed node x) l))) doc)
push_kept sees doc page k node x index free older = record {
  row = refl;
  records = refl;
  pieces = λ above old v visible is.
      on_any (IsSame v.lob.version) page _ doc.lobs v.lob.page (λ l. refl)
      (λ here l at. each_at (IsSame v.lob.version) (λ p. Unit {0}) (λ p. Unit {0}) (pushed node x) k l.pieces
      (λ p any. push_same v.lob.version node x p (older above old v visible is here))
      (λ p any. record { part = refl; search = λ a stands. stands })
      (any_one k l.pieces))
      (λ other. each_same v.lob.version (pieces_at doc.lobs v.lob.page));
}
  where
    any_others : (ps : List Piece) → AtOthers (λ p. Unit {0}) ps
    any_others [] = tt
    any_others (p ∷ ps) = (tt, any_others ps)

    any_one : (k : ℕ) (ps : List Piece) → AtOne k (λ p. Unit {0}) (λ p. Unit {0}) ps
    any_one k [] = tt
    any_one zero (p ∷ ps) = (tt, any_others ps)
    any_one (suc k) (p ∷ ps) = (tt, any_one k ps)

-- ---- undoing

undo_kept : (sees : Sees) (doc : Document) (e : Entry) (rest : List Entry) (f : List Lob → List Lob) → sees doc.row.trx ≡ false → doc.records ≡ e ∷ rest → IsOther e.0 rest → runs e ≡ []
    → ((above older : List Entry) (v : Row) → IsVisible sees doc above older v → v.state ≡ live → EachPiece (IsSame v.lob.version) (pieces_at doc.lobs v.lob.page) (pieces_at (f doc.lobs) v.lob.page))
    → Removes sees doc (without_change e rest f doc) e
undo_kept sees doc e rest f unseen records other none same = record {
  unseen = unseen;
  records = records;
  other = other;
  row = refl;
  pieces = λ above older v visible is. subst (λ (rs : List Run). EachPiece (IsPutBack rs v.lob.version) (pieces_at doc.lobs v.lob.page) (pieces_at (f doc.lobs) v.lob.page)) (sym none)
      (same_put_back v.lob.version _ _ (same above older v visible is));
}

-- an insert, or a new encoding, is undone: its LOB goes, which the view doesn't see
pub lob_undone : (sees : Sees) (doc : Document) (e : Entry) (rest : List Entry) (page : ℕ) → sees doc.row.trx ≡ false → doc.records ≡ e ∷ rest → IsOther e.0 rest → runs e ≡ []
    → IsElsewhere sees doc page → Removes sees doc (without_change e rest (without_lob page) doc) e
lob_undone sees doc e rest page unseen records other none elsewhere = undo_kept sees doc e rest (without_lob page) unseen records other none
    (λ above older v visible is. other_same v.lob.version _ _ (without_other page doc.lobs v.lob.page (elsewhere above older v visible is)))

-- a new version is undone: its LOB is given another version number
pub version_undone : (sees : Sees) (doc : Document) (e : Entry) (rest : List Entry) (page n : ℕ) → sees doc.row.trx ≡ false → doc.records ≡ e ∷ rest → IsOther e.0 rest → runs e ≡ []
    → Removes sees doc (without_change e rest (on_lob page (at_version n)) doc) e
version_undone sees doc e rest page n unseen records other none = undo_kept sees doc e rest (on_lob page (at_version n)) unseen records other none
    (λ above older v visible is. version_same page n doc.lobs v.lob.page v.lob.version)

-- a deletion is undone: LOBs stay
pub delete_undone : (sees : Sees) (doc : Document) (e : Entry) (rest : List Entry) → sees doc.row.trx ≡ false → doc.records ≡ e ∷ rest → IsOther e.0 rest → runs e ≡ []
    → Removes sees doc (without_change e rest (λ ls. ls) doc) e
delete_undone sees doc e rest unseen records other none = undo_kept sees doc e rest (λ ls. ls) unseen records other none
    (λ above older v visible is. each_same v.lob.version (pieces_at doc.lobs v.lob.page))

-- a change in place is undone: the record's old bytes are put back in all LOBs
pub patch_undone : (sees : Sees) (doc : Document) (e : Entry) (rest : List Entry) → sees doc.row.trx ≡ false → doc.records ≡ e ∷ rest → IsOther e.0 rest
    → Removes sees doc (without_change e rest (lobs_laid (runs e)) doc) e
patch_undone sees doc e rest unseen records other = record {
  unseen = unseen;
  records = records;
  other = other;
  row = refl;
  pieces = λ above older v visible is. put_back_in_lobs (runs e) doc.lobs v.lob.page v.lob.version;
}

-- a version above the one that the view sees is popped
pub pop_kept : (sees : Sees) (doc : Document) (page k : ℕ) (node head : Address) (free : List Address) → MayPop sees doc page k node head
    → Frees sees doc (on_lobs (on_lob page (λ l. record (at_piece k popped l) { free = free })) doc) node head
pop_kept sees doc page k node head free may = record {
  row = refl;
  records = refl;
  pieces = λ above old v visible is.
      let m = may above old v visible is in
      on_any (IsMoved node head v.lob.version) page _ doc.lobs v.lob.page (λ l. refl)
      (λ here l at. each_at (IsMoved node head v.lob.version) (PopsFrom v.lob.version node head) (HasNoNode node) popped k l.pieces
      (λ p pops. pop_moved v.lob.version node head p pops)
      (λ p none. other_moved v.lob.version node head p none)
      (subst (AtOne k (PopsFrom v.lob.version node head) (HasNoNode node)) (ap (pieces_at doc.lobs) (sym here) ∙ at) (m.0 here)))
      (λ other. all_other v node head (pieces_at doc.lobs v.lob.page) (m.1 other));
}
  where
    all_other : (v : Row) (node head : Address) (ps : List Piece) → AtOthers (HasNoNode node) ps → EachPiece (IsMoved node head v.lob.version) ps ps
    all_other v node head [] rest = tt
    all_other v node head (p ∷ ps) rest = (other_moved v.lob.version node head p rest.0, all_other v node head ps rest.1)

-- ---- purge

-- a version that the view doesn't need is dropped
pub drop_kept : (sees : Sees) (doc : Document) (page k : ℕ) (free : List Address) → MayDropAt sees doc page k
    → Touches sees doc (on_lobs (on_lob page (λ l. record (at_piece k dropped l) { free = free })) doc)
drop_kept sees doc page k free may = record {
  row = refl;
  records = refl;
  pieces = λ above old v visible is.
      on_any (IsSame v.lob.version) page _ doc.lobs v.lob.page (λ l. refl)
      (λ here l at. each_at (IsSame v.lob.version) (MayDrop v.lob.version) (λ p. Unit {0}) dropped k l.pieces
      (λ p drops. drop_same v.lob.version p drops)
      (λ p any. record { part = refl; search = λ a stands. stands })
      (subst (AtOne k (MayDrop v.lob.version) (λ p. Unit {0})) (ap (pieces_at doc.lobs) (sym here) ∙ at) (may above old v visible is here)))
      (λ other. each_same v.lob.version (pieces_at doc.lobs v.lob.page));
}

-- the records from some place on count as purged
pub records_passed : (sees : Sees) (doc : Document) (front gone : List Entry) → doc.records ≡ front ++ gone → sees (row_behind doc.row front).trx ≡ true
    → Passes sees doc (record { row = doc.row; records = front; lobs = doc.lobs })
records_passed sees doc front gone records seen = record {
  row = refl;
  gone = gone;
  records = records;
  seen = seen;
  pieces = λ above older v visible is. each_same v.lob.version (pieces_at doc.lobs v.lob.page);
}

-- and the LOB before is freed
pub lob_passed : (sees : Sees) (doc : Document) (front gone : List Entry) (page : ℕ) → doc.records ≡ front ++ gone → sees (row_behind doc.row front).trx ≡ true → IsElsewhere sees doc page
    → Passes sees doc (record { row = doc.row; records = front; lobs = without_lob page doc.lobs })
lob_passed sees doc front gone page records seen elsewhere = record {
  row = refl;
  gone = gone;
  records = records;
  seen = seen;
  pieces = λ above older v visible is. other_same v.lob.version _ _ (without_other page doc.lobs v.lob.page (elsewhere above older v visible is));
}
