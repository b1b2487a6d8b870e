-- The events of a store, seen from one document: each is one of the relations that keep a read under way.
use Rattle.std.proofs.Common.{◌≡◌, ◌≢◌, ℕ, suc, Bool, true, false, cond, List, [], ◌∷◌, ◌++◌, map, refl, sym, ap, subst, ◌∙◌}
use Rattle.std.specs.Prelude.{Option, Some, None}
use Rattle.page_model.specs.Pages.{Address}
use Rattle.store_data.specs.Store.{Run, Row, RowState, absent, live, deleted, Lob, Body, inserted, rebuilt, versioned, patched, removed, Record, Log, Store}
use Rattle.store_model.specs.Runs.{lobs_laid, old_runs}
use Rattle.store_model.specs.History.{Change, changes, row_before}
use Rattle.store_model.specs.Steps.{with_row, without_row, on_lobs, on_lob, at_version, log_of}
use Rattle.store_model.specs.Events.{Plan, record_of, planned, new_row, raised_row, patched_row, deleted_row, insert_begun, rebuild_begun, version_begun, patch_made, delete_made, committed_by, moved}
use Rattle.store_model.specs.Undo.{is_gone, unmade, without_newest, undo_ended}
use Rattle.store_model.specs.Locked.{IsLocked}
use Rattle.store_model.specs.Moves.{MayChange, IsNewest, OlderElsewhere}
use Rattle.store_model.specs.Behind.{AllBefore, AllRows, IsElsewhere, IsBelow}
use Rattle.store_model.proofs.RowLemmas.{row-with_this, row-without_this}
use Rattle.store_model.proofs.ChangeLemmas.{changes-own}
use Rattle.store_model.proofs.UndoLemmas.{changes-popped}
use Rattle.store_model.proofs.CommitLemmas.{moved-keeps}
use Rattle.read_model.specs.Patches.{Entry}
use Rattle.read_model.specs.Document.{Document, Sees, IsSeen, IsVisible, IsOther}
use Rattle.read_model.specs.Events.{Adds, Removes, Forgets}
use Rattle.read_model.specs.OfStore.{entry, document}
use Rattle.read_model.specs.Kinds.{with_change, without_change, IsPlan, IsElsewhere as SeesElsewhere, IsOlder}
use Rattle.read_model.proofs.VisibleLemmas.{heads, tails, never}
use Rattle.read_model.proofs.KindLemmas.{lob_begun, version_raised, row_deleted, lob_undone, version_undone, delete_undone, patch_undone, written_back}

-- ---- rows of the chain

-- what holds of a row and of those behind it holds of the row that the view sees
pub rows_so : (P : Row → Type 0) (sees : Sees) (row : Row) (above older : List Entry) (v : Row) (cs : List Change) → IsSeen sees row above v → map entry cs ≡ above ++ older
    → P row → AllBefore P cs → P v
rows_so P sees row [] older v cs walk records here before = subst P walk.0 here
rows_so P sees row (x ∷ xs) older v [] walk records here before = absurd (nil_cons records)
  where
    nil_cons : [] ≡ x ∷ (xs ++ older) → ⊥
    nil_cons h = cc
rows_so P sees row (x ∷ xs) older v (c ∷ cs) walk records here before =
    rows_so P sees x.1.before xs older v cs walk.2 (tails (entry c) x (map entry cs) (xs ++ older) records)
    (subst P (ap (λ (e : Entry). e.1.before) (heads (entry c) x (map entry cs) (xs ++ older) records)) before.0) before.1

-- where the newest row isn't seen, the visible one is a row before
pub before_so : (P : Row → Type 0) (sees : Sees) (store : Store) (d : ℕ) (above older : List Entry) (v : Row) → sees (row_before store d).trx ≡ false
    → IsVisible sees (document store d) above older v → AllBefore P (changes store d) → P v
before_so P sees store d [] older v unseen visible before = absurd (never (ap (λ (r : Row). sees r.trx) visible.walk.0 ∙ visible.walk.1) unseen)
before_so P sees store d (x ∷ xs) older v unseen visible before = by_changes (changes store d) visible.records before
  where
    by_changes : (cs : List Change) → map entry cs ≡ x ∷ (xs ++ older) → AllBefore P cs → P v
    by_changes [] records before = absurd (nil_cons records)
      where
        nil_cons : [] ≡ x ∷ (xs ++ older) → ⊥
        nil_cons h = cc
    by_changes (c ∷ cs) records before =
        rows_so P sees x.1.before xs older v cs visible.walk.2 (tails (entry c) x (map entry cs) (xs ++ older) records)
        (subst P (ap (λ (e : Entry). e.1.before) (heads (entry c) x (map entry cs) (xs ++ older) records)) before.0) before.1

-- what holds of all rows of a document holds of the row that the view sees
pub all_so : (P : Row → Type 0) (sees : Sees) (store : Store) (d : ℕ) (above older : List Entry) (v : Row) → IsVisible sees (document store d) above older v → AllRows P store d → P v
all_so P sees store d above older v visible all = rows_so P sees (row_before store d) above older v (changes store d) visible.walk visible.records all.0 all.1

-- where no live row of a document has a LOB, the view sees another
pub seen_elsewhere : (sees : Sees) (store : Store) (d page : ℕ) → AllRows (IsElsewhere page) store d → SeesElsewhere sees (document store d) page
seen_elsewhere sees store d page all above older v visible = all_so (IsElsewhere page) sees store d above older v visible all

-- the same of the rows behind the newest, where the view doesn't see that one
pub before_elsewhere : (sees : Sees) (store : Store) (d page : ℕ) → sees (row_before store d).trx ≡ false → AllBefore (IsElsewhere page) (changes store d) → SeesElsewhere sees (document store d) page
before_elsewhere sees store d page unseen all above older v visible = before_so (IsElsewhere page) sees store d above older v unseen visible all

-- where those rows have no version of a LOB from n on, the view sees an older one
pub before_older : (sees : Sees) (store : Store) (d page n : ℕ) → sees (row_before store d).trx ≡ false → AllBefore (IsBelow page n) (changes store d) → IsOlder sees (document store d) page n
before_older sees store d page n unseen all above older v visible = before_so (IsBelow page n) sees store d above older v unseen visible all

-- ---- a change is planned

-- documents of the same row, records and LOBs are equal
pub same_document : (a b : Document) → a.row ≡ b.row → a.records ≡ b.records → a.lobs ≡ b.lobs → a ≡ b
same_document a b p q r = rw (p, q, r) refl

pub plan_entry : Plan → Store → Body → Entry
plan_entry p store body = (p.place, record_of p (row_before store p.doc) body)

pub plan_document : (p : Plan) (new : Row → Row) (body : Body) (f : List Lob → List Lob) (store : Store) → MayChange p store
    → with_change (plan_entry p store body) (new (row_before store p.doc)) f (document store p.doc) ≡ document (on_lobs f (planned p new body store)) p.doc
unfolding plan_entry
plan_document p new body f store may = same_document _ _
    (sym (row-with_this p.doc (new (row_before store p.doc)) store))
    (sym (ap (map entry) (changes-own p (new (row_before store p.doc)) (row_before store p.doc) body f store may)))
    refl

pub plan_is : (p : Plan) (new : Row → Row) (body : Body) (store : Store) (sees : Sees) → sees p.trx ≡ false → ((row : Row) → (new row).trx ≡ p.trx) → ((row : Row) → (new row).roll ≡ Some p.place)
    → IsPlan sees (document store p.doc) (plan_entry p store body) (new (row_before store p.doc))
unfolding plan_entry
plan_is p new body store sees unseen trx roll = record {
  unseen = ap sees (trx (row_before store p.doc)) ∙ unseen;
  led = roll (row_before store p.doc);
  before = refl;
}

-- an insert begun adds a record, for a view that doesn't see it; no row has the new LOB
pub insert_adds : (sees : Sees) (p : Plan) (lob : Lob) (n : ℕ) (store : Store) → MayChange p store → sees p.trx ≡ false → AllRows (IsElsewhere lob.page) store p.doc
    → Adds sees (document store p.doc) (document (insert_begun p lob n store) p.doc) (p.place, record_of p (row_before store p.doc) (inserted lob.page))
unfolding plan_entry
insert_adds sees p lob n store may unseen elsewhere =
    subst (λ (new : Document). Adds sees (document store p.doc) new (plan_entry p store (inserted lob.page))) (plan_document p (new_row p lob.page n) (inserted lob.page) (λ ls. ls ++ lob ∷ []) store may)
    (lob_begun sees (document store p.doc) _ _ lob (plan_is p (new_row p lob.page n) (inserted lob.page) store sees unseen (λ row. refl) (λ row. refl)) refl
    (seen_elsewhere sees store p.doc lob.page elsewhere))

-- the same of a new encoding
pub rebuild_adds : (sees : Sees) (p : Plan) (lob : Lob) (n : ℕ) (store : Store) → MayChange p store → sees p.trx ≡ false → AllRows (IsElsewhere lob.page) store p.doc
    → Adds sees (document store p.doc) (document (rebuild_begun p lob n store) p.doc) (p.place, record_of p (row_before store p.doc) (rebuilt lob.page))
unfolding plan_entry
rebuild_adds sees p lob n store may unseen elsewhere =
    subst (λ (new : Document). Adds sees (document store p.doc) new (plan_entry p store (rebuilt lob.page))) (plan_document p (new_row p lob.page n) (rebuilt lob.page) (λ ls. ls ++ lob ∷ []) store may)
    (lob_begun sees (document store p.doc) _ _ lob (plan_is p (new_row p lob.page n) (rebuilt lob.page) store sees unseen (λ row. refl) (λ row. refl)) refl
    (seen_elsewhere sees store p.doc lob.page elsewhere))

-- the same of a raised version
pub version_adds : (sees : Sees) (p : Plan) (pieces : ℕ) (touched : List ℕ) (store : Store) → MayChange p store → sees p.trx ≡ false
    → Adds sees (document store p.doc) (document (version_begun p pieces touched store) p.doc) (p.place, record_of p (row_before store p.doc) (versioned pieces touched))
unfolding plan_entry
version_adds sees p pieces touched store may unseen =
    let before = row_before store p.doc in
    subst (λ (new : Document). Adds sees (document store p.doc) new (plan_entry p store (versioned pieces touched)))
    (plan_document p (raised_row p) (versioned pieces touched) (on_lob before.lob.page (at_version (suc before.lob.version))) store may)
    (version_raised sees (document store p.doc) _ _ before.lob.page (suc before.lob.version) (plan_is p (raised_row p) (versioned pieces touched) store sees unseen (λ row. refl) (λ row. refl)) refl)

-- the same of a change in place, whose old bytes lead back to the LOBs as they were
pub patch_adds : (sees : Sees) (p : Plan) (old new : List Run) (store : Store) → MayChange p store → sees p.trx ≡ false → lobs_laid old (lobs_laid new store.lobs) ≡ store.lobs
    → Adds sees (document store p.doc) (document (patch_made p old new store) p.doc) (p.place, record_of p (row_before store p.doc) (patched old))
unfolding plan_entry
patch_adds sees p old new store may unseen back =
    subst (λ (doc : Document). Adds sees (document store p.doc) doc (plan_entry p store (patched old))) (plan_document p (patched_row p) (patched old) (lobs_laid new) store may)
    (written_back sees (document store p.doc) _ _ new (plan_is p (patched_row p) (patched old) store sees unseen (λ row. refl) (λ row. refl)) back)

-- the same of a deletion
pub delete_adds : (sees : Sees) (p : Plan) (store : Store) → MayChange p store → sees p.trx ≡ false
    → Adds sees (document store p.doc) (document (delete_made p store) p.doc) (p.place, record_of p (row_before store p.doc) removed)
unfolding plan_entry
delete_adds sees p store may unseen =
    subst (λ (doc : Document). Adds sees (document store p.doc) doc (plan_entry p store removed)) (plan_document p (deleted_row p) removed (λ ls. ls) store may)
    (row_deleted sees (document store p.doc) _ _ (plan_is p (deleted_row p) removed store sees unseen (λ row. refl) (λ row. refl)) refl)

-- ---- a record is undone

pub undone_document : (trx : ℕ) (place : Address) (u : Record) (store : Store) → is_gone (without_newest trx u store) u.before.state u.before ≡ false
    → without_change (place, u) (map entry (changes (without_newest trx u store) u.doc)) (unmade u.body u.before) (document store u.doc) ≡ document (undo_ended trx u store) u.doc
undone_document trx place u store stays = by_test (is_gone (without_newest trx u store) u.before.state u.before) stays
  where
    by_test : (b : Bool) → b ≡ false → without_change (place, u) (map entry (changes (without_newest trx u store) u.doc)) (unmade u.body u.before) (document store u.doc)
        ≡ document (cond b (without_row u.doc (without_newest trx u store)) (with_row u.doc u.before (without_newest trx u store))) u.doc
    by_test true e = absurd (never refl e)
    by_test false e = same_document _ _ (sym (row-with_this u.doc u.before (without_newest trx u store))) refl refl

pub undone_records : (trx : ℕ) (place : Address) (u : Record) (store : Store) → IsNewest trx place u store
    → (document store u.doc).records ≡ (place, u) ∷ map entry (changes (without_newest trx u store) u.doc)
undone_records trx place u store newest = ap (map entry) (changes-popped trx place u store newest)

-- the end of an undoing removes the newest record, where a row is left
pub undo_removes : (sees : Sees) (trx : ℕ) (place : Address) (u : Record) (store : Store) → IsNewest trx place u store → sees (row_before store u.doc).trx ≡ false
    → OlderElsewhere u.body (changes store u.doc) → IsOther place (map entry (changes (without_newest trx u store) u.doc)) → is_gone (without_newest trx u store) u.before.state u.before ≡ false
    → Removes sees (document store u.doc) (document (undo_ended trx u store) u.doc) (place, u)
undo_removes sees trx place u store newest unseen elsewhere other stays =
    subst (λ (new : Document). Removes sees (document store u.doc) new (place, u)) (undone_document trx place u store stays) (by_body u.body refl elsewhere)
  where
    rest : List Entry
    rest = map entry (changes (without_newest trx u store) u.doc)

    by_body : (body : Body) → u.body ≡ body → OlderElsewhere body (changes store u.doc) → Removes sees (document store u.doc) (without_change (place, u) rest (unmade body u.before) (document store u.doc)) (place, u)
    by_body (inserted page) is elsewhere =
        lob_undone sees (document store u.doc) (place, u) rest page unseen (undone_records trx place u store newest) other (ap old_runs is) (before_elsewhere sees store u.doc page unseen elsewhere)
    by_body (rebuilt page) is elsewhere =
        lob_undone sees (document store u.doc) (place, u) rest page unseen (undone_records trx place u store newest) other (ap old_runs is) (before_elsewhere sees store u.doc page unseen elsewhere)
    by_body (versioned pieces touched) is elsewhere =
        version_undone sees (document store u.doc) (place, u) rest u.before.lob.page u.before.lob.version unseen (undone_records trx place u store newest) other (ap old_runs is)
    by_body (patched old) is elsewhere =
        subst (λ (b : Body). Removes sees (document store u.doc) (without_change (place, u) rest (lobs_laid (old_runs b)) (document store u.doc)) (place, u)) is
        (patch_undone sees (document store u.doc) (place, u) rest unseen (undone_records trx place u store newest) other)
    by_body removed is elsewhere = delete_undone sees (document store u.doc) (place, u) rest unseen (undone_records trx place u store newest) other (ap old_runs is)

-- where no row is left, it forgets the record, for a view that sees the row before
pub undo_forgets : (sees : Sees) (trx : ℕ) (place : Address) (u : Record) (store : Store) → IsNewest trx place u store → sees (row_before store u.doc).trx ≡ false
    → sees u.before.trx ≡ true → sees 0 ≡ true → IsOther place (map entry (changes (without_newest trx u store) u.doc)) → is_gone (without_newest trx u store) u.before.state u.before ≡ true
    → Forgets sees (document store u.doc) (document (undo_ended trx u store) u.doc) (place, u)
undo_forgets sees trx place u store newest unseen before zero_seen other goes =
    subst (λ (new : Document). Forgets sees (document store u.doc) new (place, u)) (sym forgotten) (record {
      unseen = unseen;
      records = undone_records trx place u store newest;
      other = other;
      before = before;
      state = not_live u.before.state goes;
      none = record {
        seen = ap (λ (r : Row). sees r.trx) (row-without_this u.doc (without_newest trx u store)) ∙ zero_seen;
        state = λ is. absent_live (sym (ap (λ (r : Row). r.state) (row-without_this u.doc (without_newest trx u store))) ∙ is);
      };
    })
  where
    absent_live : absent ≡ live → ⊥
    absent_live h = cc

    not_live : (s : RowState) → is_gone (without_newest trx u store) s u.before ≡ true → s ≢ live
    not_live absent h is = absent_live is
    not_live live h is = never h refl
    not_live deleted h is = deleted_live is
      where
        deleted_live : deleted ≡ live → ⊥
        deleted_live k = cc

    forgotten : document (undo_ended trx u store) u.doc ≡ document (without_row u.doc (without_newest trx u store)) u.doc
    forgotten = ap (λ (b : Bool). document (cond b (without_row u.doc (without_newest trx u store)) (with_row u.doc u.before (without_newest trx u store))) u.doc) goes

-- ---- commit

pub moved_same : (trx d : ℕ) (store : Store) (o : Option Log) → log_of store.active trx ≡ o → IsLocked d store.active → document (moved trx o store) d ≡ document store d
moved_same trx d store None there locked = refl
moved_same trx d store (Some l) there locked = same_document _ _ refl (ap (map entry) (moved-keeps trx d store (Some l) there locked)) refl

-- a commit leaves a document of which at most one active log has changes
pub commit_same : (trx d : ℕ) (store : Store) → IsLocked d store.active → document (committed_by trx store) d ≡ document store d
commit_same trx d store locked = moved_same trx d store (log_of store.active trx) refl locked
