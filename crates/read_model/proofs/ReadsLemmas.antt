-- All reads under way are kept, of whatever documents.
use Rattle.std.proofs.Common.{◌≡◌, ◌≢◌, inl, inr, ℕ, Bool, true, false, cond, List, [], ◌∷◌, map, refl, sym, ap, subst, ◌∙◌, arith}
use Rattle.std.specs.Prelude.{Option, ◌==◌}
use Rattle.std.proofs.lemmas.Bool.{false≢true, eqb-true}
use Rattle.std.proofs.lemmas.Bool.Decides.{eqb_tells}
use Rattle.page_model.specs.Pages.{Address}
use Rattle.store_data.specs.Pieces.{Part}
use Rattle.store_data.specs.Store.{Run, Lob, Record, Log, Store}
use Rattle.store_model.specs.Runs.{lobs_laid}
use Rattle.store_model.specs.History.{changes, row_before}
use Rattle.store_model.specs.Steps.{last_in}
use Rattle.store_model.specs.Events.{Plan, patch_made, delete_made, insert_begun, rebuild_begun, version_begun, committed_by}
use Rattle.store_model.specs.Undo.{is_gone, without_newest, undo_ended, record_passed}
use Rattle.store_model.specs.Locked.{IsLocked}
use Rattle.store_model.specs.Moves.{MayChange, IsNewest, IsUntouched, OthersElsewhere}
use Rattle.store_model.specs.Behind.{AllRows, IsElsewhere}
use Rattle.store_model.specs.Well.{IsChain}
use Rattle.store_model.proofs.UndoLemmas.{changes-popped}
use Rattle.store_model.specs.Keeps.{Frees as FreesBefore}
use Rattle.read_model.specs.Patches.{Entry}
use Rattle.read_model.specs.Document.{Document, Sees, IsOther, AreDistinct}
use Rattle.read_model.specs.Flight.{Flight, IsFlight}
use Rattle.read_model.specs.Steps.{hand_on}
use Rattle.read_model.specs.Events.{Adds, Touches, Frees}
use Rattle.read_model.specs.OfStore.{entry, document}
use Rattle.read_model.specs.Reads.{Read, IsRead, AreReads, MaySee, handed, shifted}
use Rattle.read_model.proofs.EventLemmas.{kept_where_added, kept_where_touched, kept_where_passed, kept_where_freed}
use Rattle.read_model.proofs.UndoLemmas.{kept_where_removed}
use Rattle.read_model.proofs.GoneLemmas.{kept_where_forgotten, kept_where_swept}
use Rattle.read_model.proofs.StoreLemmas.{patch_adds, insert_adds, rebuild_adds, version_adds, delete_adds, undo_forgets, commit_same}
use Rattle.read_model.proofs.WellLemmas.{undo_well, pass_well}
use Rattle.read_model.proofs.TouchLemmas.{insert_touches, rebuild_touches, version_touches, patch_touches, delete_touches, undo_touches, pass_touches}

-- each read by itself
each_read : (old new : Store) (P : Read → Type 0) (f : Read → Read) (rs : List Read) → ((r : Read) → P r → IsRead old r → IsRead new (f r)) → MaySee P rs → AreReads old rs → AreReads new (map f rs)
each_read old new P f [] on may reads = tt
each_read old new P f (r ∷ rs) on may reads = (on r may.0 reads.0, each_read old new P f rs on may.1 reads.1)

all_same : (rs : List Read) → map (λ r. r) rs ≡ rs
all_same [] = refl
all_same (r ∷ rs) = ap (λ (l : List Read). r ∷ l) (all_same rs)

each_as_it_is : (old new : Store) (P : Read → Type 0) (rs : List Read) → ((r : Read) → P r → IsRead old r → IsRead new r) → MaySee P rs → AreReads old rs → AreReads new rs
each_as_it_is old new P rs on may reads = subst (AreReads new) (all_same rs) (each_read old new P (λ r. r) rs on may reads)

-- ---- a change is planned

planned_read : (old new : Store) (d : ℕ) (e : Entry) (r : Read) → Adds r.sees (document old d) (document new d) e
    → (r.doc ≢ d → Touches r.sees (document old r.doc) (document new r.doc)) → IsRead old r → IsRead new r
planned_read old new d e r adds touches kept = elim (eqb_tells r.doc d) [
  | inl here ↦ subst (λ (n : ℕ). IsFlight r.sees (document new n) r.shown r.flight) (sym here.1)
      (kept_where_added r.sees (document old d) (document new d) e r.shown r.flight adds
      (subst (λ (n : ℕ). IsFlight r.sees (document old n) r.shown r.flight) here.1 kept))
  | inr other ↦ kept_where_touched r.sees (document old r.doc) (document new r.doc) r.shown r.flight (touches other.1) kept
]

-- a change in place keeps all reads that don't see it, where no other document has these bytes
pub reads_patched : (p : Plan) (old new : List Run) (store : Store) (rs : List Read) → MayChange p store → lobs_laid old (lobs_laid new store.lobs) ≡ store.lobs
    → ((d : ℕ) → d ≢ p.doc → AllRows (IsUntouched new store.lobs) store d) → MaySee (λ r. r.sees p.trx ≡ false) rs → AreReads store rs → AreReads (patch_made p old new store) rs
reads_patched p old new store rs may back apart unseen reads =
    each_as_it_is store (patch_made p old new store) (λ r. r.sees p.trx ≡ false) rs
    (λ r u kept. planned_read store (patch_made p old new store) p.doc _ r (patch_adds r.sees p old new store may u back)
    (λ other. patch_touches r.sees p old new store r.doc other (apart r.doc other)) kept) unseen reads

-- an insert begun keeps all reads that don't see it, where no row has the new LOB
pub reads_inserted : (p : Plan) (lob : Lob) (n : ℕ) (store : Store) (rs : List Read) → MayChange p store → ((d : ℕ) → AllRows (IsElsewhere lob.page) store d)
    → MaySee (λ r. r.sees p.trx ≡ false) rs → AreReads store rs → AreReads (insert_begun p lob n store) rs
reads_inserted p lob n store rs may apart unseen reads =
    each_as_it_is store (insert_begun p lob n store) (λ r. r.sees p.trx ≡ false) rs
    (λ r u kept. planned_read store (insert_begun p lob n store) p.doc _ r (insert_adds r.sees p lob n store may u (apart p.doc))
    (λ other. insert_touches r.sees p lob n store r.doc other (apart r.doc)) kept) unseen reads

-- the same of a new encoding
pub reads_rebuilt : (p : Plan) (lob : Lob) (n : ℕ) (store : Store) (rs : List Read) → MayChange p store → ((d : ℕ) → AllRows (IsElsewhere lob.page) store d)
    → MaySee (λ r. r.sees p.trx ≡ false) rs → AreReads store rs → AreReads (rebuild_begun p lob n store) rs
reads_rebuilt p lob n store rs may apart unseen reads =
    each_as_it_is store (rebuild_begun p lob n store) (λ r. r.sees p.trx ≡ false) rs
    (λ r u kept. planned_read store (rebuild_begun p lob n store) p.doc _ r (rebuild_adds r.sees p lob n store may u (apart p.doc))
    (λ other. rebuild_touches r.sees p lob n store r.doc other (apart r.doc)) kept) unseen reads

-- a raised version keeps all reads that don't see it
pub reads_raised : (p : Plan) (pieces : ℕ) (touched : List ℕ) (store : Store) (rs : List Read) → MayChange p store
    → MaySee (λ r. r.sees p.trx ≡ false) rs → AreReads store rs → AreReads (version_begun p pieces touched store) rs
reads_raised p pieces touched store rs may unseen reads =
    each_as_it_is store (version_begun p pieces touched store) (λ r. r.sees p.trx ≡ false) rs
    (λ r u kept. planned_read store (version_begun p pieces touched store) p.doc _ r (version_adds r.sees p pieces touched store may u)
    (λ other. version_touches r.sees p pieces touched store r.doc other) kept) unseen reads

-- a deletion keeps all reads that don't see it
pub reads_deleted : (p : Plan) (store : Store) (rs : List Read) → MayChange p store → MaySee (λ r. r.sees p.trx ≡ false) rs → AreReads store rs → AreReads (delete_made p store) rs
reads_deleted p store rs may unseen reads =
    each_as_it_is store (delete_made p store) (λ r. r.sees p.trx ≡ false) rs
    (λ r u kept. planned_read store (delete_made p store) p.doc _ r (delete_adds r.sees p store may u) (λ other. delete_touches r.sees p store r.doc other) kept) unseen reads

-- ---- a record is undone

undone_own : (trx : ℕ) (place : Address) (u : Record) (store : Store) (sees : Sees) (shown : Option (List Part)) (f : Flight) → IsNewest trx place u store
    → IsChain (row_before store u.doc) (changes store u.doc) → IsOther place (map entry (changes (without_newest trx u store) u.doc)) → sees trx ≡ false → sees 0 ≡ true
    → (is_gone (without_newest trx u store) u.before.state u.before ≡ true → sees u.before.trx ≡ true)
    → IsFlight sees (document store u.doc) shown f → IsFlight sees (document (undo_ended trx u store) u.doc) shown (hand_on place u f)
undone_own trx place u store sees shown f newest chain other unseen zero_seen before kept = by_gone (is_gone (without_newest trx u store) u.before.state u.before) refl
  where
    top : sees (row_before store u.doc).trx ≡ false
    top = ap sees (subst (IsChain (row_before store u.doc)) (changes-popped trx place u store newest) chain).0.trx ∙ unseen

    by_gone : (b : Bool) → is_gone (without_newest trx u store) u.before.state u.before ≡ b → IsFlight sees (document (undo_ended trx u store) u.doc) shown (hand_on place u f)
    by_gone true goes = kept_where_forgotten sees (document store u.doc) (document (undo_ended trx u store) u.doc) (place, u) shown f
        (undo_forgets sees trx place u store newest top (before goes) zero_seen other goes) kept
    by_gone false stays = kept_where_removed sees (document store u.doc) (document (undo_ended trx u store) u.doc) (place, u) shown f
        (undo_well sees trx place u store newest chain unseen other stays) kept

undone_read : (trx : ℕ) (place : Address) (u : Record) (store : Store) (r : Read) (b : Bool) → (r.doc == u.doc) ≡ b → IsNewest trx place u store
    → IsChain (row_before store u.doc) (changes store u.doc) → IsOther place (map entry (changes (without_newest trx u store) u.doc)) → (r.doc ≢ u.doc → OthersElsewhere u.body store r.doc)
    → r.sees trx ≡ false → r.sees 0 ≡ true → (is_gone (without_newest trx u store) u.before.state u.before ≡ true → r.sees u.before.trx ≡ true)
    → IsRead store r → IsFlight r.sees (document (undo_ended trx u store) r.doc) r.shown (cond b (hand_on place u r.flight) r.flight)
undone_read trx place u store r true is newest chain other apart unseen zero_seen before kept =
    let same : r.doc ≡ u.doc = eqb-true r.doc u.doc is in
    subst (λ (n : ℕ). IsFlight r.sees (document (undo_ended trx u store) n) r.shown (hand_on place u r.flight)) (sym same)
    (undone_own trx place u store r.sees r.shown r.flight newest chain other unseen zero_seen before
    (subst (λ (n : ℕ). IsFlight r.sees (document store n) r.shown r.flight) same kept))
undone_read trx place u store r false is newest chain other apart unseen zero_seen before kept =
    let differs : r.doc ≢ u.doc = λ e. false≢true (sym is ∙ same_doc e) in
    kept_where_touched r.sees (document store r.doc) (document (undo_ended trx u store) r.doc) r.shown r.flight (undo_touches r.sees trx place u store r.doc newest differs (apart differs)) kept
  where
    same_doc : r.doc ≡ u.doc → (r.doc == u.doc) ≡ true
    same_doc e = grind (arith, e)

-- the end of an undoing keeps all reads that don't see the transaction, with the record handed on
pub reads_undone : (trx : ℕ) (place : Address) (u : Record) (store : Store) (rs : List Read) → IsNewest trx place u store → IsChain (row_before store u.doc) (changes store u.doc)
    → IsOther place (map entry (changes (without_newest trx u store) u.doc)) → ((d : ℕ) → d ≢ u.doc → OthersElsewhere u.body store d)
    → MaySee (λ r. (r.sees trx ≡ false) × (r.sees 0 ≡ true) × (is_gone (without_newest trx u store) u.before.state u.before ≡ true → r.sees u.before.trx ≡ true)) rs
    → AreReads store rs → AreReads (undo_ended trx u store) (map (handed u.doc place u) rs)
reads_undone trx place u store rs newest chain other apart may reads =
    each_read store (undo_ended trx u store) (λ r. (r.sees trx ≡ false) × (r.sees 0 ≡ true) × (is_gone (without_newest trx u store) u.before.state u.before ≡ true → r.sees u.before.trx ≡ true))
    (handed u.doc place u) rs
    (λ r m kept. undone_read trx place u store r (r.doc == u.doc) refl newest chain other (λ differs. apart r.doc differs) m.0 m.1 m.2 kept) may reads

-- ---- a commit

-- a commit keeps all reads
pub reads_committed : (trx : ℕ) (store : Store) (rs : List Read) → ((d : ℕ) → IsLocked d store.active) → AreReads store rs → AreReads (committed_by trx store) rs
reads_committed trx store rs locked reads =
    each_as_it_is store (committed_by trx store) (λ r. Unit {0}) rs
    (λ r m kept. subst (λ (doc : Document). IsFlight r.sees doc r.shown r.flight) (sym (commit_same trx r.doc store (locked r.doc))) kept) (anything rs) reads
  where
    anything : (rs : List Read) → MaySee (λ r. Unit {0}) rs
    anything [] = tt
    anything (r ∷ rs) = (tt, anything rs)

-- ---- purge passes a record

passed_read : (a : Address) (u : Record) (store : Store) (l : Log) (ls : List Log) (r : Read) → store.committed ≡ l ∷ ls → last_in l.records ≡ (a, u) ∷ []
    → IsChain (row_before store u.doc) (changes store u.doc) → AreDistinct (map entry (changes store u.doc)) → (r.doc ≢ u.doc → FreesBefore u.body → AllRows (IsElsewhere u.before.lob.page) store r.doc)
    → r.sees l.trx ≡ true → r.sees 0 ≡ true → IsRead store r → IsRead (record_passed a l.trx u store) r
passed_read a u store l ls r first oldest chain distinct apart known zero_seen kept = elim (eqb_tells r.doc u.doc) [
  | inl here ↦ subst (λ (n : ℕ). IsFlight r.sees (document (record_passed a l.trx u store) n) r.shown r.flight) (sym here.1)
      (elim (pass_well r.sees a u store l ls first oldest known zero_seen chain distinct) [
        | inl passes ↦ kept_where_passed r.sees (document store u.doc) (document (record_passed a l.trx u store) u.doc) r.shown r.flight passes
            (subst (λ (n : ℕ). IsFlight r.sees (document store n) r.shown r.flight) here.1 kept)
        | inr sweeps ↦ kept_where_swept r.sees (document store u.doc) (document (record_passed a l.trx u store) u.doc) r.shown r.flight sweeps
            (subst (λ (n : ℕ). IsFlight r.sees (document store n) r.shown r.flight) here.1 kept)
      ])
  | inr other ↦ kept_where_touched r.sees (document store r.doc) (document (record_passed a l.trx u store) r.doc) r.shown r.flight
      (pass_touches r.sees a u store l ls r.doc first oldest other.1 (apart other.1)) kept
]

-- the purge of a record keeps all reads that see its transaction
pub reads_passed : (a : Address) (u : Record) (store : Store) (l : Log) (ls : List Log) (rs : List Read) → store.committed ≡ l ∷ ls → last_in l.records ≡ (a, u) ∷ []
    → IsChain (row_before store u.doc) (changes store u.doc) → AreDistinct (map entry (changes store u.doc)) → ((d : ℕ) → d ≢ u.doc → FreesBefore u.body → AllRows (IsElsewhere u.before.lob.page) store d)
    → MaySee (λ r. (r.sees l.trx ≡ true) × (r.sees 0 ≡ true)) rs → AreReads store rs → AreReads (record_passed a l.trx u store) rs
reads_passed a u store l ls rs first oldest chain distinct apart may reads =
    each_as_it_is store (record_passed a l.trx u store) (λ r. (r.sees l.trx ≡ true) × (r.sees 0 ≡ true)) rs
    (λ r m kept. passed_read a u store l ls r first oldest chain distinct (λ differs. apart r.doc differs) m.0 m.1 kept) may reads

-- ---- LOBs alone change, or a node is freed

-- an event keeps all reads where it touches LOBs alone of each read's document
pub reads_touched : (old new : Store) (rs : List Read) → MaySee (λ r. Touches r.sees (document old r.doc) (document new r.doc)) rs → AreReads old rs → AreReads new rs
reads_touched old new rs may reads =
    each_as_it_is old new (λ r. Touches r.sees (document old r.doc) (document new r.doc)) rs
    (λ r t kept. kept_where_touched r.sees (document old r.doc) (document new r.doc) r.shown r.flight t kept) may reads

-- where it frees a node, it keeps all reads, and those at the node go on from the head
pub reads_freed : (old new : Store) (node head : Address) (rs : List Read) → MaySee (λ r. Frees r.sees (document old r.doc) (document new r.doc) node head) rs
    → AreReads old rs → AreReads new (map (shifted node head) rs)
reads_freed old new node head rs may reads =
    each_read old new (λ r. Frees r.sees (document old r.doc) (document new r.doc) node head) (shifted node head) rs
    (λ r t kept. kept_where_freed r.sees (document old r.doc) (document new r.doc) node head r.shown r.flight t kept) may reads
