-- Of a change of one document, of its undoing and of its purge, reads of other documents see that LOBs are touched.
use Rattle.std.proofs.Common.{◌≡◌, ◌≢◌, ℕ, suc, List, [], ◌∷◌, ◌++◌, map, refl, sym, subst}
use Rattle.std.specs.Prelude.{Option, Some, None}
use Rattle.page_model.specs.Pages.{Address}
use Rattle.store_data.specs.Pieces.{piece_at}
use Rattle.store_data.specs.Store.{Run, Row, live, Version, Piece, Lob, Body, inserted, rebuilt, versioned, patched, removed, Record, Log, Store}
use Rattle.store_model.specs.Lobs.{part_list, parts_at as parts_listed}
use Rattle.store_model.specs.Runs.{all_laid, lobs_laid}
use Rattle.store_model.specs.History.{row_before}
use Rattle.store_model.specs.Steps.{on_lob, without_lob, at_version, last_in}
use Rattle.store_model.specs.Events.{Plan, new_row, raised_row, patched_row, deleted_row, insert_begun, rebuild_begun, version_begun, patch_made, delete_made}
use Rattle.store_model.specs.Undo.{unmade, undo_ended, cleared, record_passed}
use Rattle.store_model.specs.Moves.{IsNewest, IsUntouched, OthersElsewhere}
use Rattle.store_model.specs.Behind.{AllRows, IsElsewhere}
use Rattle.store_model.specs.Keeps.{Frees}
use Rattle.read_model.specs.Document.{Document, Sees, IsVisible, part_or, part_at, pieces_at}
use Rattle.read_model.specs.Events.{Touches, IsSame, EachPiece}
use Rattle.read_model.specs.OfStore.{document}
use Rattle.read_model.specs.Kinds.{on_lobs as doc_lobs}
use Rattle.read_model.proofs.VisibleLemmas.{heads, tails}
use Rattle.read_model.proofs.PartLemmas.{cons}
use Rattle.read_model.proofs.LobLemmas.{laid_none, each_same, with_other, without_other}
use Rattle.read_model.proofs.KindLemmas.{version_same}
use Rattle.read_model.proofs.StoreLemmas.{all_so}
use Rattle.read_model.proofs.StoreLobLemmas.{planned_others, undone_others, runs_touch}
use Rattle.read_model.proofs.OtherLemmas.{passed_others}

touch_by : (sees : Sees) (doc : Document) (f : List Lob → List Lob)
    → ((above older : List (Address × Record)) (v : Row) → IsVisible sees doc above older v → v.state ≡ live → EachPiece (IsSame v.lob.version) (pieces_at doc.lobs v.lob.page) (pieces_at (f doc.lobs) v.lob.page))
    → Touches sees doc (doc_lobs f doc)
touch_by sees doc f same = record { row = refl; records = refl; pieces = same }

nothing_touched : (sees : Sees) (doc : Document) → Touches sees doc (doc_lobs (λ ls. ls) doc)
nothing_touched sees doc = touch_by sees doc (λ ls. ls) (λ above older v visible state. each_same v.lob.version (pieces_at doc.lobs v.lob.page))

added_touched : (sees : Sees) (store : Store) (d : ℕ) (lob : Lob) → AllRows (IsElsewhere lob.page) store d → Touches sees (document store d) (doc_lobs (λ ls. ls ++ lob ∷ []) (document store d))
added_touched sees store d lob all = touch_by sees (document store d) (λ ls. ls ++ lob ∷ []) (λ above older v visible state.
    subst (EachPiece (IsSame v.lob.version) (pieces_at store.lobs v.lob.page)) (sym (with_other lob store.lobs v.lob.page (all_so (IsElsewhere lob.page) sees store d above older v visible all state)))
    (each_same v.lob.version (pieces_at store.lobs v.lob.page)))

freed_touched : (sees : Sees) (store : Store) (d page : ℕ) → AllRows (IsElsewhere page) store d → Touches sees (document store d) (doc_lobs (without_lob page) (document store d))
freed_touched sees store d page all = touch_by sees (document store d) (without_lob page) (λ above older v visible state.
    subst (EachPiece (IsSame v.lob.version) (pieces_at store.lobs v.lob.page)) (sym (without_other page store.lobs v.lob.page (all_so (IsElsewhere page) sees store d above older v visible all state)))
    (each_same v.lob.version (pieces_at store.lobs v.lob.page)))

raised_touched : (sees : Sees) (doc : Document) (page n : ℕ) → Touches sees doc (doc_lobs (on_lob page (at_version n)) doc)
raised_touched sees doc page n = touch_by sees doc (on_lob page (at_version n)) (λ above older v visible state. version_same page n doc.lobs v.lob.page v.lob.version)

-- the listed parts leave out pieces without a version
listed_untouched : (rs : List Run) (v : ℕ) (ps : List Piece) → map (all_laid rs) (parts_listed ps v) ≡ parts_listed ps v → map (all_laid rs) (map (part_at v) ps) ≡ map (part_at v) ps
listed_untouched rs v [] same = refl
listed_untouched rs v (p ∷ ps) same = by_found (piece_at p v) same (λ h. listed_untouched rs v ps h)
  where
    by_found : (o : Option Version) → map (all_laid rs) (part_list o ++ parts_listed ps v) ≡ part_list o ++ parts_listed ps v
        → (map (all_laid rs) (parts_listed ps v) ≡ parts_listed ps v → map (all_laid rs) (map (part_at v) ps) ≡ map (part_at v) ps)
        → all_laid rs (part_or o) ∷ map (all_laid rs) (map (part_at v) ps) ≡ part_or o ∷ map (part_at v) ps
    by_found None h rest = cons (laid_none rs) (rest h)
    by_found (Some x) h rest = cons (heads _ _ _ _ h) (rest (tails _ _ _ _ h))

pub laid_touched : (sees : Sees) (store : Store) (d : ℕ) (rs : List Run) → AllRows (IsUntouched rs store.lobs) store d → Touches sees (document store d) (doc_lobs (lobs_laid rs) (document store d))
laid_touched sees store d rs all = runs_touch sees (document store d) rs (λ above older v visible state.
    listed_untouched rs v.lob.version (pieces_at store.lobs v.lob.page) (all_so (IsUntouched rs store.lobs) sees store d above older v visible all state))

-- ---- changes of another document

to_document : (sees : Sees) (store : Store) (d : ℕ) (f : List Lob → List Lob) (new : Document) → new ≡ doc_lobs f (document store d) → Touches sees (document store d) (doc_lobs f (document store d)) → Touches sees (document store d) new
to_document sees store d f new is touches = subst (λ (x : Document). Touches sees (document store d) x) (sym is) touches

-- an insert begun touches LOBs alone for another document, which doesn't have the new LOB
pub insert_touches : (sees : Sees) (p : Plan) (lob : Lob) (n : ℕ) (store : Store) (d : ℕ) → d ≢ p.doc → AllRows (IsElsewhere lob.page) store d → Touches sees (document store d) (document (insert_begun p lob n store) d)
insert_touches sees p lob n store d other all = to_document sees store d (λ ls. ls ++ lob ∷ []) _ (planned_others p (new_row p lob.page n) (inserted lob.page) (λ ls. ls ++ lob ∷ []) store d other) (added_touched sees store d lob all)

-- the same of a new encoding
pub rebuild_touches : (sees : Sees) (p : Plan) (lob : Lob) (n : ℕ) (store : Store) (d : ℕ) → d ≢ p.doc → AllRows (IsElsewhere lob.page) store d → Touches sees (document store d) (document (rebuild_begun p lob n store) d)
rebuild_touches sees p lob n store d other all = to_document sees store d (λ ls. ls ++ lob ∷ []) _ (planned_others p (new_row p lob.page n) (rebuilt lob.page) (λ ls. ls ++ lob ∷ []) store d other) (added_touched sees store d lob all)

-- the same of a raised version, whatever LOBs the other document has
pub version_touches : (sees : Sees) (p : Plan) (pieces : ℕ) (touched : List ℕ) (store : Store) (d : ℕ) → d ≢ p.doc → Touches sees (document store d) (document (version_begun p pieces touched store) d)
version_touches sees p pieces touched store d other =
    let before = row_before store p.doc in
    to_document sees store d (on_lob before.lob.page (at_version (suc before.lob.version))) _ (planned_others p (raised_row p) (versioned pieces touched) (on_lob before.lob.page (at_version (suc before.lob.version))) store d other)
    (raised_touched sees (document store d) before.lob.page (suc before.lob.version))

-- the same of bytes written in place, which no row of the other document shows
pub patch_touches : (sees : Sees) (p : Plan) (old new : List Run) (store : Store) (d : ℕ) → d ≢ p.doc → AllRows (IsUntouched new store.lobs) store d → Touches sees (document store d) (document (patch_made p old new store) d)
patch_touches sees p old new store d other all = to_document sees store d (lobs_laid new) _ (planned_others p (patched_row p) (patched old) (lobs_laid new) store d other) (laid_touched sees store d new all)

-- the same of a deletion, whatever LOBs the other document has
pub delete_touches : (sees : Sees) (p : Plan) (store : Store) (d : ℕ) → d ≢ p.doc → Touches sees (document store d) (document (delete_made p store) d)
delete_touches sees p store d other = to_document sees store d (λ ls. ls) _ (planned_others p (deleted_row p) removed (λ ls. ls) store d other) (nothing_touched sees (document store d))

-- ---- undoing and purge of another document's record

unmade_touched : (sees : Sees) (store : Store) (d : ℕ) (before : Row) (b : Body) → OthersElsewhere b store d → Touches sees (document store d) (doc_lobs (unmade b before) (document store d))
unmade_touched sees store d before (inserted page) all = freed_touched sees store d page all
unmade_touched sees store d before (rebuilt page) all = freed_touched sees store d page all
unmade_touched sees store d before (versioned pieces touched) all = raised_touched sees (document store d) before.lob.page before.lob.version
unmade_touched sees store d before (patched old) all = laid_touched sees store d old all
unmade_touched sees store d before removed all = nothing_touched sees (document store d)

-- the end of an undoing does so where the other document shows nothing that it takes back
pub undo_touches : (sees : Sees) (trx : ℕ) (place : Address) (u : Record) (store : Store) (d : ℕ) → IsNewest trx place u store → d ≢ u.doc → OthersElsewhere u.body store d
    → Touches sees (document store d) (document (undo_ended trx u store) d)
undo_touches sees trx place u store d newest other all = to_document sees store d (unmade u.body u.before) _ (undone_others trx place u store d newest other) (unmade_touched sees store d u.before u.body all)

cleared_touched : (sees : Sees) (store : Store) (d : ℕ) (before : Row) (b : Body) → (Frees b → AllRows (IsElsewhere before.lob.page) store d)
    → Touches sees (document store d) (doc_lobs (cleared b before) (document store d))
cleared_touched sees store d before (inserted page) all = nothing_touched sees (document store d)
cleared_touched sees store d before (rebuilt page) all = freed_touched sees store d before.lob.page (all tt)
cleared_touched sees store d before (versioned pieces touched) all = nothing_touched sees (document store d)
cleared_touched sees store d before (patched old) all = nothing_touched sees (document store d)
cleared_touched sees store d before removed all = freed_touched sees store d before.lob.page (all tt)

-- the purge of a record does so where the other document doesn't have the LOB that it frees
pub pass_touches : (sees : Sees) (a : Address) (u : Record) (store : Store) (l : Log) (ls : List Log) (d : ℕ) → store.committed ≡ l ∷ ls → last_in l.records ≡ (a, u) ∷ [] → d ≢ u.doc
    → (Frees u.body → AllRows (IsElsewhere u.before.lob.page) store d) → Touches sees (document store d) (document (record_passed a l.trx u store) d)
pass_touches sees a u store l ls d first oldest other all = to_document sees store d (cleared u.body u.before) _ (passed_others a u store l ls d first oldest other) (cleared_touched sees store d u.before u.body all)
