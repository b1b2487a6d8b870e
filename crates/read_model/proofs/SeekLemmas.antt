-- A read keeps its invariant by its own steps: Seek.
use Rattle.std.proofs.Common.{◌≡◌, ◌≢◌, inl, ℕ, zero, suc, Bool, true, false, cond, List, [], ◌∷◌, ◌++◌, map, refl, sym, ap, subst, ◌∙◌}
use Rattle.std.specs.Prelude.{Option, Some}
use Rattle.std.proofs.lemmas.List.{append_assoc}
use Rattle.store_data.specs.Pieces.{Part}
use Rattle.store_data.specs.Store.{Row, RowState, absent, live, deleted}
use Rattle.store_model.specs.Undo.{record_at, same_place}
use Rattle.read_model.specs.Patches.{Entry, back}
use Rattle.read_model.specs.Document.{Document, Sees, IsVisible, IsOther, AreDistinct, content, parts_at, pieces_at}
use Rattle.read_model.specs.Flight.{Flight, row_behind, IsFlightIn, IsFlight}
use Rattle.read_model.specs.Steps.{arrival, arrived, seek}
use Rattle.read_model.proofs.VisibleLemmas.{seen_from, content_live}
use Rattle.read_model.proofs.PartLemmas.{search_none}
use Rattle.read_model.proofs.EventLemmas.{true_same, same_true}

-- ---- a record is found at its address

-- among records at different addresses each is found by its own
pub record_found : (newer : List Entry) (e : Entry) (older : List Entry) → AreDistinct (newer ++ (e ∷ older)) → record_at (newer ++ (e ∷ older)) e.0 ≡ Some e.1
record_found [] e older distinct = rw (true_same e.0 e.0 refl) refl
record_found (x ∷ xs) e older distinct = by_case (same_place x.0 e.0) refl (record_found xs e older distinct.1)
  where
    in_there : (xs : List Entry) → IsOther x.0 (xs ++ (e ∷ older)) → e.0 ≢ x.0
    in_there [] other = other.0
    in_there (y ∷ ys) other = in_there ys other.1

    by_case : (b : Bool) → same_place x.0 e.0 ≡ b → record_at (xs ++ (e ∷ older)) e.0 ≡ Some e.1 → cond b (Some x.1) (record_at (xs ++ (e ∷ older)) e.0) ≡ Some e.1
    by_case true is rest = absurd (in_there xs distinct.0 (sym (same_true x.0 e.0 is)))
    by_case false is rest = rest

-- the row behind some records is the one that the last of them has as the row before
pub behind_last : (row : Row) (passed : List Entry) (e : Entry) → row_behind row (passed ++ (e ∷ [])) ≡ e.1.before
behind_last row [] e = refl
behind_last row (x ∷ xs) e = behind_last x.1.before xs e

-- ---- the visible row

arrived_in : (sees : Sees) (doc : Document) (shown : Option (List Part)) (above older : List Entry) (v : Row) (s : RowState) → v.state ≡ s
    → IsVisible sees doc above older v → content doc.lobs v above ≡ shown → IsFlightIn (arrival v s) sees doc shown (arrived v)
arrived_in sees doc shown above older v absent is visible holds = sym holds ∙ rw is refl
arrived_in sees doc shown above older v deleted is visible holds = sym holds ∙ rw is refl
arrived_in sees doc shown above older v live is visible holds = (
  map (back above) (parts_at doc.lobs v.lob),
  sym holds ∙ content_live doc.lobs v above is,
  record {
    above = above;
    older = older;
    visible = visible;
    state = is;
    holds = refl;
    copied = tt;
    search = search_none v.lob.version (pieces_at doc.lobs v.lob.page);
  },
  refl,
)

pub arrived_kept : (sees : Sees) (doc : Document) (shown : Option (List Part)) (above older : List Entry) (v : Row)
    → IsVisible sees doc above older v → content doc.lobs v above ≡ shown → IsFlight sees doc shown (arrived v)
arrived_kept sees doc shown above older v visible holds = arrived_in sees doc shown above older v v.state refl visible holds

-- ---- seeking

-- a seek arrives at a row that the view sees
pub seek_seen : (n : ℕ) (sees : Sees) (doc : Document) (row : Row) → sees row.trx ≡ true → seek n sees doc row ≡ arrived row
seek_seen zero sees doc row seen = rw seen refl
seek_seen (suc n) sees doc row seen = rw seen refl

-- a seek from a row at or above the visible one leaves the read as it must be
pub seek_kept : (n : ℕ) (sees : Sees) (doc : Document) (shown : Option (List Part)) (passed rest older : List Entry) (v row : Row) → AreDistinct doc.records
    → IsVisible sees doc (passed ++ rest) older v → content doc.lobs v (passed ++ rest) ≡ shown → row ≡ row_behind doc.row passed
    → IsFlight sees doc shown (seek n sees doc row)
seek_kept n sees doc shown passed [] older v row distinct visible holds judged =
    let walk = seen_from sees doc.row passed [] v visible.walk in
    let same : row ≡ v = judged ∙ walk.0 in
    subst (λ (f : Flight). IsFlight sees doc shown f)
    (ap arrived (sym same) ∙ sym (seek_seen n sees doc row (ap (λ (w : Row). sees w.trx) same ∙ walk.1)))
    (arrived_kept sees doc shown (passed ++ []) older v visible holds)
seek_kept zero sees doc shown passed (e ∷ es) older v row distinct visible holds judged =
    let walk = seen_from sees doc.row passed (e ∷ es) v visible.walk in
    rw (ap (λ (w : Row). sees w.trx) judged ∙ walk.0) (inl (record {
      passed = passed;
      rest = e ∷ es;
      older = older;
      v = v;
      visible = visible;
      holds = holds;
      judged = judged;
    }))
seek_kept (suc n) sees doc shown passed (e ∷ es) older v row distinct visible holds judged =
    let walk = seen_from sees doc.row passed (e ∷ es) v visible.walk in
    let records : doc.records ≡ passed ++ (e ∷ (es ++ older)) = visible.records ∙ append_assoc passed (e ∷ es) older in
    let there : record_at doc.records e.0 ≡ Some e.1 = ap (λ (l : List Entry). record_at l e.0) records ∙ record_found passed e (es ++ older) (subst AreDistinct records distinct) in
    let onto : seek (suc n) sees doc row ≡ seek n sees doc e.1.before =
    rw (ap (λ (w : Row). sees w.trx) judged ∙ walk.0, ap (λ (w : Row). w.roll) judged ∙ walk.1, there) refl in
    let along : (passed ++ (e ∷ [])) ++ es ≡ passed ++ (e ∷ es) = append_assoc passed (e ∷ []) es in
    subst (λ (f : Flight). IsFlight sees doc shown f) (sym onto)
    (seek_kept n sees doc shown (passed ++ (e ∷ [])) es older v e.1.before distinct
    (subst (λ (l : List Entry). IsVisible sees doc l older v) (sym along) visible)
    (ap (content doc.lobs v) along ∙ holds)
    (sym (behind_last doc.row passed e)))
