-- Seeking and walking bring a read on: fewer records are left.
use Rattle.std.proofs.Common.{◌≡◌, ◌≢◌, ◌⊎◌, inl, inr, ℕ, zero, suc, ◌+◌, ◌<◌, ◌≤◌, Bool, true, false, cond, List, [], ◌∷◌, ◌++◌, length, refl, sym, ap, ap₂, subst, ◌∙◌, arith}
use Rattle.std.specs.Prelude.{Some}
use Rattle.std.proofs.lemmas.List.{append_assoc}
use Rattle.store_data.specs.Store.{Row, RowState, absent, live, deleted}
use Rattle.store_model.specs.Undo.{record_at, same_place}
use Rattle.read_model.specs.Patches.{Entry}
use Rattle.read_model.specs.Document.{Document, Sees, IsVisible, IsOther, AreDistinct}
use Rattle.read_model.specs.Flight.{Seek, Unpatch, Ready, Flight, row_behind, onward}
use Rattle.read_model.specs.Steps.{arrival, judging, seek, put, walk}
use Rattle.read_model.specs.Progress.{records_from, rank}
use Rattle.read_model.proofs.VisibleLemmas.{seen_from, seen_row}
use Rattle.read_model.proofs.EventLemmas.{true_same, same_true}
use Rattle.read_model.proofs.UndoLemmas.{onward_unseen, onward_same}
use Rattle.read_model.proofs.SeekLemmas.{record_found, behind_last, seek_seen}
use Rattle.read_model.proofs.WalkLemmas.{walk_none}

-- ---- records

-- from a record's address on there are that record and those behind it
pub from_here : (newer : List Entry) (e : Entry) (older : List Entry) → AreDistinct (newer ++ (e ∷ older)) → records_from (Some e.0) (newer ++ (e ∷ older)) ≡ e ∷ older
from_here [] e older distinct = rw (true_same e.0 e.0 refl) refl
from_here (x ∷ xs) e older distinct = by_case (same_place x.0 e.0) refl (from_here xs e older distinct.1)
  where
    in_there : (xs : List Entry) → IsOther x.0 (xs ++ (e ∷ older)) → e.0 ≢ x.0
    in_there [] other = other.0
    in_there (y ∷ ys) other = in_there ys other.1

    by_case : (b : Bool) → same_place x.0 e.0 ≡ b → records_from (Some e.0) (xs ++ (e ∷ older)) ≡ e ∷ older
        → cond b (x ∷ (xs ++ (e ∷ older))) (records_from (Some e.0) (xs ++ (e ∷ older))) ≡ e ∷ older
    by_case true is rest = absurd (in_there xs distinct.0 (sym (same_true x.0 e.0 is)))
    by_case false is rest = rest

-- ---- Seek

-- a row that is arrived at brings a read behind Seek
pub low_arrival : (row : Row) (s : RowState) → rank (arrival row s) < 3
low_arrival row absent = omega arith
low_arrival row live = omega arith
low_arrival row deleted = omega arith

-- no more than so much is left behind n records, or the phase is a later one
unfoldable pub Sought : ℕ → ℕ → Document → Flight → Type 0
Sought n most doc f = (rank f.phase < 3) ⊎ ((f.phase ≡ Seek) × (length (records_from f.row.roll doc.records) + n ≤ most))

-- a seek over n records brings the read to a later phase, or leaves n fewer
pub sought : (n : ℕ) (sees : Sees) (doc : Document) (passed rest older : List Entry) (v row : Row) → AreDistinct doc.records → IsVisible sees doc (passed ++ rest) older v
    → row ≡ row_behind doc.row passed → Sought n (length (rest ++ older)) doc (seek n sees doc row)
unfolding Sought
sought n sees doc passed [] older v row distinct visible judged =
    let along = seen_from sees doc.row passed [] v visible.walk in
    let same : row ≡ v = judged ∙ along.0 in
    inl (subst (λ (f : Flight). rank f.phase < 3) (sym (seek_seen n sees doc row (ap (λ (w : Row). sees w.trx) same ∙ along.1))) (low_arrival row row.state))
sought zero sees doc passed (e ∷ es) older v row distinct visible judged =
    let along = seen_from sees doc.row passed (e ∷ es) v visible.walk in
    let records : doc.records ≡ passed ++ (e ∷ (es ++ older)) = visible.records ∙ append_assoc passed (e ∷ es) older in
    let roll : row.roll ≡ Some e.0 = ap (λ (w : Row). w.roll) judged ∙ along.1 in
    let here : records_from row.roll doc.records ≡ e ∷ (es ++ older) = ap₂ records_from roll records ∙ from_here passed e (es ++ older) (subst AreDistinct records distinct) in
    subst (λ (f : Flight). (rank f.phase < 3) ⊎ ((f.phase ≡ Seek) × (length (records_from f.row.roll doc.records) + 0 ≤ length (e ∷ (es ++ older)))))
    (sym (stays along.0)) (inr (refl, omega (arith, ap length here)))
  where
    stays : sees (row_behind doc.row passed).trx ≡ false → seek zero sees doc row ≡ judging row
    stays unseen = rw (ap (λ (w : Row). sees w.trx) judged ∙ unseen) refl
sought (suc n) sees doc passed (e ∷ es) older v row distinct visible judged =
    let along = seen_from sees doc.row passed (e ∷ es) v visible.walk in
    let records : doc.records ≡ passed ++ (e ∷ (es ++ older)) = visible.records ∙ append_assoc passed (e ∷ es) older in
    let there : record_at doc.records e.0 ≡ Some e.1 = ap (λ (l : List Entry). record_at l e.0) records ∙ record_found passed e (es ++ older) (subst AreDistinct records distinct) in
    let onto : seek (suc n) sees doc row ≡ seek n sees doc e.1.before =
    rw (ap (λ (w : Row). sees w.trx) judged ∙ along.0, ap (λ (w : Row). w.roll) judged ∙ along.1, there) refl in
    let join : (passed ++ (e ∷ [])) ++ es ≡ passed ++ (e ∷ es) = append_assoc passed (e ∷ []) es in
    let rest = sought n sees doc (passed ++ (e ∷ [])) es older v e.1.before distinct
    (subst (λ (l : List Entry). IsVisible sees doc l older v) (sym join) visible) (sym (behind_last doc.row passed e)) in
    subst (λ (f : Flight). (rank f.phase < 3) ⊎ ((f.phase ≡ Seek) × (length (records_from f.row.roll doc.records) + suc n ≤ length (e ∷ (es ++ older))))) (sym onto)
    (elim rest [
      | inl low ↦ inl low
      | inr more ↦ inr (more.0, omega (arith, more.1))
    ])

-- ---- Unpatch

unfoldable pub Walked : ℕ → ℕ → Document → Flight → Type 0
Walked n most doc f = (rank f.phase < 1) ⊎ ((f.phase ≡ Unpatch) × (length (records_from f.cursor doc.records) + n ≤ most))

-- a walk over n records makes the read ready, or leaves n fewer
pub walked : (n : ℕ) (sees : Sees) (doc : Document) (f : Flight) (newer rest older : List Entry) → AreDistinct doc.records → f.phase ≡ Unpatch
    → IsVisible sees doc (newer ++ rest) older f.row → f.cursor ≡ onward f.row (row_behind doc.row newer) → Walked n (length (rest ++ older)) doc (walk n doc f)
unfolding Walked
walked n sees doc f newer [] older distinct is visible cursor =
    let along = seen_from sees doc.row newer [] f.row visible.walk in
    let low : rank Ready < 1 = omega arith in
    inl (subst (λ (g : Flight). rank g.phase < 1) (sym (walk_none n doc f (cursor ∙ onward_same f.row (row_behind doc.row newer) along.0))) low)
walked zero sees doc f newer (e ∷ es) older distinct is visible cursor =
    let along = seen_from sees doc.row newer (e ∷ es) f.row visible.walk in
    let seen = seen_row sees (row_behind doc.row newer) (e ∷ es) f.row along in
    let here : f.cursor ≡ Some e.0 = cursor ∙ onward_unseen sees f.row (row_behind doc.row newer) seen along.0 ∙ along.1 in
    let records : doc.records ≡ newer ++ (e ∷ (es ++ older)) = visible.records ∙ append_assoc newer (e ∷ es) older in
    let from : records_from f.cursor doc.records ≡ e ∷ (es ++ older) = ap₂ records_from here records ∙ from_here newer e (es ++ older) (subst AreDistinct records distinct) in
    let stays : walk zero doc f ≡ f = rw here refl in
    subst (λ (g : Flight). (rank g.phase < 1) ⊎ ((g.phase ≡ Unpatch) × (length (records_from g.cursor doc.records) + 0 ≤ length (e ∷ (es ++ older))))) (sym stays)
    (inr (is, omega (arith, ap length from)))
walked (suc n) sees doc f newer (e ∷ es) older distinct is visible cursor =
    let along = seen_from sees doc.row newer (e ∷ es) f.row visible.walk in
    let seen = seen_row sees (row_behind doc.row newer) (e ∷ es) f.row along in
    let here : f.cursor ≡ Some e.0 = cursor ∙ onward_unseen sees f.row (row_behind doc.row newer) seen along.0 ∙ along.1 in
    let records : doc.records ≡ newer ++ (e ∷ (es ++ older)) = visible.records ∙ append_assoc newer (e ∷ es) older in
    let there : record_at doc.records e.0 ≡ Some e.1 = ap (λ (l : List Entry). record_at l e.0) records ∙ record_found newer e (es ++ older) (subst AreDistinct records distinct) in
    let onto : walk (suc n) doc f ≡ walk n doc (put e.1 f) = rw (here, there) refl in
    let join : (newer ++ (e ∷ [])) ++ es ≡ newer ++ (e ∷ es) = append_assoc newer (e ∷ []) es in
    let rest = walked n sees doc (put e.1 f) (newer ++ (e ∷ [])) es older distinct is
    (subst (λ (l : List Entry). IsVisible sees doc l older f.row) (sym join) visible) (ap (onward f.row) (sym (behind_last doc.row newer e))) in
    subst (λ (g : Flight). (rank g.phase < 1) ⊎ ((g.phase ≡ Unpatch) × (length (records_from g.cursor doc.records) + suc n ≤ length (e ∷ (es ++ older))))) (sym onto)
    (elim rest [
      | inl low ↦ inl low
      | inr more ↦ inr (more.0, omega (arith, more.1))
    ])
