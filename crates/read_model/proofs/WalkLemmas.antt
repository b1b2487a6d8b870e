-- A read keeps its invariant by its own steps: Unpatch, and each of its events.
use Rattle.std.proofs.Common.{◌≡◌, ◌≢◌, inl, inr, ℕ, zero, suc, List, [], ◌∷◌, ◌++◌, map, refl, sym, ap, subst, ◌∙◌}
use Rattle.std.specs.Prelude.{Option, Some, None}
use Rattle.std.proofs.lemmas.List.{append_assoc}
use Rattle.page_model.specs.Pages.{Address}
use Rattle.store_data.specs.Pieces.{Part}
use Rattle.store_data.specs.Store.{Row, RowState, absent, live, deleted}
use Rattle.store_model.specs.Undo.{record_at}
use Rattle.read_model.specs.Patches.{Entry, back}
use Rattle.read_model.specs.Document.{Document, Sees, IsVisible, AreDistinct, content, under}
use Rattle.read_model.specs.Flight.{Phase, Seek, Found, Pieces, Unpatch, Ready, Absent, Flight, row_behind, onward, IsFlightIn, IsFlight}
use Rattle.read_model.specs.Steps.{arrival, arrived, judging, seek, opened, put, walk, step, lent_in, event_of_read}
use Rattle.read_model.specs.Events.{Event, reads, adds, removes, forgets, touches, frees, passes, sweeps, passes_by, Moves, after, AllMove, all_after, last_of}
use Rattle.read_model.proofs.VisibleLemmas.{seen_from, seen_row, under_is}
use Rattle.read_model.proofs.PartLemmas.{cons, map_removed}
use Rattle.read_model.proofs.UndoLemmas.{onward_unseen, onward_same, kept_where_removed}
use Rattle.read_model.proofs.SeekLemmas.{record_found, behind_last, seek_kept}
use Rattle.read_model.proofs.CopyLemmas.{copy_kept}
use Rattle.read_model.proofs.EventLemmas.{kept_where_added, kept_where_touched, kept_where_freed, kept_where_passed}
use Rattle.read_model.proofs.GoneLemmas.{kept_where_forgotten, kept_where_swept}

map_same : (cs : List Part) → map (back []) cs ≡ cs
map_same [] = refl
map_same (c ∷ cs) = cons refl (map_same cs)

-- a walk with no record left makes the read ready
pub walk_none : (n : ℕ) (doc : Document) (f : Flight) → f.cursor ≡ None → walk n doc f ≡ record f { phase = Ready }
walk_none zero doc f none = rw none refl
walk_none (suc n) doc f none = rw none refl

pub walk_kept : (n : ℕ) (sees : Sees) (doc : Document) (shown : List Part) (f : Flight) (newer rest older : List Entry) → AreDistinct doc.records → f.phase ≡ Unpatch
    → IsVisible sees doc (newer ++ rest) older f.row → f.row.state ≡ live → f.cursor ≡ onward f.row (row_behind doc.row newer) → map (back rest) f.copied ≡ shown
    → IsFlight sees doc (Some shown) (walk n doc f)
walk_kept n sees doc shown f newer [] older distinct is visible state cursor copied =
    let along = seen_from sees doc.row newer [] f.row visible.walk in
    subst (λ (g : Flight). IsFlight sees doc (Some shown) g) (sym (walk_none n doc f (cursor ∙ onward_same f.row (row_behind doc.row newer) along.0)))
    (ap (λ (l : List Part). Some l) (sym copied ∙ map_same f.copied))
walk_kept zero sees doc shown f newer (e ∷ es) older distinct is visible state cursor copied =
    let along = seen_from sees doc.row newer (e ∷ es) f.row visible.walk in
    let seen = seen_row sees (row_behind doc.row newer) (e ∷ es) f.row along in
    let here : f.cursor ≡ Some e.0 = cursor ∙ onward_unseen sees f.row (row_behind doc.row newer) seen along.0 ∙ along.1 in
    let stays : walk zero doc f ≡ f = rw here refl in
    subst (λ (g : Flight). IsFlight sees doc (Some shown) g) (sym stays)
    (subst (λ (p : Phase). IsFlightIn p sees doc (Some shown) f) (sym is) (
      shown,
      refl,
      record {
        newer = newer;
        rest = e ∷ es;
        older = older;
        visible = visible;
        state = state;
        cursor = cursor;
        copied = copied;
      },
    ))
walk_kept (suc n) sees doc shown f newer (e ∷ es) older distinct is visible state cursor copied =
    let along = seen_from sees doc.row newer (e ∷ es) f.row visible.walk in
    let seen = seen_row sees (row_behind doc.row newer) (e ∷ es) f.row along in
    let here : f.cursor ≡ Some e.0 = cursor ∙ onward_unseen sees f.row (row_behind doc.row newer) seen along.0 ∙ along.1 in
    let records : doc.records ≡ newer ++ (e ∷ (es ++ older)) = visible.records ∙ append_assoc newer (e ∷ es) older in
    let there : record_at doc.records e.0 ≡ Some e.1 = ap (λ (l : List Entry). record_at l e.0) records ∙ record_found newer e (es ++ older) (subst AreDistinct records distinct) in
    let onto : walk (suc n) doc f ≡ walk n doc (put e.1 f) = rw (here, there) refl in
    let join : (newer ++ (e ∷ [])) ++ es ≡ newer ++ (e ∷ es) = append_assoc newer (e ∷ []) es in
    subst (λ (g : Flight). IsFlight sees doc (Some shown) g) (sym onto)
    (walk_kept n sees doc shown (put e.1 f) (newer ++ (e ∷ [])) es older distinct is
    (subst (λ (l : List Entry). IsVisible sees doc l older f.row) (sym join) visible)
    state
    (ap (onward f.row) (sym (behind_last doc.row newer e)))
    (map_removed e es f.copied ∙ copied))

-- ---- each event of a read

arrived_absent : (sees : Sees) (doc : Document) (shown : Option (List Part)) (row : Row) (s : RowState) → s ≢ live → shown ≡ None → IsFlightIn (arrival row s) sees doc shown (arrived row)
arrived_absent sees doc shown row absent other nothing = nothing
arrived_absent sees doc shown row live other nothing = absurd (other refl)
arrived_absent sees doc shown row deleted other nothing = nothing

step_in : (p : Phase) (sees : Sees) (doc : Document) (shown : Option (List Part)) (row : Row) (cursor node : Option Address) (copied : List Part) → AreDistinct doc.records
    → IsFlightIn p sees doc shown (record { phase = p; row = row; cursor = cursor; node = node; copied = copied })
    → IsFlight sees doc shown (step sees doc (record { phase = p; row = row; cursor = cursor; node = node; copied = copied }))
step_in Seek sees doc shown row cursor at copied distinct (inl c) = seek_kept 8 sees doc shown c.passed c.rest c.older c.v row distinct c.visible c.holds c.judged
step_in Seek sees doc shown row cursor at copied distinct (inr c) = subst (λ (f : Flight). IsFlight sees doc shown f) (sym there) away
  where
    there : seek 8 sees doc row ≡ arrived row
    there = rw c.seen refl

    away : IsFlight sees doc shown (arrived row)
    away = arrived_absent sees doc shown row row.state c.state c.nothing
step_in (Found n) sees doc shown row cursor at copied distinct c = c
step_in Pieces sees doc shown row cursor at copied distinct c =
    subst (λ (s : Option (List Part)). IsFlight sees doc s (step sees doc (record { phase = Pieces; row = row; cursor = cursor; node = at; copied = copied }))) (sym c.1)
    (copy_kept sees doc c.0 _ refl c.2)
step_in Unpatch sees doc shown row cursor at copied distinct c =
    subst (λ (s : Option (List Part)). IsFlight sees doc s (step sees doc (record { phase = Unpatch; row = row; cursor = cursor; node = at; copied = copied }))) (sym c.1)
    (walk_kept 8 sees doc c.0 _ c.2.newer c.2.rest c.2.older distinct refl c.2.visible c.2.state c.2.cursor c.2.copied)
step_in Ready sees doc shown row cursor at copied distinct c = c
step_in Absent sees doc shown row cursor at copied distinct c = c

pub step_kept : (sees : Sees) (doc : Document) (shown : Option (List Part)) (f : Flight) → AreDistinct doc.records → IsFlight sees doc shown f → IsFlight sees doc shown (step sees doc f)
step_kept sees doc shown f distinct kept = step_in f.phase sees doc shown f.row f.cursor f.node f.copied distinct kept

lent_kept : (p : Phase) (sees : Sees) (doc : Document) (shown : Option (List Part)) (f : Flight) → f.phase ≡ p → IsFlightIn p sees doc shown f → IsFlight sees doc shown (lent_in p f)
lent_kept Seek sees doc shown f is kept = subst (λ (p : Phase). IsFlightIn p sees doc shown f) (sym is) kept
lent_kept (Found n) sees doc shown f is kept = (kept.0, kept.1, kept.2)
lent_kept Pieces sees doc shown f is kept = subst (λ (p : Phase). IsFlightIn p sees doc shown f) (sym is) kept
lent_kept Unpatch sees doc shown f is kept = subst (λ (p : Phase). IsFlightIn p sees doc shown f) (sym is) kept
lent_kept Ready sees doc shown f is kept = subst (λ (p : Phase). IsFlightIn p sees doc shown f) (sym is) kept
lent_kept Absent sees doc shown f is kept = subst (λ (p : Phase). IsFlightIn p sees doc shown f) (sym is) kept

-- each of a read's own events leaves it as it must be
pub event_kept : (sees : Sees) (doc : Document) (shown : Option (List Part)) (f : Flight) → AreDistinct doc.records → IsFlight sees doc shown f → IsFlight sees doc shown (event_of_read sees doc f)
event_kept sees doc shown f distinct kept = lent_kept (step sees doc f).phase sees doc shown (step sees doc f) refl (step_kept sees doc shown f distinct kept)

-- the first event, of a read whose view sees these parts
pub opened_kept : (sees : Sees) (doc : Document) (above older : List Entry) (v : Row) → AreDistinct doc.records → IsVisible sees doc above older v
    → IsFlight sees doc (content doc.lobs v above) (opened sees doc)
opened_kept sees doc above older v distinct visible = event_kept sees doc (content doc.lobs v above) (judging doc.row) distinct (inl (record {
  passed = [];
  rest = above;
  older = older;
  v = v;
  visible = visible;
  holds = refl;
  judged = refl;
}))

-- ---- any events

pub moved_kept : (sees : Sees) (x : Event) (old new : Document) (shown : Option (List Part)) (f : Flight) → AreDistinct old.records → Moves sees x old new
    → IsFlight sees old shown f → IsFlight sees new shown (after sees x old f)
moved_kept sees reads old new shown f distinct moves kept = subst (λ (d : Document). IsFlight sees d shown (event_of_read sees old f)) (sym moves) (event_kept sees old shown f distinct kept)
moved_kept sees (adds e) old new shown f distinct moves kept = kept_where_added sees old new e shown f moves kept
moved_kept sees (removes e) old new shown f distinct moves kept = kept_where_removed sees old new e shown f moves kept
moved_kept sees (forgets e) old new shown f distinct moves kept = kept_where_forgotten sees old new e shown f moves kept
moved_kept sees touches old new shown f distinct moves kept = kept_where_touched sees old new shown f moves kept
moved_kept sees (frees node head) old new shown f distinct moves kept = kept_where_freed sees old new node head shown f moves kept
moved_kept sees passes old new shown f distinct moves kept = kept_where_passed sees old new shown f moves kept
moved_kept sees sweeps old new shown f distinct moves kept = kept_where_swept sees old new shown f moves kept
moved_kept sees passes_by old new shown f distinct moves kept = subst (λ (d : Document). IsFlight sees d shown f) (sym moves) kept

pub all_kept : (sees : Sees) (doc : Document) (shown : Option (List Part)) (f : Flight) (xs : List (Event × Document)) → AreDistinct doc.records → AllMove sees doc xs
    → IsFlight sees doc shown f → IsFlight sees (last_of doc xs) shown (all_after sees doc xs f)
all_kept sees doc shown f [] distinct moves kept = kept
all_kept sees doc shown f (x ∷ xs) distinct moves kept =
    all_kept sees x.1 shown (after sees x.0 doc f) xs moves.1 moves.2 (moved_kept sees x.0 doc x.1 shown f distinct moves.0 kept)

ready_is : (p : Phase) (sees : Sees) (doc : Document) (shown : Option (List Part)) (f : Flight) → p ≡ Ready → IsFlightIn p sees doc shown f → shown ≡ Some f.copied
ready_is p sees doc shown f is kept = subst (λ (q : Phase). IsFlightIn q sees doc shown f) is kept

absent_is : (p : Phase) (sees : Sees) (doc : Document) (shown : Option (List Part)) (f : Flight) → p ≡ Absent → IsFlightIn p sees doc shown f → shown ≡ None
absent_is p sees doc shown f is kept = subst (λ (q : Phase). IsFlightIn q sees doc shown f) is kept

-- whatever comes between its events, a read answers what its view saw at the first of them
pub answers_view : (sees : Sees) (doc : Document) (above older : List Entry) (v : Row) (xs : List (Event × Document)) → AreDistinct doc.records → IsVisible sees doc above older v
    → AllMove sees doc xs → (g : Flight) → g ≡ all_after sees doc xs (opened sees doc)
    → (g.phase ≡ Ready → under sees doc ≡ Some g.copied) × (g.phase ≡ Absent → under sees doc ≡ None)
answers_view sees doc above older v xs distinct visible moves g is =
    let kept : IsFlight sees (last_of doc xs) (content doc.lobs v above) g =
    subst (λ (h : Flight). IsFlight sees (last_of doc xs) (content doc.lobs v above) h) (sym is)
    (all_kept sees doc (content doc.lobs v above) (opened sees doc) xs distinct moves (opened_kept sees doc above older v distinct visible)) in (
      λ ready. under_is sees doc above older v visible ∙ ready_is g.phase sees (last_of doc xs) (content doc.lobs v above) g ready kept,
      λ none. under_is sees doc above older v visible ∙ absent_is g.phase sees (last_of doc xs) (content doc.lobs v above) g none kept,
    )
