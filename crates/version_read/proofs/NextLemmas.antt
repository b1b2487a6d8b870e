-- The record to which a read comes next is one of its document's.
use Rattle.std.proofs.Common.{◌≡◌, ◌⊎◌, inl, inr, List, [], ◌∷◌, ◌++◌, map, false, Option, Some, None, refl, sym, ap, subst, ◌∙◌, true≢false}
use Rattle.std.proofs.lemmas.List.{append_assoc}
use Rattle.page_model.specs.Pages.{Address}
use Rattle.store_data.specs.Pieces.{Part}
use Rattle.store_data.specs.Store.{Row, Record, live}
use Rattle.store_model.specs.Undo.{record_at}
use Rattle.read_model.specs.Patches.{Entry, back}
use Rattle.read_model.specs.Document.{Document, Sees, IsVisible, AreDistinct, content}
use Rattle.read_model.specs.Flight.{Phase, Seek, Unpatch, Flight, row_behind, onward, IsFlightIn, IsFlight, IsInChain, IsGone, IsPutting}
use Rattle.read_model.specs.Steps.{judging, put}
use Rattle.read_model.proofs.VisibleLemmas.{seen_from, seen_row}
use Rattle.read_model.proofs.PartLemmas.{map_removed}
use Rattle.read_model.proofs.UndoLemmas.{onward_unseen, onward_same}
use Rattle.read_model.proofs.SeekLemmas.{record_found, behind_last}
use Rattle.version_read.specs.Next.{NextIn}

same_in : {A : Type 0} {x y : A} → Some x ≡ Some y → x ≡ y
same_in e = cc e

none_in : {A : Type 0} (x : A) → (let n : Option A = None in n) ≡ Some x → ⊥
none_in x e = cc e

found_by : (doc : Document) (passed es older : List Entry) (e : Entry) (a : Address)
    → AreDistinct doc.records → doc.records ≡ (passed ++ (e ∷ es)) ++ older → e.0 ≡ a
    → record_at doc.records a ≡ Some e.1
found_by doc passed es older e a distinct is same =
    let records : doc.records ≡ passed ++ (e ∷ (es ++ older)) =
    is ∙ append_assoc passed (e ∷ es) older in
    ap (record_at doc.records) (sym same) ∙ ap (λ (l : List Entry). record_at l e.0) records
    ∙ record_found passed e (es ++ older) (subst AreDistinct records distinct)

walk_next : (sees : Sees) (doc : Document) (parts : List Part) (f : Flight)
    (newer rest older : List Entry) → AreDistinct doc.records
    → IsVisible sees doc (newer ++ rest) older f.row → f.row.state ≡ live
    → f.cursor ≡ onward f.row (row_behind doc.row newer) → map (back rest) f.copied ≡ parts
    → (a : Address) → f.cursor ≡ Some a
    → (r : Record) × (record_at doc.records a ≡ Some r) × IsPutting sees doc parts (put r f)
walk_next sees doc parts f newer [] older distinct visible state cursor copied a leads =
    let along = seen_from sees doc.row newer [] f.row visible.walk in
    absurd (none_in a (sym (onward_same f.row (row_behind doc.row newer) along.0) ∙ sym cursor
    ∙ leads))
walk_next sees doc parts f newer (e ∷ es) older distinct visible state cursor copied a leads =
    let along = seen_from sees doc.row newer (e ∷ es) f.row visible.walk in
    let seen = seen_row sees (row_behind doc.row newer) (e ∷ es) f.row along in
    let here : f.cursor ≡ Some e.0 =
    cursor ∙ onward_unseen sees f.row (row_behind doc.row newer) seen along.0 ∙ along.1 in
    let join : (newer ++ (e ∷ [])) ++ es ≡ newer ++ (e ∷ es) = append_assoc newer (e ∷ []) es in (
      e.1,
      found_by doc newer es older e a distinct visible.records (same_in (sym here ∙ leads)),
      record {
        newer = newer ++ (e ∷ []);
        rest = es;
        older = older;
        visible = subst (λ (l : List Entry). IsVisible sees doc l older f.row) (sym join) visible;
        state = state;
        cursor = ap (onward f.row) (sym (behind_last doc.row newer e));
        copied = map_removed e es f.copied ∙ copied;
      },
    )

pub next_of_walk : (sees : Sees) (doc : Document) (shown : Option (List Part)) (f : Flight)
    → AreDistinct doc.records → f.phase ≡ Unpatch → IsFlight sees doc shown f
    → (a : Address) → f.cursor ≡ Some a → NextIn sees doc shown a (λ r. put r f)
next_of_walk sees doc shown f distinct phase flight a leads =
    let c = subst (λ (p : Phase). IsFlightIn p sees doc shown f) phase flight in
    let s = c.2 in
    let n = walk_next sees doc c.0 f s.newer s.rest s.older distinct s.visible s.state s.cursor
    s.copied a leads in
    record {
      r = n.0;
      found = n.1;
      kept = subst (λ (p : Phase). IsFlightIn p sees doc shown (put n.0 f)) (sym phase)
          (c.0, c.1, n.2);
    }

seek_next : (sees : Sees) (doc : Document) (shown : Option (List Part)) (row : Row)
    (passed rest older : List Entry) (v : Row) → AreDistinct doc.records
    → IsVisible sees doc (passed ++ rest) older v → content doc.lobs v (passed ++ rest) ≡ shown
    → row ≡ row_behind doc.row passed → sees row.trx ≡ false
    → (r : Record) × (a : Address) × (row.roll ≡ Some a) × (record_at doc.records a ≡ Some r)
    × IsFlight sees doc shown (judging r.before)
seek_next sees doc shown row passed [] older v distinct visible holds judged unseen =
    let walk = seen_from sees doc.row passed [] v visible.walk in
    absurd (true≢false (sym walk.1 ∙ ap (λ (w : Row). sees w.trx) (sym (judged ∙ walk.0)) ∙ unseen))
seek_next sees doc shown row passed (e ∷ es) older v distinct visible holds judged unseen =
    let walk = seen_from sees doc.row passed (e ∷ es) v visible.walk in
    let join : (passed ++ (e ∷ [])) ++ es ≡ passed ++ (e ∷ es) = append_assoc passed (e ∷ []) es in (
      e.1,
      e.0,
      ap (λ (w : Row). w.roll) judged ∙ walk.1,
      found_by doc passed es older e e.0 distinct visible.records refl,
      inl (record {
        passed = passed ++ (e ∷ []);
        rest = es;
        older = older;
        v = v;
        visible = subst (λ (l : List Entry). IsVisible sees doc l older v) (sym join) visible;
        holds = ap (content doc.lobs v) join ∙ holds;
        judged = sym (behind_last doc.row passed e);
      }),
    )

-- the row that is judged came by a record
pub next_of_seek : (sees : Sees) (doc : Document) (shown : Option (List Part)) (f : Flight)
    → AreDistinct doc.records → f.phase ≡ Seek → IsFlight sees doc shown f
    → sees f.row.trx ≡ false
    → (a : Address) × (f.row.roll ≡ Some a)
    × NextIn sees doc shown a (λ r. judging r.before)
next_of_seek sees doc shown f distinct phase flight unseen =
    by (subst (λ (p : Phase). IsFlightIn p sees doc shown f) phase flight)
  where
    by : IsInChain sees doc shown f ⊎ IsGone sees doc shown f
        → (a : Address) × (f.row.roll ≡ Some a)
        × NextIn sees doc shown a (λ r. judging r.before)
    by (inl s) =
        let n = seek_next sees doc shown f.row s.passed s.rest s.older s.v distinct s.visible
        s.holds s.judged unseen in
        (n.1, n.2, record { r = n.0; found = n.3; kept = n.4 })
    by (inr gone) = absurd (true≢false (sym gone.seen ∙ unseen))
