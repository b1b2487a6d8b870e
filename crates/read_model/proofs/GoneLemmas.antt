-- A read under way is kept where no row is left of its document: an insert over a purged deletion is undone, or a deleted row is purged.
use Rattle.std.proofs.Common.{◌≡◌, ◌≢◌, inl, inr, Bool, true, false, cond, List, [], ◌∷◌, ◌++◌, refl, sym, ap, subst, ◌∙◌}
use Rattle.std.specs.Prelude.{Option, Some, None}
use Rattle.page_model.specs.Pages.{Address}
use Rattle.store_data.specs.Pieces.{Part}
use Rattle.store_data.specs.Store.{Row, live}
use Rattle.read_model.specs.Patches.{Entry}
use Rattle.read_model.specs.Document.{Document, Sees, IsVisible, content}
use Rattle.read_model.specs.Flight.{Phase, Seek, Found, Pieces, Unpatch, Ready, Absent, Flight, row_behind, IsGone, IsFlightIn, IsFlight}
use Rattle.read_model.specs.Steps.{hand_on, leads_to}
use Rattle.read_model.specs.Events.{Forgets, Sweeps, IsEmpty}
use Rattle.read_model.proofs.VisibleLemmas.{heads, tails, never, seen_at_once, seen_top, content_none, removed}
use Rattle.read_model.proofs.EventLemmas.{true_leads}
use Rattle.read_model.proofs.UndoLemmas.{led_on}

-- of an empty document every view sees nothing
gone : (sees : Sees) (new : Document) (shown : Option (List Part)) (f : Flight) → IsEmpty sees new → sees f.row.trx ≡ true → f.row.state ≢ live → shown ≡ None → IsGone sees new shown f
gone sees new shown f empty seen state nothing = record {
  above = [];
  older = new.records;
  v = new.row;
  visible = record { records = refl; walk = (refl, empty.seen) };
  holds = content_none new.lobs new.row [] empty.state ∙ sym nothing;
  seen = seen;
  state = state;
  nothing = nothing;
}

-- ---- an insert over a purged deletion is undone

visible_before : (sees : Sees) (old new : Document) (e : Entry) (above older : List Entry) (v : Row) → Forgets sees old new e → IsVisible sees old above older v
    → (above ≡ e ∷ []) × (v ≡ e.1.before)
visible_before sees old new e above older v r visible =
    let found = removed sees old.row new.records e above older v r.unseen (sym r.records ∙ visible.records) visible.walk in (
      found.1.is ∙ ap (λ (l : List Entry). e ∷ l) (seen_at_once sees e.1.before found.0 v found.1.walk r.before),
      sym (seen_top sees e.1.before found.0 v found.1.walk r.before),
    )

shown_none : (sees : Sees) (old new : Document) (e : Entry) (shown : Option (List Part)) (above older : List Entry) (v : Row) → Forgets sees old new e
    → IsVisible sees old above older v → content old.lobs v above ≡ shown → shown ≡ None
shown_none sees old new e shown above older v r visible holds =
    sym holds ∙ content_none old.lobs v above (subst (λ (w : Row). w.state ≢ live) (sym (visible_before sees old new e above older v r visible).1) r.state)

not_live : (sees : Sees) (old new : Document) (e : Entry) (above older : List Entry) (v : Row) → Forgets sees old new e → IsVisible sees old above older v → v.state ≡ live → ⊥
not_live sees old new e above older v r visible state =
    r.state (ap (λ (w : Row). w.state) (sym (visible_before sees old new e above older v r visible).1) ∙ state)

empty_both : (xs ys : List Entry) → xs ++ ys ≡ [] → xs ≡ []
empty_both [] ys e = refl
empty_both (x ∷ xs) ys e = absurd (cons_nil e)
  where
    cons_nil : x ∷ (xs ++ ys) ≡ [] → ⊥
    cons_nil h = cc

judged_before : (sees : Sees) (old new : Document) (e : Entry) (row : Row) (passed rest older : List Entry) (v : Row) → Forgets sees old new e
    → IsVisible sees old (passed ++ rest) older v → row ≡ row_behind old.row passed → leads_to row.roll e.0 ≡ false → row ≡ e.1.before
judged_before sees old new e row [] rest older v r visible judged other =
    let roll : old.row.roll ≡ Some e.0 = led_on sees old.row new.records e rest older v r.unseen (sym r.records ∙ visible.records) visible.walk in
    absurd (never (true_leads row.roll e.0 (ap (λ (w : Row). w.roll) judged ∙ roll)) other)
judged_before sees old new e row (x ∷ ps) rest older v r visible judged other =
    let is = (visible_before sees old new e (x ∷ (ps ++ rest)) older v r visible).0 in
    judged ∙ ap (λ (l : List Entry). row_behind x.1.before l) (empty_both ps rest (tails x e (ps ++ rest) [] is)) ∙ ap (λ (y : Entry). y.1.before) (heads x e (ps ++ rest) [] is)

seek_gone : (sees : Sees) (old new : Document) (e : Entry) (shown : Option (List Part)) (row : Row) (cursor at : Option Address) (copied : List Part) (b : Bool)
    → Forgets sees old new e → leads_to row.roll e.0 ≡ b
    → IsFlightIn Seek sees old shown (record { phase = Seek; row = row; cursor = cursor; node = at; copied = copied })
    → IsFlight sees new shown (cond b (record { phase = Seek; row = e.1.before; cursor = cursor; node = at; copied = copied })
    (record { phase = Seek; row = row; cursor = cursor; node = at; copied = copied }))
seek_gone sees old new e shown row cursor at copied true r is (inl c) =
    inr (gone sees new shown _ r.none r.before r.state (shown_none sees old new e shown (c.passed ++ c.rest) c.older c.v r c.visible c.holds))
seek_gone sees old new e shown row cursor at copied true r is (inr c) = inr (gone sees new shown _ r.none r.before r.state c.nothing)
seek_gone sees old new e shown row cursor at copied false r is (inl c) =
    let same : row ≡ e.1.before = judged_before sees old new e row c.passed c.rest c.older c.v r c.visible c.judged is in
    inr (gone sees new shown _ r.none (ap (λ (w : Row). sees w.trx) same ∙ r.before) (subst (λ (w : Row). w.state ≢ live) (sym same) r.state)
    (shown_none sees old new e shown (c.passed ++ c.rest) c.older c.v r c.visible c.holds))
seek_gone sees old new e shown row cursor at copied false r is (inr c) = inr (gone sees new shown _ r.none c.seen c.state c.nothing)

forgotten_in : (p : Phase) (sees : Sees) (old new : Document) (e : Entry) (shown : Option (List Part)) (row : Row) (cursor node : Option Address) (copied : List Part)
    → Forgets sees old new e → IsFlightIn p sees old shown (record { phase = p; row = row; cursor = cursor; node = node; copied = copied })
    → IsFlight sees new shown (hand_on e.0 e.1 (record { phase = p; row = row; cursor = cursor; node = node; copied = copied }))
forgotten_in Seek sees old new e shown row cursor at copied r c = seek_gone sees old new e shown row cursor at copied (leads_to row.roll e.0) r refl c
forgotten_in (Found n) sees old new e shown row cursor at copied r c = absurd (not_live sees old new e c.2.above c.2.older row r c.2.visible c.2.state)
forgotten_in Pieces sees old new e shown row cursor at copied r c = absurd (not_live sees old new e c.2.above c.2.older row r c.2.visible c.2.state)
forgotten_in Unpatch sees old new e shown row cursor at copied r c = absurd (not_live sees old new e (c.2.newer ++ c.2.rest) c.2.older row r c.2.visible c.2.state)
forgotten_in Ready sees old new e shown row cursor at copied r c = c
forgotten_in Absent sees old new e shown row cursor at copied r c = c

-- a read stays as it must be where a record is undone, no row is left, and it is handed on
pub kept_where_forgotten : (sees : Sees) (old new : Document) (e : Entry) (shown : Option (List Part)) (f : Flight) → Forgets sees old new e → IsFlight sees old shown f
    → IsFlight sees new shown (hand_on e.0 e.1 f)
kept_where_forgotten sees old new e shown f r kept = forgotten_in f.phase sees old new e shown f.row f.cursor f.node f.copied r kept

-- ---- a deleted row is purged

swept_top : (sees : Sees) (old new : Document) (above older : List Entry) (v : Row) → Sweeps sees old new → IsVisible sees old above older v → (above ≡ []) × (v ≡ old.row)
swept_top sees old new above older v r visible = (seen_at_once sees old.row above v visible.walk r.seen, sym (seen_top sees old.row above v visible.walk r.seen))

swept_live : (sees : Sees) (old new : Document) (above older : List Entry) (v : Row) → Sweeps sees old new → IsVisible sees old above older v → v.state ≡ live → ⊥
swept_live sees old new above older v r visible state = r.state (ap (λ (w : Row). w.state) (sym (swept_top sees old new above older v r visible).1) ∙ state)

swept_in : (p : Phase) (sees : Sees) (old new : Document) (shown : Option (List Part)) (f : Flight) → Sweeps sees old new → IsFlightIn p sees old shown f → IsFlightIn p sees new shown f
swept_in Seek sees old new shown f r (inl c) =
    let top = swept_top sees old new (c.passed ++ c.rest) c.older c.v r c.visible in
    let same : f.row ≡ old.row = c.judged ∙ ap (row_behind old.row) (empty_both c.passed c.rest top.0) in
    inr (gone sees new shown f r.none (ap (λ (w : Row). sees w.trx) same ∙ r.seen) (subst (λ (w : Row). w.state ≢ live) (sym same) r.state)
    (sym c.holds ∙ content_none old.lobs c.v (c.passed ++ c.rest) (subst (λ (w : Row). w.state ≢ live) (sym top.1) r.state)))
swept_in Seek sees old new shown f r (inr c) = inr (gone sees new shown f r.none c.seen c.state c.nothing)
swept_in (Found n) sees old new shown f r c = absurd (swept_live sees old new c.2.above c.2.older f.row r c.2.visible c.2.state)
swept_in Pieces sees old new shown f r c = absurd (swept_live sees old new c.2.above c.2.older f.row r c.2.visible c.2.state)
swept_in Unpatch sees old new shown f r c = absurd (swept_live sees old new (c.2.newer ++ c.2.rest) c.2.older f.row r c.2.visible c.2.state)
swept_in Ready sees old new shown f r c = c
swept_in Absent sees old new shown f r c = c

-- a read stays as it must be where a deleted row is purged
pub kept_where_swept : (sees : Sees) (old new : Document) (shown : Option (List Part)) (f : Flight) → Sweeps sees old new → IsFlight sees old shown f → IsFlight sees new shown f
kept_where_swept sees old new shown f r kept = swept_in f.phase sees old new shown f r kept
