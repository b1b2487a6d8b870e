-- A read under way is kept where a record is undone and handed on to it.
use Rattle.std.proofs.Common.{◌≡◌, inl, inr, ℕ, suc, Bool, true, false, cond, List, [], ◌∷◌, ◌++◌, length, drop, map, refl, sym, ap, subst, ◌∙◌, rules}
use Rattle.std.specs.Prelude.{Option, Some, None, ◌==◌}
use Rattle.std.proofs.lemmas.Bool.{eqb-true}
use Rattle.std.proofs.lemmas.List.{append_assoc}
use Rattle.page_model.specs.Pages.{Address}
use Rattle.store_data.specs.Pieces.{Part}
use Rattle.store_model.specs.Runs.{all_laid}
use Rattle.store_data.specs.Store.{Row, live}
use Rattle.read_model.specs.Patches.{Entry, runs, back}
use Rattle.read_model.specs.Document.{Document, Sees, IsSeen, IsVisible, IsOther, content, parts_at, pieces_at}
use Rattle.read_model.specs.Flight.{Phase, Seek, Found, Pieces, Unpatch, Ready, Absent, Flight, row_behind, onward, AreFirst, IsSearchIn, IsInChain, IsCopying, IsFlightIn, IsFlight}
use Rattle.read_model.specs.Steps.{hand_on, leads_to, put}
use Rattle.read_model.specs.Events.{Removes, IsPutBack}
use Rattle.read_model.proofs.VisibleLemmas.{heads, tails, never, seen_row, seen_from, content_same, removed}
use Rattle.read_model.proofs.PartLemmas.{parts_removed, copied_removed, map_removed, search_kept}
use Rattle.read_model.proofs.EventLemmas.{true_leads, leads_true}

-- the view sees the same row behind one record less
record IsLeft (sees : Sees) (new : Document) (above older : List Entry) (e : Entry) (v : Row) (rest : List Entry) : Type 0 where
  is : above ≡ e ∷ rest
  visible : IsVisible sees new rest older v

left : (sees : Sees) (old new : Document) (e : Entry) (above older : List Entry) (v : Row) → Removes sees old new e → IsVisible sees old above older v
    → (rest : List Entry) × IsLeft sees new above older e v rest
left sees old new e above older v r visible =
    let found = removed sees old.row new.records e above older v r.unseen (sym r.records ∙ visible.records) visible.walk in (
      found.0,
      record {
        is = found.1.is;
        visible = record { records = found.1.records; walk = subst (λ (row : Row). IsSeen sees row found.0 v) (sym r.row) found.1.walk };
      },
    )

content_left : (sees : Sees) (old new : Document) (e : Entry) (above older : List Entry) (v : Row) (rest : List Entry) → Removes sees old new e
    → IsVisible sees old above older v → above ≡ e ∷ rest → content new.lobs v rest ≡ content old.lobs v above
content_left sees old new e above older v rest r visible is =
    content_same old.lobs new.lobs v above rest (λ state. parts_removed e rest v.lob.version _ _ (r.pieces above older v visible state)
    ∙ ap (λ (l : List Entry). map (back l) (parts_at old.lobs v.lob)) (sym is))

copying_left : (sees : Sees) (old new : Document) (e : Entry) (shown : List Part) (f : Flight) → Removes sees old new e → IsCopying sees old shown f
    → IsCopying sees new shown (record f { copied = map (all_laid (runs e)) f.copied })
copying_left sees old new e shown f r c =
    let each = r.pieces c.above c.older f.row c.visible c.state in
    let l = left sees old new e c.above c.older f.row r c.visible in
    record {
      above = l.0;
      older = c.older;
      visible = l.1.visible;
      state = c.state;
      holds = parts_removed e l.0 f.row.lob.version _ _ each ∙ ap (λ (es : List Entry). map (back es) (parts_at old.lobs f.row.lob)) (sym l.1.is) ∙ c.holds;
      copied = copied_removed e l.0 f.copied shown (subst (λ (es : List Entry). AreFirst es f.copied shown) l.1.is c.copied);
      search = subst (λ (n : ℕ). IsSearchIn f.row.lob.version f.node (drop n (pieces_at new.lobs f.row.lob.page))) (sym (as_many f.copied))
          (search_kept (IsPutBack (runs e) f.row.lob.version) f.row.lob.version f.node (length f.copied) _ _ (λ x y p. p.search) each c.search);
    }
  where
    as_many : (cs : List Part) → length (map (all_laid (runs e)) cs) ≡ length cs
    as_many [] = refl
    as_many (c ∷ cs) = ap suc (as_many cs)

-- ---- Seek

from_top : (sees : Sees) (old new : Document) (e : Entry) (shown : Option (List Part)) (f : Flight) (above older : List Entry) (v : Row)
    → Removes sees old new e → IsVisible sees old above older v → content old.lobs v above ≡ shown → f.row ≡ e.1.before → IsInChain sees new shown f
from_top sees old new e shown f above older v r visible holds at =
    let l = left sees old new e above older v r visible in
    record {
      passed = [];
      rest = l.0;
      older = older;
      v = v;
      visible = l.1.visible;
      holds = content_left sees old new e above older v l.0 r visible l.1.is ∙ holds;
      judged = at ∙ sym r.row;
    }

-- a newest row that the view doesn't see leads to the newest record
pub led_on : (sees : Sees) (row : Row) (left : List Entry) (e : Entry) (above older : List Entry) (v : Row) → sees row.trx ≡ false
    → e ∷ left ≡ above ++ older → IsSeen sees row above v → row.roll ≡ Some e.0
led_on sees row left e [] older v unseen records walk = absurd (never (ap (λ (r : Row). sees r.trx) walk.0 ∙ walk.1) unseen)
led_on sees row left e (x ∷ xs) older v unseen records walk = walk.1 ∙ ap (λ (y : Entry). Some y.0) (sym (heads e x left (xs ++ older) records))

seek_left : (sees : Sees) (old new : Document) (e : Entry) (shown : Option (List Part)) (f : Flight) (passed rest older : List Entry) (v : Row)
    → Removes sees old new e → IsVisible sees old (passed ++ rest) older v → content old.lobs v (passed ++ rest) ≡ shown → f.row ≡ row_behind old.row passed
    → leads_to f.row.roll e.0 ≡ false → IsInChain sees new shown f
seek_left sees old new e shown f [] rest older v r visible holds judged other =
    let roll : old.row.roll ≡ Some e.0 = led_on sees old.row new.records e rest older v r.unseen (sym r.records ∙ visible.records) visible.walk in
    absurd (never (true_leads f.row.roll e.0 (ap (λ (w : Row). w.roll) judged ∙ roll)) other)
seek_left sees old new e shown f (x ∷ ps) rest older v r visible holds judged other =
    let l = left sees old new e (x ∷ (ps ++ rest)) older v r visible in
    let same : x ≡ e = heads x e (ps ++ rest) l.0 l.1.is in
    let more : ps ++ rest ≡ l.0 = tails x e (ps ++ rest) l.0 l.1.is in
    record {
      passed = ps;
      rest = rest;
      older = older;
      v = v;
      visible = subst (λ (es : List Entry). IsVisible sees new es older v) (sym more) l.1.visible;
      holds = content_left sees old new e (x ∷ (ps ++ rest)) older v (ps ++ rest) r visible (ap (λ (y : Entry). y ∷ (ps ++ rest)) same) ∙ holds;
      judged = judged ∙ ap (λ (y : Entry). row_behind y.1.before ps) same ∙ ap (λ (w : Row). row_behind w ps) (sym r.row);
    }

seek_on : (sees : Sees) (old new : Document) (e : Entry) (shown : Option (List Part)) (row : Row) (cursor node : Option Address) (copied : List Part) (b : Bool)
    → Removes sees old new e → leads_to row.roll e.0 ≡ b
    → IsFlightIn Seek sees old shown (record { phase = Seek; row = row; cursor = cursor; node = node; copied = copied })
    → IsFlight sees new shown (cond b (record { phase = Seek; row = e.1.before; cursor = cursor; node = node; copied = copied })
    (record { phase = Seek; row = row; cursor = cursor; node = node; copied = copied }))
seek_on sees old new e shown row cursor at copied true r is (inl c) =
    inl (from_top sees old new e shown _ (c.passed ++ c.rest) c.older c.v r c.visible c.holds refl)
seek_on sees old new e shown row cursor at copied true r is (inr c) =
    inl (from_top sees old new e shown _ c.above c.older c.v r c.visible c.holds refl)
seek_on sees old new e shown row cursor at copied false r is (inl c) =
    inl (seek_left sees old new e shown _ c.passed c.rest c.older c.v r c.visible c.holds c.judged is)
seek_on sees old new e shown row cursor at copied false r is (inr c) =
    let l = left sees old new e c.above c.older c.v r c.visible in
    inr (record {
      above = l.0;
      older = c.older;
      v = c.v;
      visible = l.1.visible;
      holds = content_left sees old new e c.above c.older c.v l.0 r c.visible l.1.is ∙ c.holds;
      seen = c.seen;
      state = c.state;
      nothing = c.nothing;
    })

-- ---- Unpatch

-- of a row that the view doesn't see, the walk goes on with its record
pub onward_unseen : (sees : Sees) (v row : Row) → sees v.trx ≡ true → sees row.trx ≡ false → onward v row ≡ row.roll
onward_unseen sees v row seen unseen = by_case (row.trx == v.trx) refl
  where
    by_case : (b : Bool) → (row.trx == v.trx) ≡ b → cond b None row.roll ≡ row.roll
    by_case true is = absurd (never (ap sees (eqb-true row.trx v.trx is) ∙ seen) unseen)
    by_case false is = refl

-- at the visible row there is no record to go on with
pub onward_same : (v row : Row) → row ≡ v → onward v row ≡ None
onward_same v row is = rw is (search rules)

other_led : (records : List Entry) (a b : Address) → IsOther a records → b ≡ a → (e : Entry) (es older newer : List Entry) → records ≡ newer ++ ((e ∷ es) ++ older) → e.0 ≡ b → ⊥
other_led [] a b other is e es older newer records here = absurd (no newer records)
  where
    no : (newer : List Entry) → [] ≡ newer ++ ((e ∷ es) ++ older) → ⊥
    no [] h = cc
    no (x ∷ xs) h = cc
other_led (y ∷ ys) a b other is e es older [] records here = other.0 (ap (λ (z : Entry). z.0) (heads y e ys (es ++ older) records) ∙ here ∙ is)
other_led (y ∷ ys) a b other is e es older (x ∷ xs) records here = other_led ys a b other.1 is e es older xs (tails y x ys (xs ++ ((e ∷ es) ++ older)) records) here

putting_on : (sees : Sees) (old new : Document) (e : Entry) (shown : List Part) (row : Row) (cursor node : Option Address) (copied : List Part) (b : Bool)
    (newer rest older : List Entry) → Removes sees old new e → leads_to cursor e.0 ≡ b → IsVisible sees old (newer ++ rest) older row → row.state ≡ live
    → cursor ≡ onward row (row_behind old.row newer) → map (back rest) copied ≡ shown
    → IsFlight sees new (Some shown) (cond b (put e.1 (record { phase = Unpatch; row = row; cursor = cursor; node = node; copied = copied }))
    (record { phase = Unpatch; row = row; cursor = cursor; node = node; copied = copied }))
putting_on sees old new e shown row cursor at copied b [] [] older r is visible state here holds =
    absurd (never (seen_row sees old.row [] row visible.walk) (ap (λ (w : Row). sees w.trx) (sym visible.walk.0) ∙ r.unseen))
putting_on sees old new e shown row cursor at copied true [] (x ∷ xs) older r is visible state here holds =
    let l = left sees old new e (x ∷ xs) older row r visible in
    let same : x ≡ e = heads x e xs l.0 l.1.is in (
      shown,
      refl,
      record {
        newer = [];
        rest = xs;
        older = older;
        visible = subst (λ (es : List Entry). IsVisible sees new es older row) (sym (tails x e xs l.0 l.1.is)) l.1.visible;
        state = state;
        cursor = ap (onward row) (sym r.row);
        copied = map_removed e xs copied ∙ ap (λ (y : Entry). map (back (y ∷ xs)) copied) (sym same) ∙ holds;
      },
    )
putting_on sees old new e shown row cursor at copied false [] (x ∷ xs) older r is visible state here holds =
    let roll : old.row.roll ≡ Some e.0 = led_on sees old.row new.records e (x ∷ xs) older row r.unseen (sym r.records ∙ visible.records) visible.walk in
    absurd (never (true_leads cursor e.0 (here ∙ onward_unseen sees row old.row (seen_row sees old.row (x ∷ xs) row visible.walk) r.unseen ∙ roll)) is)
putting_on sees old new e shown row cursor at copied true (y ∷ ys) rest older r is visible state here holds =
    let l = left sees old new e (y ∷ (ys ++ rest)) older row r visible in
    let records : new.records ≡ ys ++ (rest ++ older) = l.1.visible.records ∙ ap (λ (es : List Entry). es ++ older) (sym (tails y e (ys ++ rest) l.0 l.1.is)) ∙ append_assoc ys rest older in
    absurd (passes_on rest (seen_from sees old.row (y ∷ ys) rest row visible.walk) records)
  where
    passes_on : (rest : List Entry) → IsSeen sees (row_behind y.1.before ys) rest row → new.records ≡ ys ++ (rest ++ older) → ⊥
    passes_on [] walk records =
        let none : None ≡ Some e.0 = sym (onward_same row (row_behind y.1.before ys) walk.0) ∙ sym here ∙ leads_true cursor e.0 is in
        absurd (none_some none)
      where
        none_some : {a : Address} → None ≡ Some a → ⊥
        none_some h = cc
    passes_on (x ∷ xs) walk records =
        let to : Some x.0 ≡ Some e.0 = sym (onward_unseen sees row (row_behind y.1.before ys) (seen_row sees (row_behind y.1.before ys) (x ∷ xs) row walk) walk.0 ∙ walk.1) ∙ sym here ∙ leads_true cursor e.0 is in
        other_led new.records e.0 x.0 r.other (ap (some_or e.0) to) x xs older ys records refl
      where
        some_or : Address → Option Address → Address
        some_or a None = a
        some_or a (Some b) = b
putting_on sees old new e shown row cursor at copied false (y ∷ ys) rest older r is visible state here holds =
    let l = left sees old new e (y ∷ (ys ++ rest)) older row r visible in
    let same : y ≡ e = heads y e (ys ++ rest) l.0 l.1.is in (
      shown,
      refl,
      record {
        newer = ys;
        rest = rest;
        older = older;
        visible = subst (λ (es : List Entry). IsVisible sees new es older row) (sym (tails y e (ys ++ rest) l.0 l.1.is)) l.1.visible;
        state = state;
        cursor = here ∙ ap (λ (z : Entry). onward row (row_behind z.1.before ys)) same ∙ ap (λ (w : Row). onward row (row_behind w ys)) (sym r.row);
        copied = holds;
      },
    )

-- ---- each phase

removed_in : (p : Phase) (sees : Sees) (old new : Document) (e : Entry) (shown : Option (List Part)) (row : Row) (cursor node : Option Address) (copied : List Part)
    → Removes sees old new e → IsFlightIn p sees old shown (record { phase = p; row = row; cursor = cursor; node = node; copied = copied })
    → IsFlight sees new shown (hand_on e.0 e.1 (record { phase = p; row = row; cursor = cursor; node = node; copied = copied }))
removed_in Seek sees old new e shown row cursor at copied r c = seek_on sees old new e shown row cursor at copied (leads_to row.roll e.0) r refl c
removed_in (Found n) sees old new e shown row cursor at copied r c = (c.0, c.1, copying_left sees old new e c.0 _ r c.2, c.3)
removed_in Pieces sees old new e shown row cursor at copied r c = (c.0, c.1, copying_left sees old new e c.0 _ r c.2)
removed_in Unpatch sees old new e shown row cursor at copied r c =
    subst (λ (s : Option (List Part)). IsFlight sees new s (hand_on e.0 e.1 (record { phase = Unpatch; row = row; cursor = cursor; node = at; copied = copied }))) (sym c.1)
    (putting_on sees old new e c.0 row cursor at copied (leads_to cursor e.0) c.2.newer c.2.rest c.2.older r refl c.2.visible c.2.state c.2.cursor c.2.copied)
removed_in Ready sees old new e shown row cursor at copied r c = c
removed_in Absent sees old new e shown row cursor at copied r c = c

-- a read stays as it must be where the newest record is undone and handed on to it
pub kept_where_removed : (sees : Sees) (old new : Document) (e : Entry) (shown : Option (List Part)) (f : Flight) → Removes sees old new e → IsFlight sees old shown f
    → IsFlight sees new shown (hand_on e.0 e.1 f)
kept_where_removed sees old new e shown f r kept = removed_in f.phase sees old new e shown f.row f.cursor f.node f.copied r kept
