-- LOBs that are alike but for their versions, index pages and free nodes: what may be undone of the
-- ones may be undone of the others.
use Rattle.std.proofs.Common.{◌≡◌, inl, inr, ℕ, zero, suc, ◌≤◌, Bool, true, false, ◌==◌, if◌then◌else◌, List, [], ◌∷◌, length, map, Some, None, refl, sym, ap, subst, ◌∙◌, arith}
use Rattle.std.proofs.lemmas.Bool.{eq-eqb, ne_eqb}
use Rattle.std.proofs.lemmas.Bool.Decides.{eqb_tells}
use Rattle.page_model.specs.Pages.{Address}
use Rattle.store_data.specs.Pieces.{popped}
use Rattle.store_data.specs.Store.{Row, Run, Piece, Lob, Body, inserted, rebuilt, versioned, patched, removed, Record}
use Rattle.undo_model.proofs.OptionLemmas.{some_some, not_some}
use Rattle.lob_model.specs.Begin.{HaveNoOlder}
use Rattle.lob_model.specs.Pieces.{versions}
use Rattle.store_model.specs.Lobs.{lob_of}
use Rattle.store_model.specs.Runs.{piece_laid, lobs_laid}
use Rattle.store_model.specs.Steps.{on_lob, without_lob, on_piece, at_version}
use Rattle.store_model.specs.Takes.{piece_of}
use Rattle.store_model.specs.Undo.{popped_at}
use Rattle.store_pages.specs.Runs.{LieIn}
use Rattle.store_steps.specs.Lobs.{IsSingle}
use Rattle.store_steps.specs.Reached.{AreBelow}
use Rattle.rollback.specs.Undoable.{AreLowBut, IsRaised, IsUndoable, undone_lobs, AreUndoable}

pub record IsLike (l m : Lob) : Type 0 where
  pub page : m.page ≡ l.page
  pub pieces : m.pieces ≡ l.pieces
  pub bare : (l.pieces ≡ [] → l.free ≡ []) → m.pieces ≡ [] → m.free ≡ []

abbrev pub AreLike : List Lob → List Lob → Type 0
AreLike [] [] = Unit {0}
AreLike [] (m ∷ ms) = ⊥
AreLike (l ∷ ls) [] = ⊥
AreLike (l ∷ ls) (m ∷ ms) = IsLike l m × AreLike ls ms

is_like : (l : Lob) → IsLike l l
is_like l = record { page = refl; pieces = refl; bare = λ bare. bare }

pub are_like : (ls : List Lob) → AreLike ls ls
are_like [] = tt
are_like (l ∷ ls) = (is_like l, are_like ls)

-- ---- one LOB changes

abbrev on_if : Bool → Lob → (Lob → Lob) → List Lob → List Lob → List Lob
on_if b l f ls rest = if b then f l ∷ ls else l ∷ rest

abbrev out_if : Bool → Lob → List Lob → List Lob → List Lob
out_if b l ls rest = if b then ls else l ∷ rest

like_on : (page : ℕ) (f : Lob → Lob) (ls ms : List Lob)
    → ((l m : Lob) → IsLike l m → IsLike (f l) (f m)) → AreLike ls ms
    → AreLike (on_lob page f ls) (on_lob page f ms)
like_on page f [] [] so are = tt
like_on page f [] (m ∷ ms) so are = absurd are
like_on page f (l ∷ ls) [] so are = absurd are
like_on page f (l ∷ ls) (m ∷ ms) so are =
    let same = (let like = are.0 in like.page) in
    subst (λ (n : ℕ). AreLike (on_lob page f (l ∷ ls)) (on_if (n == page) m f ms (on_lob page f ms)))
    (sym same) (by (like_on page f ls ms so are.1) (l.page == page))
  where
    by : AreLike (on_lob page f ls) (on_lob page f ms) → (b : Bool)
        → AreLike (on_if b l f ls (on_lob page f ls)) (on_if b m f ms (on_lob page f ms))
    by rest true = (so l m are.0, are.1)
    by rest false = (are.0, rest)

like_without : (page : ℕ) (ls ms : List Lob) → AreLike ls ms
    → AreLike (without_lob page ls) (without_lob page ms)
like_without page [] [] are = tt
like_without page [] (m ∷ ms) are = absurd are
like_without page (l ∷ ls) [] are = absurd are
like_without page (l ∷ ls) (m ∷ ms) are =
    let same = (let like = are.0 in like.page) in
    subst (λ (n : ℕ). AreLike (without_lob page (l ∷ ls))
    (out_if (n == page) m ms (without_lob page ms))) (sym same) (by (like_without page ls ms are.1) (l.page == page))
  where
    by : AreLike (without_lob page ls) (without_lob page ms) → (b : Bool)
        → AreLike (out_if b l ls (without_lob page ls)) (out_if b m ms (without_lob page ms))
    by rest true = are.1
    by rest false = (are.0, rest)

-- the LOB that begins in the page is changed alone
pub like_at : (page : ℕ) (f g : Lob → Lob) (ls : List Lob) (l : Lob) → lob_of ls page ≡ Some l
    → IsLike (f l) (g l) → AreLike (on_lob page f ls) (on_lob page g ls)
like_at page f g [] l found like = absurd (not_some l found)
like_at page f g (m ∷ ms) l found like = elim (eqb_tells m.page page) [
  | inl here ↦ (
      let same : m ≡ l = some_some m l (ap (λ (b : Bool). if b then Some m else lob_of ms page)
      (sym here.0) ∙ found) in
      subst (λ (b : Bool). AreLike (on_if b m f ms (on_lob page f ms)) (on_if b m g ms (on_lob page g ms)))
      (sym here.0) (subst (λ (x : Lob). IsLike (f x) (g x)) (sym same) like, are_like ms)
      )
  | inr other ↦ (
      let rest = like_at page f g ms l
      (ap (λ (b : Bool). if b then Some m else lob_of ms page) (sym other.0) ∙ found) like in
      subst (λ (b : Bool). AreLike (on_if b m f ms (on_lob page f ms)) (on_if b m g ms (on_lob page g ms)))
      (sym other.0) (is_like m, rest)
      )
]

-- a change behind another one of the same LOB
pub on_on : (page : ℕ) (f g : Lob → Lob) (ls : List Lob) → ((l : Lob) → (g l).page ≡ l.page)
    → on_lob page f (on_lob page g ls) ≡ on_lob page (λ l. f (g l)) ls
on_on page f g [] same = refl
on_on page f g (m ∷ ms) same = elim (eqb_tells m.page page) [
  | inl here ↦
      ap (λ (b : Bool). on_lob page f (on_if b m g ms (on_lob page g ms))) here.0
      ∙ (ap (λ (b : Bool). on_if b (g m) f ms (on_lob page f ms))
      (ap (λ (n : ℕ). n == page) (same m) ∙ here.0)
      ∙ ap (λ (b : Bool). on_if b m (λ l. f (g l)) ms (on_lob page (λ l. f (g l)) ms)) (sym here.0))
  | inr other ↦
      ap (λ (b : Bool). on_lob page f (on_if b m g ms (on_lob page g ms))) other.0
      ∙ (ap (λ (b : Bool). on_if b m f (on_lob page g ms) (on_lob page f (on_lob page g ms))) other.0
      ∙ (ap (λ (xs : List Lob). m ∷ xs) (on_on page f g ms same)
      ∙ ap (λ (b : Bool). on_if b m (λ l. f (g l)) ms (on_lob page (λ l. f (g l)) ms)) (sym other.0)))
]

-- and it goes as it would have gone without
pub out_on : (page : ℕ) (g : Lob → Lob) (ls : List Lob) → ((l : Lob) → (g l).page ≡ l.page)
    → without_lob page (on_lob page g ls) ≡ without_lob page ls
out_on page g [] same = refl
out_on page g (m ∷ ms) same = elim (eqb_tells m.page page) [
  | inl here ↦
      ap (λ (b : Bool). without_lob page (on_if b m g ms (on_lob page g ms))) here.0
      ∙ (ap (λ (b : Bool). out_if b (g m) ms (without_lob page ms))
      (ap (λ (n : ℕ). n == page) (same m) ∙ here.0)
      ∙ ap (λ (b : Bool). out_if b m ms (without_lob page ms)) (sym here.0))
  | inr other ↦
      ap (λ (b : Bool). without_lob page (on_if b m g ms (on_lob page g ms))) other.0
      ∙ (ap (λ (b : Bool). out_if b m (on_lob page g ms) (without_lob page (on_lob page g ms))) other.0
      ∙ (ap (λ (xs : List Lob). m ∷ xs) (out_on page g ms same)
      ∙ ap (λ (b : Bool). out_if b m ms (without_lob page ms)) (sym other.0)))
]

-- a change that is none
pub on_none : (page : ℕ) (f : Lob → Lob) (ls : List Lob) (l : Lob) → lob_of ls page ≡ Some l
    → f l ≡ l → on_lob page f ls ≡ ls
on_none page f [] l found same = absurd (not_some l found)
on_none page f (m ∷ ms) l found same = elim (eqb_tells m.page page) [
  | inl here ↦ (
      let is : m ≡ l = some_some m l (ap (λ (b : Bool). if b then Some m else lob_of ms page)
      (sym here.0) ∙ found) in
      ap (λ (b : Bool). on_if b m f ms (on_lob page f ms)) here.0
      ∙ ap (λ (x : Lob). x ∷ ms) (ap f is ∙ (same ∙ sym is))
      )
  | inr other ↦
      ap (λ (b : Bool). on_if b m f ms (on_lob page f ms)) other.0
      ∙ ap (λ (xs : List Lob). m ∷ xs) (on_none page f ms l
      (ap (λ (b : Bool). if b then Some m else lob_of ms page) (sym other.0) ∙ found) same)
]

-- ---- what is read of them

like_found : (page : ℕ) (ls ms : List Lob) (m : Lob) → AreLike ls ms → lob_of ms page ≡ Some m
    → (l : Lob) × (lob_of ls page ≡ Some l) × IsLike l m
like_found page [] [] m are found = absurd (not_some m found)
like_found page [] (n ∷ ns) m are found = absurd are
like_found page (l ∷ ls) [] m are found = absurd are
like_found page (l ∷ ls) (n ∷ ns) m are found =
    let same = (let like = are.0 in like.page) in
    by (λ e. like_found page ls ns m are.1 e) (l.page == page) refl
    (ap (λ (k : ℕ). if k == page then Some n else lob_of ns page) (sym same) ∙ found)
  where
    by : (lob_of ns page ≡ Some m → (x : Lob) × (lob_of ls page ≡ Some x) × IsLike x m)
        → (b : Bool) → (l.page == page) ≡ b → (if b then Some n else lob_of ns page) ≡ Some m
        → (x : Lob) × ((if l.page == page then Some l else lob_of ls page) ≡ Some x) × IsLike x m
    by rest true is e = (
      l,
      ap (λ (b : Bool). if b then Some l else lob_of ls page) is,
      subst (λ (x : Lob). IsLike l x) (some_some n m e) are.0,
    )
    by rest false is e =
        let r = rest e in
        (r.0, ap (λ (b : Bool). if b then Some l else lob_of ls page) is ∙ r.1, r.2)

single_like : (l m : Lob) → IsLike l m → IsSingle l → IsSingle m
single_like l m like single = record {
  older = subst HaveNoOlder (sym like.pieces) single.older;
  bare = like.bare single.bare;
}

raised_like : (touched : List ℕ) (v : ℕ) (l m : Lob) → IsLike l m → IsRaised touched v l
    → IsRaised touched v m
raised_like touched v l m like is =
    let same = sym like.pieces in
    record {
      ascending = is.ascending;
      below = subst (λ (ps : List Piece). AreBelow (length ps) touched) same is.below;
      low = subst (λ (ps : List Piece). AreLowBut None touched v ps) same is.low;
      older = λ k p here. is.older k p (ap (λ (ps : List Piece). piece_of k ps) same ∙ here);
    }

pub undoable_like : (b : Body) (before : Row) (ls ms : List Lob) → AreLike ls ms
    → IsUndoable b before ls → IsUndoable b before ms
undoable_like (inserted page) before ls ms are can = λ m found.
    let l = like_found page ls ms m are found in single_like l.0 m l.2 (can l.0 l.1)
undoable_like (rebuilt page) before ls ms are can = λ m found.
    let l = like_found page ls ms m are found in single_like l.0 m l.2 (can l.0 l.1)
undoable_like (versioned pieces touched) before ls ms are can = λ m found.
    let l = like_found before.lob.page ls ms m are found in
    raised_like touched before.lob.version l.0 m l.2 (can l.0 l.1)
undoable_like (patched old) before ls ms are can = (
  can.0,
  λ m found. (let l = like_found before.lob.page ls ms m are found in
      let like = l.2 in
      subst (λ (ps : List Piece). LieIn old (versions ps)) (sym like.pieces) (can.1 l.0 l.1)),
)
undoable_like removed before ls ms are can = tt

-- ---- once a record is undone

pub none_mapped : (f : Piece → Piece) (ps : List Piece) → map f ps ≡ [] → ps ≡ []
none_mapped f [] none = refl
none_mapped f (p ∷ ps) none = absurd (let e : f p ∷ map f ps ≡ [] = none in cc)

-- each piece is changed in the same way
like_mapped : (f : Piece → Piece) (l m : Lob) → IsLike l m
    → IsLike (record l { pieces = map f l.pieces }) (record m { pieces = map f m.pieces })
like_mapped f l m like = record {
  page = like.page;
  pieces = ap (map f) like.pieces;
  bare = λ bare none. like.bare (λ e. bare (ap (map f) e)) (none_mapped f m.pieces none);
}

like_laid : (rs : List Run) (ls ms : List Lob) → AreLike ls ms
    → AreLike (lobs_laid rs ls) (lobs_laid rs ms)
like_laid rs [] [] are = tt
like_laid rs [] (m ∷ ms) are = absurd are
like_laid rs (l ∷ ls) [] are = absurd are
like_laid rs (l ∷ ls) (m ∷ ms) are =
    (like_mapped (piece_laid rs) l m are.0, like_laid rs ls ms are.1)

version_like : (v : ℕ) (l m : Lob) → IsLike l m → IsLike (at_version v l) (at_version v m)
version_like v l m like = record { page = like.page; pieces = like.pieces; bare = like.bare }

undone_like : (b : Body) (before : Row) (ls ms : List Lob) → AreLike ls ms
    → AreLike (undone_lobs b before ls) (undone_lobs b before ms)
undone_like (inserted page) before ls ms are = like_without page ls ms are
undone_like (rebuilt page) before ls ms are = like_without page ls ms are
undone_like (versioned pieces touched) before ls ms are =
    like_on before.lob.page (at_version before.lob.version) _ _ (version_like before.lob.version)
    (like_on before.lob.page
    (λ l. record l { pieces = map (popped_at (suc before.lob.version)) l.pieces }) ls ms
    (like_mapped (popped_at (suc before.lob.version))) are)
undone_like (patched old) before ls ms are = like_laid old ls ms are
undone_like removed before ls ms are = are

pub all_like : (us : List (Address × Record)) (ls ms : List Lob) → AreLike ls ms
    → AreUndoable us ls → AreUndoable us ms
all_like [] ls ms are can = tt
all_like (u ∷ us) ls ms are can = (
  undoable_like u.1.body u.1.before ls ms are can.0,
  all_like us (undone_lobs u.1.body u.1.before ls) (undone_lobs u.1.body u.1.before ms)
      (undone_like u.1.body u.1.before ls ms are) can.1,
)

-- ---- a raised version goes

-- it goes once
pub popped_once : (k v : ℕ) (ps : List Piece) (p : Piece) → piece_of k ps ≡ Some p
    → p.head.number ≡ suc v → (popped p).head.number ≤ v
    → map (popped_at (suc v)) (on_piece k popped ps) ≡ map (popped_at (suc v)) ps
popped_once zero v [] p here up low = refl
popped_once (suc k) v [] p here up low = refl
popped_once zero v (q ∷ ps) p here up low =
    let same = some_some q p here in
    let up' : q.head.number ≡ suc v = ap (λ (x : Piece). x.head.number) same ∙ up in
    let low' = subst (λ (x : Piece). (popped x).head.number ≤ v) (sym same) low in
    ap (λ (x : Piece). x ∷ map (popped_at (suc v)) ps)
    (ap (λ (b : Bool). if b then popped (popped q) else popped q)
    (ne_eqb (popped q).head.number (suc v) (λ e. absurd (omega (arith, e, low'))))
    ∙ ap (λ (b : Bool). if b then popped q else q) (sym (eq-eqb q.head.number (suc v) up')))
popped_once (suc k) v (q ∷ ps) p here up low =
    ap (λ (xs : List Piece). popped_at (suc v) q ∷ xs) (popped_once k v ps p here up low)

pub some_on : (k : ℕ) (f : Piece → Piece) (ps : List Piece) (p : Piece) → piece_of k ps ≡ Some p
    → on_piece k f ps ≡ [] → ⊥
some_on zero f [] p here none = not_some p here
some_on (suc k) f [] p here none = not_some p here
some_on zero f (q ∷ ps) p here none = absurd (let e : f q ∷ ps ≡ [] = none in cc)
some_on (suc k) f (q ∷ ps) p here none = absurd (let e : q ∷ on_piece k f ps ≡ [] = none in cc)

-- and none is left
pub popped_none : (v : ℕ) (ps : List Piece)
    → ((k : ℕ) (p : Piece) → piece_of k ps ≡ Some p → p.head.number ≤ v)
    → map (popped_at (suc v)) ps ≡ ps
popped_none v [] low = refl
popped_none v (p ∷ ps) low =
    let here = low 0 p refl in
    ap (λ (x : Piece). x ∷ map (popped_at (suc v)) ps)
    (ap (λ (b : Bool). if b then popped p else p)
    (ne_eqb p.head.number (suc v) (λ e. absurd (omega (arith, e, here)))))
    ∙ ap (λ (xs : List Piece). p ∷ xs) (popped_none v ps (λ k q is. low (suc k) q is))
