-- A change that is made: its record may be undone, and the older ones behind it.
use Rattle.std.proofs.Common.{◌≡◌, ◌≢◌, ◌⊎◌, inl, inr, ℕ, zero, suc, ◌≤◌, Bool, if◌then◌else◌, List, [], ◌∷◌, ◌++◌, length, map, Option, Some, None, refl, sym, ap, subst, ◌∙◌, arith}
use Rattle.std.proofs.lemmas.Bool.{cases_eq, eq-eqb, ne_eqb}
use Rattle.std.proofs.lemmas.Bool.Decides.{eqb_tells}
use Rattle.page_model.specs.Pages.{Address}
use Rattle.page_model.specs.Steps.{different}
use Rattle.store_data.specs.Pieces.{pushed, popped}
use Rattle.store_data.specs.Store.{Run, Version, Piece, Lob, Body, inserted, rebuilt, versioned, patched, removed, Record}
use Rattle.undo_model.proofs.OptionLemmas.{some_some, not_some}
use Rattle.lob_model.specs.Begin.{HaveNoOlder}
use Rattle.lob_model.specs.Pieces.{versions}
use Rattle.store_model.specs.Keeps.{Makes}
use Rattle.store_model.specs.Lobs.{lob_of}
use Rattle.store_model.specs.Moves.{ArePaired, StandThere}
use Rattle.store_model.specs.Runs.{lob_laid, lobs_laid}
use Rattle.store_model.specs.Steps.{on_lob, without_lob, on_piece, at_piece, at_version, with_piece, with_nodes}
use Rattle.store_model.specs.Takes.{piece_of}
use Rattle.store_model.specs.Undo.{popped_at}
use Rattle.store_model.specs.Versions.{AreUpTo}
use Rattle.store_model.proofs.ChangeLemmas.{lobs_taken_back}
use Rattle.store_pages.specs.Runs.{LieIn}
use Rattle.store_pages.proofs.LaidLemmas.{versions_laid, lie_laid}
use Rattle.store_steps.specs.Lobs.{IsSingle}
use Rattle.store_steps.specs.Reached.{AreBelow}
use Rattle.store_steps.proofs.KeptLemmas.{found_before, length_on}
use Rattle.store_steps.specs.Runs.{run_pages}
use Rattle.rollback.specs.Undoable.{IsToCome, AreAscending, IsRaised, InLob, IsUndoable, undone_lobs, AreUndoable}
use Rattle.rollback.proofs.LikeLemmas.{IsLike, AreLike, like_at, on_on, out_on, on_none, none_mapped, all_like, popped_none, some_on}
use Rattle.rollback.proofs.WalkLemmas.{piece_other, piece_this, up_at}

module _ (u : Address × Record) (us : List (Address × Record)) where
  as_body : (b : Body) (lobs : List Lob) → u.1.body ≡ b → IsUndoable b u.1.before lobs
      → AreUndoable us (undone_lobs b u.1.before lobs) → AreUndoable (u ∷ us) lobs
  as_body b lobs body can all =
      subst (λ (x : Body). IsUndoable x u.1.before lobs
      × AreUndoable us (undone_lobs x u.1.before lobs)) (sym body) (can, all)

  by_body : (b : Body) (lobs : List Lob) → u.1.body ≡ b → AreUndoable (u ∷ us) lobs
      → IsUndoable b u.1.before lobs × AreUndoable us (undone_lobs b u.1.before lobs)
  by_body b lobs body all = subst (λ (x : Body). IsUndoable x u.1.before lobs
      × AreUndoable us (undone_lobs x u.1.before lobs)) body all

-- ---- a new LOB, behind the others

out_last : (lobs : List Lob) (l : Lob) → lob_of lobs l.page ≡ None
    → without_lob l.page (lobs ++ l ∷ []) ≡ lobs
out_last [] l none = ap (λ (b : Bool). let xs : List Lob = if b then [] else l ∷ [] in xs)
    (eq-eqb l.page l.page refl)
out_last (m ∷ ms) l none = elim (eqb_tells m.page l.page) [
  | inl here ↦ absurd (not_some m (sym none
      ∙ ap (λ (b : Bool). if b then Some m else lob_of ms l.page) here.0))
  | inr other ↦
      ap (λ (b : Bool). if b then ms ++ l ∷ [] else m ∷ without_lob l.page (ms ++ l ∷ [])) other.0
      ∙ ap (λ (xs : List Lob). m ∷ xs) (out_last ms l
      (ap (λ (b : Bool). if b then Some m else lob_of ms l.page) (sym other.0) ∙ none))
]

found_last : (lobs : List Lob) (l m : Lob) → lob_of lobs l.page ≡ None
    → lob_of (lobs ++ l ∷ []) l.page ≡ Some m → l ≡ m
found_last [] l m none found = some_some l m
    (ap (λ (b : Bool). let o : Option Lob = if b then Some l else None in o)
    (sym (eq-eqb l.page l.page refl)) ∙ found)
found_last (n ∷ ns) l m none found = elim (eqb_tells n.page l.page) [
  | inl here ↦ absurd (not_some n (sym none
      ∙ ap (λ (b : Bool). if b then Some n else lob_of ns l.page) here.0))
  | inr other ↦ found_last ns l m
      (ap (λ (b : Bool). if b then Some n else lob_of ns l.page) (sym other.0) ∙ none)
      (ap (λ (b : Bool). if b then Some n else lob_of (ns ++ l ∷ []) l.page) (sym other.0) ∙ found)
]

pub insert_undoable : (u : Address × Record) (us : List (Address × Record)) (l : Lob)
    (lobs : List Lob) → u.1.body ≡ inserted l.page → lob_of lobs l.page ≡ None → IsSingle l
    → AreUndoable us lobs → AreUndoable (u ∷ us) (lobs ++ l ∷ [])
insert_undoable u us l lobs body none single all =
    as_body u us (inserted l.page) (lobs ++ l ∷ []) body
    (λ m found. subst IsSingle (found_last lobs l m none found) single)
    (subst (AreUndoable us) (sym (out_last lobs l none)) all)

pub rebuild_undoable : (u : Address × Record) (us : List (Address × Record)) (l : Lob)
    (lobs : List Lob) → u.1.body ≡ rebuilt l.page → lob_of lobs l.page ≡ None → IsSingle l
    → AreUndoable us lobs → AreUndoable (u ∷ us) (lobs ++ l ∷ [])
rebuild_undoable u us l lobs body none single all =
    as_body u us (rebuilt l.page) (lobs ++ l ∷ []) body
    (λ m found. subst IsSingle (found_last lobs l m none found) single)
    (subst (AreUndoable us) (sym (out_last lobs l none)) all)

-- ---- a piece more

older_behind : (ps : List Piece) (p : Piece) → HaveNoOlder ps → p.older ≡ []
    → HaveNoOlder (ps ++ p ∷ [])
older_behind [] p none bare = (bare, tt)
older_behind (q ∷ ps) p none bare = (none.0, older_behind ps p none.1 bare)

some_behind : (ps : List Piece) (p : Piece) → ps ++ p ∷ [] ≡ [] → ⊥
some_behind [] p none = absurd (let e : p ∷ [] ≡ [] = none in cc)
some_behind (q ∷ ps) p none = absurd (let e : q ∷ (ps ++ p ∷ []) ≡ [] = none in cc)

module _ (u : Address × Record) (us : List (Address × Record)) (p : Piece) (index : List ℕ)
    (free : List Address) (lobs : List Lob) (bare : p.older ≡ []) where
  abbrev grown : Lob → Lob
  grown l = with_nodes index free (with_piece p l)

  single_grown : (page : ℕ) → InLob page lobs IsSingle → InLob page (on_lob page grown lobs) IsSingle
  single_grown page can m found =
      let b = found_before page grown lobs m (λ l. refl) found in
      let l = b.0 in
      let single = can l b.1 in
      subst IsSingle b.2 (record {
        older = older_behind l.pieces p single.older bare;
        bare = λ none. absurd (some_behind l.pieces p none);
      })

  grown_undoable : (b : Body) (page : ℕ) → u.1.body ≡ b → Makes page b → AreUndoable (u ∷ us) lobs
      → AreUndoable (u ∷ us) (on_lob page grown lobs)
  grown_undoable (inserted q) page body makes all =
      let was = by_body u us (inserted q) lobs body all in
      subst (λ (n : ℕ). AreUndoable (u ∷ us) (on_lob n grown lobs)) makes
      (as_body u us (inserted q) (on_lob q grown lobs) body (single_grown q was.0)
      (subst (AreUndoable us) (sym (out_on q grown lobs (λ l. refl))) was.1))
  grown_undoable (rebuilt q) page body makes all =
      let was = by_body u us (rebuilt q) lobs body all in
      subst (λ (n : ℕ). AreUndoable (u ∷ us) (on_lob n grown lobs)) makes
      (as_body u us (rebuilt q) (on_lob q grown lobs) body (single_grown q was.0)
      (subst (AreUndoable us) (sym (out_on q grown lobs (λ l. refl))) was.1))
  grown_undoable (versioned n ks) page body makes all = absurd makes
  grown_undoable (patched old) page body makes all = absurd makes
  grown_undoable removed page body makes all = absurd makes

pub piece_undoable : (u : Address × Record) (us : List (Address × Record)) (page : ℕ) (p : Piece)
    (index : List ℕ) (free : List Address) (lobs : List Lob) → Makes page u.1.body → p.older ≡ []
    → AreUndoable (u ∷ us) lobs
    → AreUndoable (u ∷ us) (on_lob page (λ l. with_nodes index free (with_piece p l)) lobs)
piece_undoable u us page p index free lobs makes bare all =
    grown_undoable u us p index free lobs bare u.1.body page refl makes all

-- ---- versions

-- a version that is pushed goes when the record is undone
pushed_once : (k v : ℕ) (node : Address) (x : Version) (ps : List Piece) (p : Piece)
    → piece_of k ps ≡ Some p → p.head.number ≤ v → x.number ≡ suc v
    → map (popped_at (suc v)) (on_piece k (pushed node x) ps) ≡ map (popped_at (suc v)) ps
pushed_once zero v node x [] p here low is = refl
pushed_once (suc k) v node x [] p here low is = refl
pushed_once zero v node x (q ∷ ps) p here low is =
    let same = some_some q p here in
    let low' = subst (λ (y : Piece). y.head.number ≤ v) (sym same) low in
    ap (λ (y : Piece). y ∷ map (popped_at (suc v)) ps)
    (ap (λ (b : Bool). if b then popped (pushed node x q) else pushed node x q)
    (eq-eqb x.number (suc v) is)
    ∙ ap (λ (b : Bool). if b then popped q else q)
    (sym (ne_eqb q.head.number (suc v) (λ e. absurd (omega (arith, e, low'))))))
pushed_once (suc k) v node x (q ∷ ps) p here low is =
    ap (λ (ys : List Piece). popped_at (suc v) q ∷ ys) (pushed_once k v node x ps p here low is)

module _ (u : Address × Record) (us : List (Address × Record)) (n : ℕ) (touched : List ℕ)
    (body : u.1.body ≡ versioned n touched) (lobs : List Lob) (l : Lob)
    (found : lob_of lobs u.1.before.lob.page ≡ Some l) where
  abbrev page : ℕ
  page = u.1.before.lob.page

  abbrev v : ℕ
  v = u.1.before.lob.version

  abbrev undone : Lob → Lob
  undone m = at_version v (record m { pieces = map (popped_at (suc v)) m.pieces })

  -- the LOBs, once the record is undone behind a change of that LOB
  undone_on : (f : Lob → Lob) → ((m : Lob) → (f m).page ≡ m.page)
      → undone_lobs (versioned n touched) u.1.before (on_lob page f lobs)
      ≡ on_lob page (λ m. undone (f m)) lobs
  undone_on f same =
      let e : Lob → Lob = λ m. record m { pieces = map (popped_at (suc v)) m.pieces } in
      ap (on_lob page (at_version v)) (on_on page e f lobs same)
      ∙ on_on page (at_version v) (λ m. e (f m)) lobs same

  pub raise_undoable : (w : ℕ) → AreUpTo v l.pieces → AreAscending touched
      → AreBelow (length l.pieces) touched → AreUndoable us lobs
      → AreUndoable (u ∷ us) (on_lob page (at_version w) lobs)
  raise_undoable w up ascending below all =
      let f = at_version w in
      let low = popped_none v l.pieces (λ k p here. up_at v k l.pieces p up here) in
      let raised : IsRaised touched v (f l) = record {
        ascending = ascending;
        below = below;
        low = λ k p here. inl (up_at v k l.pieces p up here);
        older = λ k p here is. absurd (let h = up_at v k l.pieces p up here in omega (arith, h, is));
      } in
      let like : IsLike l (undone (f l)) =
      record { page = refl; pieces = low; bare = λ bare none. bare (sym low ∙ none) } in
      let alike : AreLike lobs (undone_lobs (versioned n touched) u.1.before (on_lob page f lobs)) =
      subst (AreLike lobs) (sym (undone_on f (λ m. refl)))
      (subst (λ (xs : List Lob). AreLike xs (on_lob page (λ m. undone (f m)) lobs))
      (on_none page (λ m. m) lobs l found refl)
      (like_at page (λ m. m) (λ m. undone (f m)) lobs l found like)) in
      as_body u us (versioned n touched) (on_lob page f lobs) body
      (λ m there. (let b = found_before page f lobs m (λ m. refl) there in
      subst (IsRaised touched v) (ap f (some_some l b.0 (sym found ∙ b.1)) ∙ b.2) raised))
      (all_like us lobs _ alike all)

  pub push_undoable : (k : ℕ) (p : Piece) (node : Address) (x : Version) (index : List ℕ)
      (free : List Address) → piece_of k l.pieces ≡ Some p → p.head.number ≤ v → x.number ≡ suc v
      → IsToCome None k touched → AreUndoable (u ∷ us) lobs → AreUndoable (u ∷ us)
      (on_lob page (λ m. with_nodes index free (at_piece k (pushed node x) m)) lobs)
  push_undoable k p node x index free here low is come all =
      let f : Lob → Lob = λ m. with_nodes index free (at_piece k (pushed node x) m) in
      let was = by_body u us (versioned n touched) lobs body all in
      let raised = was.0 l found in
      let raised' : IsRaised touched v (f l) = record {
        ascending = raised.ascending;
        below = subst (λ (q : ℕ). AreBelow q touched) (sym (length_on k (pushed node x) l.pieces))
            raised.below;
        low = λ i q at. low_in i q at (cases_eq i k);
        older = λ i q at up. older_in i q at up (cases_eq i k);
      } in
      let like : IsLike (undone l) (undone (f l)) = record {
        page = refl;
        pieces = pushed_once k v node x l.pieces p here low is;
        bare = λ bare none. absurd (some_on k (pushed node x) l.pieces p here
            (none_mapped (popped_at (suc v)) (on_piece k (pushed node x) l.pieces) none));
      } in
      let alike : AreLike (undone_lobs (versioned n touched) u.1.before lobs)
      (undone_lobs (versioned n touched) u.1.before (on_lob page f lobs)) =
      subst (AreLike (undone_lobs (versioned n touched) u.1.before lobs))
      (sym (undone_on f (λ m. refl)))
      (subst (λ (xs : List Lob). AreLike xs (on_lob page (λ m. undone (f m)) lobs))
      (sym (on_on page (at_version v) (λ m. record m { pieces = map (popped_at (suc v)) m.pieces }) lobs
      (λ m. refl)))
      (like_at page undone (λ m. undone (f m)) lobs l found like)) in
      as_body u us (versioned n touched) (on_lob page f lobs) body
      (λ m there. (let b = found_before page f lobs m (λ m. refl) there in
      subst (IsRaised touched v) (ap f (some_some l b.0 (sym found ∙ b.1)) ∙ b.2) raised'))
      (all_like us _ _ alike was.1)
    where
      before : IsRaised touched v l
      before = (by_body u us (versioned n touched) lobs body all).0 l found

      low_in : (i : ℕ) (q : Piece) → piece_of i (on_piece k (pushed node x) l.pieces) ≡ Some q
          → (i ≡ k) ⊎ (i ≢ k) → (q.head.number ≤ v) ⊎ IsToCome None i touched
      low_in i q at (inl same) = inr (subst (λ (m : ℕ). IsToCome None m touched) (sym same) come)
      low_in i q at (inr other) = (let r = before in r.low i q
          (sym (piece_other i k (pushed node x) l.pieces other) ∙ at))

      older_in : (i : ℕ) (q : Piece) → piece_of i (on_piece k (pushed node x) l.pieces) ≡ Some q
          → q.head.number ≡ suc v → (i ≡ k) ⊎ (i ≢ k) → q.older ≢ []
      older_in i q at up (inl same) =
          let t = piece_this k (pushed node x) l.pieces q
          (ap (λ (m : ℕ). piece_of m (on_piece k (pushed node x) l.pieces)) (sym same) ∙ at) in
          λ none. not_pushed t.0 (ap (λ (y : Piece). y.older) t.2 ∙ none)
        where
          not_pushed : (y : Piece) → (pushed node x y).older ≡ [] → ⊥
          not_pushed y e = cc e
      older_in i q at up (inr other) = (let r = before in r.older i q
          (sym (piece_other i k (pushed node x) l.pieces other) ∙ at) up)

-- ---- a change in place, and a deletion

laid_before : (rs : List Run) (page : ℕ) (lobs : List Lob) (m : Lob)
    → lob_of (lobs_laid rs lobs) page ≡ Some m
    → (l : Lob) × (lob_of lobs page ≡ Some l) × (lob_laid rs l ≡ m)
laid_before rs page [] m found = absurd (not_some m found)
laid_before rs page (l ∷ ls) m found = elim (eqb_tells l.page page) [
  | inl here ↦ (
    l,
    ap (λ (b : Bool). if b then Some l else lob_of ls page) here.0,
    some_some (lob_laid rs l) m
        (ap (λ (b : Bool). if b then Some (lob_laid rs l) else lob_of (lobs_laid rs ls) page)
        (sym here.0) ∙ found),
  )
  | inr other ↦ (
      let r = laid_before rs page ls m
      (ap (λ (b : Bool). if b then Some (lob_laid rs l) else lob_of (lobs_laid rs ls) page)
      (sym other.0) ∙ found) in
      (r.0, ap (λ (b : Bool). if b then Some l else lob_of ls page) other.0 ∙ r.1, r.2)
      )
]

pub patch_undoable : (u : Address × Record) (us : List (Address × Record)) (old fresh : List Run)
    (lobs : List Lob) → u.1.body ≡ patched old → ArePaired old fresh → StandThere old lobs
    → different (run_pages old) ≤ 4
    → InLob u.1.before.lob.page lobs (λ l. LieIn old (versions l.pieces))
    → AreUndoable us lobs → AreUndoable (u ∷ us) (lobs_laid fresh lobs)
patch_undoable u us old fresh lobs body paired there few lie all =
    as_body u us (patched old) (lobs_laid fresh lobs) body (
      few,
      λ m found. (let b = laid_before fresh u.1.before.lob.page lobs m found in
          let l = b.0 in
          subst (λ (x : Lob). LieIn old (versions x.pieces)) b.2
          (subst (LieIn old) (sym (versions_laid fresh l.pieces))
          (lie_laid old fresh (versions l.pieces) (lie l b.1)))),
    )
    (subst (AreUndoable us) (sym (lobs_taken_back old fresh lobs paired there)) all)

pub delete_undoable : (u : Address × Record) (us : List (Address × Record)) (lobs : List Lob)
    → u.1.body ≡ removed → AreUndoable us lobs → AreUndoable (u ∷ us) lobs
delete_undoable u us lobs body all = as_body u us removed lobs body tt all
