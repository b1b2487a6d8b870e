-- What each change of LOBs leaves of a piece at a version, and of a search in it.
use Rattle.std.proofs.Common.{◌≡◌, ◌≢◌, inl, inr, ℕ, Bool, true, false, cond, List, [], ◌∷◌, ◌++◌, map, refl, sym, ap, subst, ◌∙◌}
use Rattle.std.specs.Prelude.{Some, None, nat_le, ◌==◌}
use Rattle.std.proofs.lemmas.Bool.{eqb-true}
use Rattle.page_model.specs.Pages.{Address}
use Rattle.store_data.specs.Pieces.{Part, part_of, version_at}
use Rattle.store_data.specs.Store.{Run, Version, Piece, Lob}
use Rattle.store_model.specs.Lobs.{lob_of, pieces_of}
use Rattle.store_model.specs.Runs.{laid, all_laid, bytes_laid, version_laid, piece_laid, lob_laid, lobs_laid}
use Rattle.store_model.specs.Steps.{on_lob, without_lob}
use Rattle.read_model.specs.Patches.{AreAtSamePlaces}
use Rattle.read_model.specs.Document.{part_or, part_at, pieces_at}
use Rattle.read_model.specs.Flight.{Stands}
use Rattle.read_model.specs.Events.{LeadsBack, IsPutBack, IsSame, EachPiece}
use Rattle.read_model.proofs.PatchLemmas.{laid_page, laid_at}
use Rattle.read_model.proofs.BackLemmas.{part_equal, laid_over}
use Rattle.read_model.proofs.VisibleLemmas.{heads, tails}

-- ---- runs laid over LOBs

laid_part : (rs : List Run) (x : Version) → part_of (version_laid rs x) ≡ all_laid rs (part_of x)
laid_part rs x = part_equal _ _ (sym (laid_page rs (part_of x))) (sym (laid_at rs (part_of x))) refl

-- runs leave the part of no version
pub laid_none : (rs : List Run) → all_laid rs (part_or None) ≡ part_or None
laid_none [] = refl
laid_none (r ∷ rs) = ap (all_laid rs) (part_equal (laid r (part_or None)) (part_or None) refl refl (by_case (0 == r.page))) ∙ laid_none rs
  where
    by_case : (b : Bool) → cond b (bytes_laid r 0 []) [] ≡ []
    by_case true = refl
    by_case false = refl

laid_at_version : (rs : List Run) (v : ℕ) (xs : List Version) → part_or (version_at (map (version_laid rs) xs) v) ≡ all_laid rs (part_or (version_at xs v))
laid_at_version rs v [] = sym (laid_none rs)
laid_at_version rs v (x ∷ xs) = by_case (nat_le x.number v) (laid_at_version rs v xs)
  where
    by_case : (b : Bool) → part_or (version_at (map (version_laid rs) xs) v) ≡ all_laid rs (part_or (version_at xs v))
        → part_or (cond b (Some (version_laid rs x)) (version_at (map (version_laid rs) xs) v)) ≡ all_laid rs (part_or (cond b (Some x) (version_at xs v)))
    by_case true rest = laid_part rs x
    by_case false rest = rest

pub part_laid : (rs : List Run) (v : ℕ) (p : Piece) → part_at v (piece_laid rs p) ≡ all_laid rs (part_at v p)
part_laid rs v p = laid_at_version rs v (p.head ∷ p.older)

laid_stands : (rs : List Run) (v : ℕ) (a : Address) (xs : List Version) → Stands v a xs → Stands v a (map (version_laid rs) xs)
laid_stands rs v a [] stands = stands
laid_stands rs v a (x ∷ xs) (inl here) = inl here
laid_stands rs v a (x ∷ xs) (inr later) = inr (later.0, laid_stands rs v a xs later.1)

pub pieces_laid : (rs : List Run) (lobs : List Lob) (page : ℕ) → pieces_at (lobs_laid rs lobs) page ≡ map (piece_laid rs) (pieces_at lobs page)
pieces_laid rs [] page = refl
pieces_laid rs (l ∷ ls) page = by_case (l.page == page) (pieces_laid rs ls page)
  where
    by_case : (b : Bool) → pieces_at (lobs_laid rs ls) page ≡ map (piece_laid rs) (pieces_at ls page)
        → pieces_of (cond b (Some (lob_laid rs l)) (lob_of (lobs_laid rs ls) page)) ≡ map (piece_laid rs) (pieces_of (cond b (Some l) (lob_of ls page)))
    by_case true rest = refl
    by_case false rest = rest

each_laid : (rs : List Run) (v : ℕ) (ps : List Piece) → EachPiece (IsPutBack rs v) ps (map (piece_laid rs) ps)
each_laid rs v [] = tt
each_laid rs v (p ∷ ps) = (record { part = part_laid rs v p; search = λ a stands. laid_stands rs v a (p.head ∷ p.older) stands }, each_laid rs v ps)

-- old bytes are put back in all LOBs
pub put_back_in_lobs : (old : List Run) (lobs : List Lob) (page v : ℕ) → EachPiece (IsPutBack old v) (pieces_at lobs page) (pieces_at (lobs_laid old lobs) page)
put_back_in_lobs old lobs page v = subst (EachPiece (IsPutBack old v) (pieces_at lobs page)) (sym (pieces_laid old lobs page)) (each_laid old v (pieces_at lobs page))

each_leads : (old new : List Run) (v : ℕ) (ps : List Piece) → AreAtSamePlaces old new → map (piece_laid old) ps ≡ ps → EachPiece (LeadsBack old v) ps (map (piece_laid new) ps)
each_leads old new v [] same stand = tt
each_leads old new v (p ∷ ps) same stand = (
  record {
    part = ap (all_laid old) (part_laid new v p) ∙ laid_over old new (part_at v p) same ∙ sym (part_laid old v p) ∙ ap (part_at v) (heads _ _ _ _ stand);
    search = λ a stands. laid_stands new v a (p.head ∷ p.older) stands;
  },
  each_leads old new v ps same (tails _ _ _ _ stand),
)

-- new bytes are written over old ones that stand there
pub written_in_lobs : (old new : List Run) (lobs : List Lob) (page v : ℕ) → AreAtSamePlaces old new → lobs_laid old lobs ≡ lobs
    → EachPiece (LeadsBack old v) (pieces_at lobs page) (pieces_at (lobs_laid new lobs) page)
written_in_lobs old new lobs page v same stand =
    subst (EachPiece (LeadsBack old v) (pieces_at lobs page)) (sym (pieces_laid new lobs page))
    (each_leads old new v (pieces_at lobs page) same (sym (pieces_laid old lobs page) ∙ ap (λ (ls : List Lob). pieces_at ls page) stand))

each_back : (old new : List Run) (v : ℕ) (ps : List Piece) → map (piece_laid old) (map (piece_laid new) ps) ≡ ps → EachPiece (LeadsBack old v) ps (map (piece_laid new) ps)
each_back old new v [] back = tt
each_back old new v (p ∷ ps) back = (
  record {
    part = sym (part_laid old v (piece_laid new p)) ∙ ap (part_at v) (heads _ _ _ _ back);
    search = λ a stands. laid_stands new v a (p.head ∷ p.older) stands;
  },
  each_back old new v ps (tails _ _ _ _ back),
)

-- new bytes are written, and the old ones lead back
pub back_in_lobs : (old new : List Run) (lobs : List Lob) (page v : ℕ) → lobs_laid old (lobs_laid new lobs) ≡ lobs
    → EachPiece (LeadsBack old v) (pieces_at lobs page) (pieces_at (lobs_laid new lobs) page)
back_in_lobs old new lobs page v back =
    subst (EachPiece (LeadsBack old v) (pieces_at lobs page)) (sym (pieces_laid new lobs page))
    (each_back old new v (pieces_at lobs page)
    (ap (map (piece_laid old)) (sym (pieces_laid new lobs page)) ∙ sym (pieces_laid old (lobs_laid new lobs) page) ∙ ap (λ (ls : List Lob). pieces_at ls page) back))

-- ---- the same pieces

-- pieces are the same as themselves, at any version
pub each_same : (v : ℕ) (ps : List Piece) → EachPiece (IsSame v) ps ps
each_same v [] = tt
each_same v (p ∷ ps) = (record { part = refl; search = λ a stands. stands }, each_same v ps)

laid_nothing : (x : Part) → all_laid [] x ≡ x
laid_nothing x = refl

-- pieces that stay the same at a version lead back by no runs
pub same_leads : (v : ℕ) (xs ys : List Piece) → EachPiece (IsSame v) xs ys → EachPiece (LeadsBack [] v) xs ys
same_leads v [] [] each = tt
same_leads v [] (y ∷ ys) each = absurd each
same_leads v (x ∷ xs) [] each = absurd each
same_leads v (x ∷ xs) (y ∷ ys) each = (record { part = each.0.part; search = each.0.search }, same_leads v xs ys each.1)

-- pieces that stay the same at a version have no runs put back
pub same_put_back : (v : ℕ) (xs ys : List Piece) → EachPiece (IsSame v) xs ys → EachPiece (IsPutBack [] v) xs ys
same_put_back v [] [] each = tt
same_put_back v [] (y ∷ ys) each = absurd each
same_put_back v (x ∷ xs) [] each = absurd each
same_put_back v (x ∷ xs) (y ∷ ys) each = (record { part = each.0.part; search = each.0.search }, same_put_back v xs ys each.1)

each_untouched : (rs : List Run) (v : ℕ) (ps : List Piece) → map (all_laid rs) (map (part_at v) ps) ≡ map (part_at v) ps → EachPiece (IsSame v) ps (map (piece_laid rs) ps)
each_untouched rs v [] same = tt
each_untouched rs v (p ∷ ps) same = (
  record {
    part = part_laid rs v p ∙ heads _ _ _ _ same;
    search = λ a stands. laid_stands rs v a (p.head ∷ p.older) stands;
  },
  each_untouched rs v ps (tails _ _ _ _ same),
)

-- runs that leave the parts at a version
pub untouched_in_lobs : (rs : List Run) (lobs : List Lob) (page v : ℕ) → map (all_laid rs) (map (part_at v) (pieces_at lobs page)) ≡ map (part_at v) (pieces_at lobs page)
    → EachPiece (IsSame v) (pieces_at lobs page) (pieces_at (lobs_laid rs lobs) page)
untouched_in_lobs rs lobs page v same = subst (EachPiece (IsSame v) (pieces_at lobs page)) (sym (pieces_laid rs lobs page)) (each_untouched rs v (pieces_at lobs page) same)

-- ---- another LOB

other_page : (n page : ℕ) → n ≢ page → (b : Bool) → (n == page) ≡ b → b ≡ false
other_page n page other true is = absurd (other (eqb-true n page is))
other_page n page other false is = refl

-- a change of one LOB leaves the pieces of another
pub on_other : (q : ℕ) (f : Lob → Lob) (lobs : List Lob) (page : ℕ) → ((l : Lob) → (f l).page ≡ l.page) → page ≢ q → pieces_at (on_lob q f lobs) page ≡ pieces_at lobs page
on_other q f [] page stays other = refl
on_other q f (l ∷ ls) page stays other = by_case (l.page == q) refl (on_other q f ls page stays other)
  where
    not_here : l.page ≡ q → (l.page == page) ≡ false
    not_here is = other_page l.page page (λ e. other (sym e ∙ is)) (l.page == page) refl

    by_case : (b : Bool) → (l.page == q) ≡ b → pieces_at (on_lob q f ls) page ≡ pieces_at ls page
        → pieces_at (cond b (f l ∷ ls) (l ∷ on_lob q f ls)) page ≡ pieces_at (l ∷ ls) page
    by_case true is rest = rw (stays l, not_here (eqb-true l.page q is)) refl
    by_case false is rest = by_page (l.page == page) rest
      where
        by_page : (b : Bool) → pieces_at (on_lob q f ls) page ≡ pieces_at ls page
            → pieces_of (cond b (Some l) (lob_of (on_lob q f ls) page)) ≡ pieces_of (cond b (Some l) (lob_of ls page))
        by_page true rest = refl
        by_page false rest = rest

-- a LOB taken out leaves the pieces of another
pub without_other : (q : ℕ) (lobs : List Lob) (page : ℕ) → page ≢ q → pieces_at (without_lob q lobs) page ≡ pieces_at lobs page
without_other q [] page other = refl
without_other q (l ∷ ls) page other = by_case (l.page == q) refl (without_other q ls page other)
  where
    not_here : l.page ≡ q → (l.page == page) ≡ false
    not_here is = other_page l.page page (λ e. other (sym e ∙ is)) (l.page == page) refl

    by_case : (b : Bool) → (l.page == q) ≡ b → pieces_at (without_lob q ls) page ≡ pieces_at ls page
        → pieces_at (cond b ls (l ∷ without_lob q ls)) page ≡ pieces_at (l ∷ ls) page
    by_case true is rest = sym (rw (not_here (eqb-true l.page q is)) refl)
    by_case false is rest = by_page (l.page == page) rest
      where
        by_page : (b : Bool) → pieces_at (without_lob q ls) page ≡ pieces_at ls page
            → pieces_of (cond b (Some l) (lob_of (without_lob q ls) page)) ≡ pieces_of (cond b (Some l) (lob_of ls page))
        by_page true rest = refl
        by_page false rest = rest

-- a LOB more leaves the pieces of another
pub with_other : (l : Lob) (lobs : List Lob) (page : ℕ) → page ≢ l.page → pieces_at (lobs ++ l ∷ []) page ≡ pieces_at lobs page
with_other l [] page other = rw (other_page l.page page (λ e. other (sym e)) (l.page == page) refl) refl
with_other l (x ∷ xs) page other = by_case (x.page == page) (with_other l xs page other)
  where
    by_case : (b : Bool) → pieces_at (xs ++ l ∷ []) page ≡ pieces_at xs page
        → pieces_of (cond b (Some x) (lob_of (xs ++ l ∷ []) page)) ≡ pieces_of (cond b (Some x) (lob_of xs page))
    by_case true rest = refl
    by_case false rest = rest
