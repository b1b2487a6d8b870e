-- What a push, a pop and a drop leave of a piece at a version, and of a search in it.
use Rattle.std.proofs.Common.{◌≡◌, ◌≢◌, inl, inr, ℕ, zero, suc, ◌<◌, ◌≤◌, Bool, true, false, cond, List, [], ◌∷◌, refl, sym, ap, subst, ◌∙◌, arith}
use Rattle.std.specs.Prelude.{Some, nat_le, ◌==◌}
use Rattle.std.proofs.lemmas.Bool.{false≢true, eqb-true}
use Rattle.page_model.specs.Pages.{Address}
use Rattle.store_data.specs.Pieces.{version_at, all_but_last, pushed, popped, dropped}
use Rattle.store_data.specs.Store.{Version, Piece, Lob}
use Rattle.store_model.specs.Lobs.{lob_of, pieces_of}
use Rattle.store_model.specs.Steps.{on_lob, on_piece}
use Rattle.read_model.specs.Document.{part_or, pieces_at}
use Rattle.read_model.specs.Flight.{Stands}
use Rattle.read_model.specs.Events.{IsMoved, IsSame, EachPiece}
use Rattle.read_model.specs.Kinds.{HasOne, MayDrop, IsNoPlace, AtOne, AtOthers, PopsFrom, HasNoNode}
use Rattle.read_model.proofs.CopyLemmas.{not_le}
use Rattle.read_model.proofs.LobLemmas.{on_other}

-- ---- push

-- a push of a version above v leaves the piece at version v
pub push_same : (v : ℕ) (node : Address) (x : Version) (p : Piece) → v < x.number → IsSame v p (pushed node x p)
push_same v node x p newer = record {
  part = rw (not_le x.number v newer) (by_case (nat_le p.head.number v));
  search = λ a stands. elim stands [
    | inl here ↦ inl here
    | inr later ↦ inr (newer, inr later)
  ];
}
  where
    by_case : (b : Bool) → part_or (cond b (Some (record p.head { place = node })) (version_at p.older v)) ≡ part_or (cond b (Some p.head) (version_at p.older v))
    by_case true = refl
    by_case false = refl

-- ---- pop

pop_one : (v : ℕ) (head first : Version) (rest : List Version) → v < head.number
    → IsMoved first.place head.place v (record { head = head; older = first ∷ rest }) (popped (record { head = head; older = first ∷ rest }))
pop_one v head first rest newer = record {
  part = sym (rw (not_le head.number v newer) (by_case (nat_le first.number v)));
  search = λ a other stands. elim stands [
    | inl here ↦ inl here
    | inr later ↦ elim later.1 [
      | inl there ↦ absurd (other (sym there))
      | inr more ↦ inr more
    ]
  ];
  freed = λ stands. inl refl;
}
  where
    by_case : (b : Bool) → part_or (cond b (Some first) (version_at rest v)) ≡ part_or (cond b (Some (record first { place = head.place })) (version_at rest v))
    by_case true = refl
    by_case false = refl

-- a pop above v leaves the piece at version v; a search at the freed node goes on from the head
pub pop_moved : (v : ℕ) (node head : Address) (p : Piece) → PopsFrom v node head p → IsMoved node head v p (popped p)
pop_moved v node head p f =
    subst (λ (a : Address). IsMoved a head v p (popped p)) f.node_is
    (subst (λ (a : Address). IsMoved f.first.place a v p (popped p)) f.head_is
    (subst (λ (l : List Version). IsMoved f.first.place p.head.place v (record { head = p.head; older = l }) (popped (record { head = p.head; older = l }))) (sym f.older)
    (pop_one v p.head f.first f.rest f.newer)))

no_stand : (v : ℕ) (node : Address) (xs : List Version) → IsNoPlace node xs → Stands v node xs → ⊥
no_stand v node [] none stands = stands
no_stand v node (x ∷ xs) none (inl here) = none.0 here
no_stand v node (x ∷ xs) none (inr later) = no_stand v node xs none.1 later.1

-- a piece that hasn't the freed node is left as it is
pub other_moved : (v : ℕ) (node head : Address) (p : Piece) → HasNoNode node p → IsMoved node head v p p
other_moved v node head p none = record {
  part = refl;
  search = λ a other stands. stands;
  freed = λ stands. absurd (no_stand v node (p.head ∷ p.older) none stands);
}

-- ---- drop

drop_at : (v : ℕ) (x : Version) (xs : List Version) → HasOne v (x ∷ all_but_last xs) → version_at (x ∷ all_but_last xs) v ≡ version_at (x ∷ xs) v
drop_at v x [] one = refl
drop_at v x (y ∷ []) (inl here) = rw (le_true x.number v here) refl
  where
    le_true : (m n : ℕ) → m ≤ n → nat_le m n ≡ true
    le_true m n h = grind (arith, h)
drop_at v x (y ∷ []) (inr none) = absurd none
drop_at v x (y ∷ z ∷ zs) one = by_case (nat_le x.number v) refl one (λ more. drop_at v y (z ∷ zs) more)
  where
    by_case : (b : Bool) → nat_le x.number v ≡ b → HasOne v (x ∷ y ∷ all_but_last (z ∷ zs))
        → (HasOne v (y ∷ all_but_last (z ∷ zs)) → version_at (y ∷ all_but_last (z ∷ zs)) v ≡ version_at (y ∷ z ∷ zs) v)
        → cond b (Some x) (version_at (y ∷ all_but_last (z ∷ zs)) v) ≡ cond b (Some x) (version_at (y ∷ z ∷ zs) v)
    by_case true is one on = refl
    by_case false is (inl here) on = absurd (false≢true (sym is ∙ le_true x.number v here))
      where
        le_true : (m n : ℕ) → m ≤ n → nat_le m n ≡ true
        le_true m n h = grind (arith, h)
    by_case false is (inr more) on = on more

drop_stands : (v : ℕ) (a : Address) (x : Version) (xs : List Version) → HasOne v (x ∷ all_but_last xs) → Stands v a (x ∷ xs) → Stands v a (x ∷ all_but_last xs)
drop_stands v a x xs one (inl here) = inl here
drop_stands v a x [] one (inr later) = absurd later.1
drop_stands v a x (y ∷ []) (inl here) (inr later) = let no_way : ⊥ = omega (arith, here, later.0) in absurd no_way
drop_stands v a x (y ∷ []) (inr none) (inr later) = absurd none
drop_stands v a x (y ∷ z ∷ zs) (inl here) (inr later) = let no_way : ⊥ = omega (arith, here, later.0) in absurd no_way
drop_stands v a x (y ∷ z ∷ zs) (inr more) (inr later) = inr (later.0, drop_stands v a y (z ∷ zs) more later.1)

-- a drop leaves the piece at version v, where an entry that is at most v is left
pub drop_same : (v : ℕ) (p : Piece) → MayDrop v p → IsSame v p (dropped p)
drop_same v p may = record {
  part = ap part_or (drop_at v p.head p.older may);
  search = λ a stands. drop_stands v a p.head p.older may stands;
}

-- ---- one piece of a LOB

-- a change of the k-th piece relates each piece to its own, where it does so at that one and the
-- others are related to themselves
pub each_at : (P : Piece → Piece → Type 0) (Q R : Piece → Type 0) (f : Piece → Piece) (k : ℕ) (ps : List Piece) → ((p : Piece) → Q p → P p (f p)) → ((p : Piece) → R p → P p p)
    → AtOne k Q R ps → EachPiece P ps (on_piece k f ps)
each_at P Q R f k [] on same one = tt
each_at P Q R f zero (p ∷ ps) on same one = (on p one.0, others ps one.1)
  where
    others : (ps : List Piece) → AtOthers R ps → EachPiece P ps ps
    others [] rest = tt
    others (q ∷ qs) rest = (same q rest.0, others qs rest.1)
each_at P Q R f (suc k) (p ∷ ps) on same one = (same p one.0, each_at P Q R f k ps on same one.1)

-- ---- one LOB

pub on_here : (P : Piece → Piece → Type 0) (q : ℕ) (f : Lob → Lob) (lobs : List Lob) → ((l : Lob) → (f l).page ≡ l.page)
    → ((l : Lob) → pieces_at lobs q ≡ l.pieces → EachPiece P l.pieces (f l).pieces) → EachPiece P (pieces_at lobs q) (pieces_at (on_lob q f lobs) q)
on_here P q f [] stays each = tt
on_here P q f (l ∷ ls) stays each = by_case (l.page == q) refl (λ on. on_here P q f ls stays on)
  where
    by_case : (b : Bool) → (l.page == q) ≡ b → (((x : Lob) → pieces_at ls q ≡ x.pieces → EachPiece P x.pieces (f x).pieces) → EachPiece P (pieces_at ls q) (pieces_at (on_lob q f ls) q))
        → EachPiece P (pieces_of (cond b (Some l) (lob_of ls q))) (pieces_at (cond b (f l ∷ ls) (l ∷ on_lob q f ls)) q)
    by_case true is rest = subst (EachPiece P l.pieces) (sym (rw (stays l, is) refl)) (each l (rw is refl))
    by_case false is rest = subst (EachPiece P (pieces_at ls q)) (sym (rw is refl)) (rest (λ x same. each x (rw is same)))

-- a change of one LOB relates the pieces of any LOB, where it does so in its own and
-- those of others are related to themselves
pub on_any : (P : Piece → Piece → Type 0) (q : ℕ) (f : Lob → Lob) (lobs : List Lob) (page : ℕ) → ((l : Lob) → (f l).page ≡ l.page)
    → (page ≡ q → (l : Lob) → pieces_at lobs page ≡ l.pieces → EachPiece P l.pieces (f l).pieces)
    → (page ≢ q → EachPiece P (pieces_at lobs page) (pieces_at lobs page))
    → EachPiece P (pieces_at lobs page) (pieces_at (on_lob q f lobs) page)
on_any P q f lobs page stays here elsewhere = by_case (page == q) refl
  where
    by_case : (b : Bool) → (page == q) ≡ b → EachPiece P (pieces_at lobs page) (pieces_at (on_lob q f lobs) page)
    by_case true is =
        let same : page ≡ q = eqb-true page q is in
        subst (λ (n : ℕ). EachPiece P (pieces_at lobs n) (pieces_at (on_lob q f lobs) n)) (sym same)
        (on_here P q f lobs stays (subst (λ (n : ℕ). (l : Lob) → pieces_at lobs n ≡ l.pieces → EachPiece P l.pieces (f l).pieces) same (here same)))
    by_case false is =
        let other : page ≢ q = λ e. false≢true (sym is ∙ eq_true e) in
        subst (EachPiece P (pieces_at lobs page)) (sym (on_other q f lobs page stays other)) (elsewhere other)
      where
        eq_true : page ≡ q → (page == q) ≡ true
        eq_true e = grind (arith, e)
