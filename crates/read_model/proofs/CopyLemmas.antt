-- A read keeps its invariant by its own steps: Pieces.
use Rattle.std.proofs.Common.{◌≡◌, inl, inr, ℕ, zero, suc, ◌<◌, ◌≤◌, Bool, true, false, cond, List, [], ◌∷◌, ◌++◌, length, drop, map, refl, sym, ap, subst, ◌∙◌, arith}
use Rattle.std.specs.Prelude.{Option, Some, None, nat_le}
use Rattle.std.proofs.lemmas.Bool.{leb-true}
use Rattle.page_model.specs.Pages.{Address}
use Rattle.store_data.specs.Pieces.{Part, part_of, version_at, piece_at}
use Rattle.store_data.specs.Store.{Version, Piece}
use Rattle.store_model.specs.Undo.{same_place}
use Rattle.read_model.specs.Patches.{Entry, back}
use Rattle.read_model.specs.Document.{Document, Sees, part_or, part_at, pieces_at}
use Rattle.read_model.specs.Flight.{Phase, Pieces, Flight, AreFirst, Stands, IsSearch, IsSearchIn, IsCopying, IsFlightIn, IsFlight}
use Rattle.read_model.specs.Steps.{Looked, At, More, Gone, look, from_place, versions_from, walking, with_part, looked, copy_from, copy}
use Rattle.read_model.proofs.VisibleLemmas.{heads, tails}
use Rattle.read_model.proofs.PartLemmas.{cons, search_none}
use Rattle.read_model.proofs.EventLemmas.{true_same}

-- ---- a search

-- the greater of two numbers isn't at most the smaller
pub not_le : (m n : ℕ) → n < m → nat_le m n ≡ false
not_le m n h = by_case (nat_le m n) refl
  where
    by_case : (b : Bool) → nat_le m n ≡ b → b ≡ false
    by_case true is = let le : m ≤ n = leb-true m n is in let no_way : ⊥ = omega (arith, le, h) in absurd no_way
    by_case false is = refl

-- from where a search stands it finds what it finds from the head
from_there : (v : ℕ) (a : Address) (xs : List Version) → Stands v a xs → version_at (from_place a xs) v ≡ version_at xs v
from_there v a [] stands = absurd stands
from_there v a (x ∷ xs) (inl here) = rw (true_same x.place a here) refl
from_there v a (x ∷ xs) (inr later) = by_case (same_place x.place a) (from_there v a xs later.1 ∙ sym (rw (not_le x.number v later.0) refl))
  where
    by_case : (b : Bool) → version_at (from_place a xs) v ≡ version_at (x ∷ xs) v → version_at (cond b (x ∷ xs) (from_place a xs)) v ≡ version_at (x ∷ xs) v
    by_case true rest = refl
    by_case false rest = rest

-- what stands behind newer ones in the part that is left does so in the whole
stands_there : (v : ℕ) (a b : Address) (xs : List Version) → Stands v a xs → Stands v b (from_place a xs) → Stands v b xs
stands_there v a b [] stands more = absurd stands
stands_there v a b (x ∷ xs) (inl here) more = subst (λ (t : Bool). Stands v b (cond t (x ∷ xs) (from_place a xs))) (true_same x.place a here) more
stands_there v a b (x ∷ xs) (inr later) more = by_case (same_place x.place a) more (λ h. stands_there v a b xs later.1 h)
  where
    by_case : (t : Bool) → Stands v b (cond t (x ∷ xs) (from_place a xs)) → (Stands v b (from_place a xs) → Stands v b xs) → Stands v b (x ∷ xs)
    by_case true more on = more
    by_case false more on = inr (later.0, on more)

-- from where a search stands right, the same version is found as from the piece's head
pub search_finds : (v : ℕ) (node : Option Address) (piece : Piece) → IsSearch v node piece → version_at (versions_from node piece) v ≡ piece_at piece v
search_finds v None piece search = refl
search_finds v (Some a) piece search = from_there v a (piece.head ∷ piece.older) search

search_stands : (v : ℕ) (node : Option Address) (b : Address) (piece : Piece) → IsSearch v node piece → Stands v b (versions_from node piece) → Stands v b (piece.head ∷ piece.older)
search_stands v None b piece search more = more
search_stands v (Some a) b piece search more = stands_there v a b (piece.head ∷ piece.older) search more

at_same : (x y : Version) → At x ≡ At y → x ≡ y
at_same x y h = ap (λ (l : Looked). version_of l) h
  where
    version_of : Looked → Version
    version_of (At z) = z
    version_of (More a) = x
    version_of Gone = x

more_same : (a b : Address) → More a ≡ More b → a ≡ b
more_same a b h = ap (λ (l : Looked). address_of l) h
  where
    address_of : Looked → Address
    address_of (At z) = a
    address_of (More c) = c
    address_of Gone = a

look_at : (n v : ℕ) (x : Version) (xs : List Version) → look n v xs ≡ At x → version_at xs v ≡ Some x
look_at zero v x [] h = cc
look_at zero v x (y ∷ ys) h = cc
look_at (suc n) v x [] h = cc
look_at (suc n) v x (y ∷ ys) h = by_case (nat_le y.number v) h (λ k. look_at n v x ys k)
  where
    by_case : (b : Bool) → cond b (At y) (look n v ys) ≡ At x → (look n v ys ≡ At x → version_at ys v ≡ Some x) → cond b (Some y) (version_at ys v) ≡ Some x
    by_case true k rest = ap (λ (z : Version). Some z) (at_same y x k)
    by_case false k rest = rest k

-- a look that isn't at its end goes on at a node where the search stands right
pub look_more : (n v : ℕ) (a : Address) (xs : List Version) → look n v xs ≡ More a → Stands v a xs
look_more zero v a [] h = absurd (gone_more h)
  where
    gone_more : Gone ≡ More a → ⊥
    gone_more k = cc
look_more zero v a (y ∷ ys) h = inl (more_same y.place a h)
look_more (suc n) v a [] h = absurd (gone_more h)
  where
    gone_more : Gone ≡ More a → ⊥
    gone_more k = cc
look_more (suc n) v a (y ∷ ys) h = by_case (nat_le y.number v) refl h (λ k. look_more n v a ys k)
  where
    newer : (m n : ℕ) → nat_le m n ≡ false → n < m
    newer m n is = grind (arith, is)

    by_case : (b : Bool) → nat_le y.number v ≡ b → cond b (At y) (look n v ys) ≡ More a → (look n v ys ≡ More a → Stands v a ys) → Stands v a (y ∷ ys)
    by_case true is k rest = absurd (at_more k)
      where
        at_more : At y ≡ More a → ⊥
        at_more e = cc
    by_case false is k rest = inr (newer y.number v is, rest k)

-- ---- one more piece is copied

next_first : (es : List Entry) (v : ℕ) (cs ss : List Part) (pieces more : List Piece) (piece : Piece) → AreFirst es cs ss → map (back es) (map (part_at v) pieces) ≡ ss
    → drop (length cs) pieces ≡ piece ∷ more → AreFirst es (cs ++ part_at v piece ∷ []) ss
next_first es v [] [] pieces more piece first whole left = absurd (no_nil whole left)
  where
    no_nil : map (back es) (map (part_at v) pieces) ≡ [] → pieces ≡ piece ∷ more → ⊥
    no_nil h k = cons_nil (ap (λ (ps : List Piece). map (back es) (map (part_at v) ps)) (sym k) ∙ h)
      where
        cons_nil : back es (part_at v piece) ∷ map (back es) (map (part_at v) more) ≡ [] → ⊥
        cons_nil z = cc
next_first es v [] (s ∷ ss) pieces more piece first whole left =
    (heads _ _ _ _ (ap (λ (ps : List Piece). map (back es) (map (part_at v) ps)) (sym left) ∙ whole), tt)
next_first es v (c ∷ cs) [] pieces more piece first whole left = first
next_first es v (c ∷ cs) (s ∷ ss) [] more piece first whole left = absurd (nil_cons whole)
  where
    nil_cons : [] ≡ s ∷ ss → ⊥
    nil_cons z = cc
next_first es v (c ∷ cs) (s ∷ ss) (p ∷ ps) more piece first whole left =
    (first.0, next_first es v cs ss ps more piece first.1 (tails _ _ _ _ whole) left)

-- all pieces are copied
whole_copied : (es : List Entry) (v : ℕ) (cs ss : List Part) (pieces : List Piece) → AreFirst es cs ss → map (back es) (map (part_at v) pieces) ≡ ss
    → drop (length cs) pieces ≡ [] → map (back es) cs ≡ ss
whole_copied es v [] ss pieces first whole left = ap (λ (ps : List Piece). map (back es) (map (part_at v) ps)) (sym left) ∙ whole
whole_copied es v (c ∷ cs) [] pieces first whole left = absurd first
whole_copied es v (c ∷ cs) (s ∷ ss) [] first whole left = absurd (nil_cons whole)
  where
    nil_cons : [] ≡ s ∷ ss → ⊥
    nil_cons z = cc
whole_copied es v (c ∷ cs) (s ∷ ss) (p ∷ ps) first whole left = cons first.0 (whole_copied es v cs ss ps first.1 (tails _ _ _ _ whole) left)

-- with one piece more copied, those behind the next one are left
pub drop_on : (cs : List Part) (c : Part) (pieces more : List Piece) (piece : Piece) → drop (length cs) pieces ≡ piece ∷ more → drop (length (cs ++ c ∷ [])) pieces ≡ more
drop_on [] c pieces more piece left = ap (drop 1) left
drop_on (d ∷ ds) c [] more piece left = absurd (nil_cons left)
  where
    nil_cons : [] ≡ piece ∷ more → ⊥
    nil_cons z = cc
drop_on (d ∷ ds) c (p ∷ ps) more piece left = drop_on ds c ps more piece left

-- ---- the step

walking_kept : (sees : Sees) (doc : Document) (shown : List Part) (f : Flight) → IsCopying sees doc shown f → drop (length f.copied) (pieces_at doc.lobs f.row.lob.page) ≡ []
    → IsFlight sees doc (Some shown) (walking doc f)
walking_kept sees doc shown f c left = (
  shown,
  refl,
  record {
    newer = [];
    rest = c.above;
    older = c.older;
    visible = c.visible;
    state = c.state;
    cursor = refl;
    copied = whole_copied c.above f.row.lob.version f.copied shown _ c.copied c.holds left;
  },
)

one_more : (sees : Sees) (doc : Document) (shown : List Part) (f : Flight) (piece : Piece) (more : List Piece) (part : Part) → IsCopying sees doc shown f
    → drop (length f.copied) (pieces_at doc.lobs f.row.lob.page) ≡ piece ∷ more → part_at f.row.lob.version piece ≡ part
    → IsCopying sees doc shown (record f { node = None; copied = f.copied ++ part ∷ [] })
one_more sees doc shown f piece more part c left is = record {
  above = c.above;
  older = c.older;
  visible = c.visible;
  state = c.state;
  holds = c.holds;
  copied = subst (λ (p : Part). AreFirst c.above (f.copied ++ p ∷ []) shown) is (next_first c.above f.row.lob.version f.copied shown _ more piece c.copied c.holds left);
  search = search_none f.row.lob.version (drop (length (f.copied ++ part ∷ [])) (pieces_at doc.lobs f.row.lob.page));
}

part_kept : (sees : Sees) (doc : Document) (shown : List Part) (f : Flight) (piece : Piece) (more : List Piece) (part : Part) → f.phase ≡ Pieces → IsCopying sees doc shown f
    → drop (length f.copied) (pieces_at doc.lobs f.row.lob.page) ≡ piece ∷ more → part_at f.row.lob.version piece ≡ part
    → IsFlight sees doc (Some shown) (with_part doc more part f)
part_kept sees doc shown f piece [] part is c left at =
    walking_kept sees doc shown (record f { node = None; copied = f.copied ++ part ∷ [] }) (one_more sees doc shown f piece [] part c left at)
    (drop_on f.copied part (pieces_at doc.lobs f.row.lob.page) [] piece left)
part_kept sees doc shown f piece (q ∷ qs) part is c left at =
    subst (λ (p : Phase). IsFlightIn p sees doc (Some shown) (record f { node = None; copied = f.copied ++ part ∷ [] })) (sym is)
    (shown, refl, one_more sees doc shown f piece (q ∷ qs) part c left at)

looked_kept : (sees : Sees) (doc : Document) (shown : List Part) (f : Flight) (piece : Piece) (more : List Piece) (l : Looked) → f.phase ≡ Pieces → IsCopying sees doc shown f
    → drop (length f.copied) (pieces_at doc.lobs f.row.lob.page) ≡ piece ∷ more → look 8 f.row.lob.version (versions_from f.node piece) ≡ l
    → IsFlight sees doc (Some shown) (looked doc more f l)
looked_kept sees doc shown f piece more (At x) is c left at =
    part_kept sees doc shown f piece more (part_of x) is c left
    (ap part_or (sym (search_finds f.row.lob.version f.node piece (subst (IsSearchIn f.row.lob.version f.node) left c.search)) ∙ look_at 8 f.row.lob.version x _ at))
looked_kept sees doc shown f piece more (More a) is c left at =
    subst (λ (p : Phase). IsFlightIn p sees doc (Some shown) (record f { node = Some a })) (sym is) (
      shown,
      refl,
      record {
        above = c.above;
        older = c.older;
        visible = c.visible;
        state = c.state;
        holds = c.holds;
        copied = c.copied;
        search = subst (IsSearchIn f.row.lob.version (Some a)) (sym left)
            (search_stands f.row.lob.version f.node a piece (subst (IsSearchIn f.row.lob.version f.node) left c.search) (look_more 8 f.row.lob.version a _ at));
      },
    )
looked_kept sees doc shown f piece more Gone is c left at =
    subst (λ (p : Phase). IsFlightIn p sees doc (Some shown) f) (sym is) (shown, refl, c)

copy_from_kept : (sees : Sees) (doc : Document) (shown : List Part) (f : Flight) (pieces : List Piece) → f.phase ≡ Pieces → IsCopying sees doc shown f
    → drop (length f.copied) (pieces_at doc.lobs f.row.lob.page) ≡ pieces → IsFlight sees doc (Some shown) (copy_from doc pieces f)
copy_from_kept sees doc shown f [] is c left = walking_kept sees doc shown f c left
copy_from_kept sees doc shown f (piece ∷ more) is c left = looked_kept sees doc shown f piece more _ is c left refl

-- a copying step leaves the read as it must be
pub copy_kept : (sees : Sees) (doc : Document) (shown : List Part) (f : Flight) → f.phase ≡ Pieces → IsCopying sees doc shown f → IsFlight sees doc (Some shown) (copy doc f)
copy_kept sees doc shown f is c = copy_from_kept sees doc shown f _ is c refl
