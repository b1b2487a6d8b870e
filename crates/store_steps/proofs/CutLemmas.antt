-- The piece with a head, among the others.
use Rattle.std.proofs.Common.{◌≡◌, ℕ, zero, suc, List, [], ◌∷◌, ◌++◌, length, map, Some, refl, sym, ap}
use Rattle.page_model.specs.Pages.{Address}
use Rattle.store_data.specs.Store.{Piece}
use Rattle.lob_model.specs.Pieces.{head_place}
use Rattle.lob_index.specs.Heads.{nth}
use Rattle.store_model.specs.Takes.{piece_of}

pub record Cut (k : ℕ) (ps : List Piece) (head : Address) : Type 0 where
  pub bs : List Piece
  pub p : Piece
  pub cs : List Piece
  pub is : ps ≡ bs ++ p ∷ cs
  pub many : length bs ≡ k
  pub here : p.head.place ≡ head
  pub there : piece_of k ps ≡ Some p

same_some : (a b : Address) → Some a ≡ Some b → a ≡ b
same_some a b e = cc e

no_head : (k : ℕ) (a : Address) → Some a ≡ nth k [] → ⊥
no_head zero a e = cc
no_head (suc k) a e = cc

pub cut_at : (k : ℕ) (ps : List Piece) (head : Address) → Some head ≡ nth k (map head_place ps)
    → Cut k ps head
cut_at k [] head is = absurd (no_head k head is)
cut_at zero (p ∷ ps) head is = record {
  bs = [];
  p = p;
  cs = ps;
  is = refl;
  many = refl;
  here = sym (same_some head p.head.place is);
  there = refl;
}
cut_at (suc k) (p ∷ ps) head is =
    let r = cut_at k ps head is in
    record {
      bs = p ∷ r.bs;
      p = r.p;
      cs = r.cs;
      is = ap (λ (qs : List Piece). p ∷ qs) r.is;
      many = ap suc r.many;
      here = r.here;
      there = r.there;
    }
