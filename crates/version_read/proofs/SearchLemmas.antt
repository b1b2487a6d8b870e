-- The search for a piece's version, in a read and in pages.
use Rattle.std.proofs.Common.{◌≡◌, inl, inr, ℕ, zero, suc, Bool, true, false, cond, nat_le, List, [], ◌∷◌, ◌++◌, map, length, Option, Some, None, option_map, refl, sym, ap, subst, ◌∙◌}
use Rattle.std.proofs.lemmas.Bool.{leb-true, leb-false}
use Rattle.page_model.specs.Pages.{Pages, Address}
use Rattle.engine_base.specs.Addresses.{address_of}
use Rattle.engine_base.specs.declared.addr.Addr.{Addr}
use Rattle.store_data.specs.Pieces.{version_at}
use Rattle.store_data.specs.Store.{Version, Piece, Lob}
use Rattle.store_model.specs.Undo.{same_place}
use Rattle.lob_model.specs.Pieces.{piece_versions, head_place}
use Rattle.lob_model.specs.Lobs.{IsLob}
use Rattle.lob_model.specs.Search.{Sought, at, more, gone, sought}
use Rattle.lob_model.proofs.SearchLemmas.{sought_here, sought_past, sought_end, sought_more}
use Rattle.lob_pages.specs.Entries.{FitsPage}
use Rattle.lob_index.proofs.HeadLemmas.{head_fits}
use Rattle.lob_versions.proofs.PieceLemmas.{older_fits}
use Rattle.read_model.specs.Flight.{Stands}
use Rattle.read_model.specs.Steps.{Looked, At, More, Gone, look, from_place, versions_from}
use Rattle.read_model.proofs.EventLemmas.{same_true, true_same}
use Rattle.read_views.specs.declared.flight.Flight.{Flight}
use Rattle.version_read.specs.Pieces.{Begins}

-- ---- the version that a search finds, and its place

abbrev pub placed : Looked → Sought
placed (At x) = at x.place
placed (More a) = more a
placed Gone = gone

pub sought_is : (n v : ℕ) (xs : List Version) → sought n v xs ≡ placed (look n v xs)
sought_is zero v [] = sought_end 0 v
sought_is (suc n) v [] = sought_end (suc n) v
sought_is zero v (x ∷ xs) = sought_more v x xs
sought_is (suc n) v (x ∷ xs) = by (nat_le x.number v) refl (sought_is n v xs)
  where
    by : (b : Bool) → nat_le x.number v ≡ b → sought n v xs ≡ placed (look n v xs)
        → sought (suc n) v (x ∷ xs) ≡ placed (cond b (At x) (look n v xs))
    by true e rest = sought_here n v x xs (leb-true x.number v e)
    by false e rest = sought_past n v x xs (leb-false x.number v e) ∙ rest

abbrev place_in : Address → Sought → Address
place_in d (at a) = a
place_in d (more a) = a
place_in d gone = d

pub record IsAt (l : Looked) (a : Address) : Type 0 where
  pub x : Version
  pub is : l ≡ At x
  pub place : x.place ≡ a

pub found_at : (l : Looked) (a : Address) → at a ≡ placed l → IsAt l a
found_at (At x) a e = record { x = x; is = refl; place = sym (ap (place_in a) e) }
found_at (More b) a e = absurd (never e)
  where
    never : at a ≡ more b → ⊥
    never e = cc e
found_at Gone a e = absurd (never e)
  where
    never : at a ≡ gone → ⊥
    never e = cc e

pub found_more : (l : Looked) (a : Address) → more a ≡ placed l → l ≡ More a
found_more (At x) a e = absurd (never e)
  where
    never : more a ≡ at x.place → ⊥
    never e = cc e
found_more (More b) a e = ap (λ (p : Address). More p) (sym (ap (place_in a) e))
found_more Gone a e = absurd (never e)
  where
    never : more a ≡ gone → ⊥
    never e = cc e

pub found_gone : (l : Looked) → gone ≡ placed l → l ≡ Gone
found_gone (At x) e = absurd (never e)
  where
    never : gone ≡ at x.place → ⊥
    never e = cc e
found_gone (More b) e = absurd (never e)
  where
    never : gone ≡ more b → ⊥
    never e = cc e
found_gone Gone e = refl

pub at_version : (n v : ℕ) (xs : List Version) (x : Version) → look n v xs ≡ At x
    → version_at xs v ≡ Some x
at_version zero v [] x e = absurd (never e)
  where
    never : Gone ≡ At x → ⊥
    never e = cc e
at_version (suc n) v [] x e = absurd (never e)
  where
    never : Gone ≡ At x → ⊥
    never e = cc e
at_version zero v (y ∷ ys) x e = absurd (never e)
  where
    never : More y.place ≡ At x → ⊥
    never e = cc e
at_version (suc n) v (y ∷ ys) x e = by (nat_le y.number v) e (at_version n v ys x)
  where
    same : At y ≡ At x → y ≡ x
    same e = cc e

    by : (b : Bool) → cond b (At y) (look n v ys) ≡ At x
        → (look n v ys ≡ At x → version_at ys v ≡ Some x)
        → cond b (Some y) (version_at ys v) ≡ Some x
    by true e rest = ap (λ (z : Version). Some z) (same e)
    by false e rest = rest e

pub gone_none : (n v : ℕ) (xs : List Version) → look n v xs ≡ Gone → version_at xs v ≡ None
gone_none n v [] e = refl
gone_none zero v (x ∷ xs) e = absurd (never e)
  where
    never : More x.place ≡ Gone → ⊥
    never e = cc e
gone_none (suc n) v (x ∷ xs) e = by (nat_le x.number v) e (gone_none n v xs)
  where
    never : At x ≡ Gone → ⊥
    never e = cc e

    by : (b : Bool) → cond b (At x) (look n v xs) ≡ Gone
        → (look n v xs ≡ Gone → version_at xs v ≡ None)
        → cond b (Some x) (version_at xs v) ≡ None
    by true e rest = absurd (never e)
    by false e rest = rest e

-- ---- the versions of a piece, cut at one of them

pub record Cut (xs : List Version) (x : Version) : Type 0 where
  pub seen : List Version
  pub rest : List Version
  pub is : xs ≡ seen ++ x ∷ rest

cut_behind : (y : Version) (xs : List Version) (x : Version) → Cut xs x → Cut (y ∷ xs) x
cut_behind y xs x c = record {
  seen = y ∷ c.seen;
  rest = c.rest;
  is = ap (λ (l : List Version). y ∷ l) c.is;
}

look_cut : (n v : ℕ) (xs : List Version) (x : Version) → look n v xs ≡ At x → Cut xs x
look_cut zero v [] x e = absurd (never e)
  where
    never : Gone ≡ At x → ⊥
    never e = cc e
look_cut (suc n) v [] x e = absurd (never e)
  where
    never : Gone ≡ At x → ⊥
    never e = cc e
look_cut zero v (y ∷ ys) x e = absurd (never e)
  where
    never : More y.place ≡ At x → ⊥
    never e = cc e
look_cut (suc n) v (y ∷ ys) x e = by (nat_le y.number v) e (look_cut n v ys x)
  where
    same : At y ≡ At x → y ≡ x
    same e = cc e

    by : (b : Bool) → cond b (At y) (look n v ys) ≡ At x → (look n v ys ≡ At x → Cut ys x)
        → Cut (y ∷ ys) x
    by true e rest = record {
      seen = [];
      rest = ys;
      is = ap (λ (z : Version). z ∷ ys) (same e);
    }
    by false e rest = cut_behind y ys x (rest e)

-- a cut of what is left from a place on is one of the whole
from_cut : (a : Address) (xs : List Version) (x : Version) → Cut (from_place a xs) x → Cut xs x
from_cut a [] x c = c
from_cut a (y ∷ ys) x c = by (same_place y.place a) c (from_cut a ys x)
  where
    by : (b : Bool) → Cut (cond b (y ∷ ys) (from_place a ys)) x → (Cut (from_place a ys) x → Cut ys x)
        → Cut (y ∷ ys) x
    by true c rest = c
    by false c rest = cut_behind y ys x (rest c)

versions_cut : (node : Option Address) (piece : Piece) (x : Version)
    → Cut (versions_from node piece) x → Cut (piece_versions piece) x
versions_cut None piece x c = c
versions_cut (Some a) piece x c = from_cut a (piece.head ∷ piece.older) x c

pub found_cut : (n v : ℕ) (node : Option Address) (piece : Piece) (x : Version)
    → look n v (versions_from node piece) ≡ At x → Cut (piece_versions piece) x
found_cut n v node piece x e =
    versions_cut node piece x (look_cut n v (versions_from node piece) x e)

-- where a search begins, with those behind it
pub record CutFrom (xs : List Version) (x : Version) (rest : List Version) : Type 0 where
  pub seen : List Version
  pub is : xs ≡ seen ++ x ∷ rest

from_rest : (a : Address) (xs : List Version) (x : Version) (rest : List Version)
    → from_place a xs ≡ x ∷ rest → CutFrom xs x rest
from_rest a [] x rest e = absurd (never e)
  where
    never : (let n : List Version = [] in n) ≡ x ∷ rest → ⊥
    never e = cc e
from_rest a (y ∷ ys) x rest e = by (same_place y.place a) e (from_rest a ys x rest)
  where
    behind : CutFrom ys x rest → CutFrom (y ∷ ys) x rest
    behind c = record { seen = y ∷ c.seen; is = ap (λ (l : List Version). y ∷ l) c.is }

    by : (b : Bool) → cond b (y ∷ ys) (from_place a ys) ≡ x ∷ rest
        → (from_place a ys ≡ x ∷ rest → CutFrom ys x rest) → CutFrom (y ∷ ys) x rest
    by true e next = record { seen = []; is = e }
    by false e next = behind (next e)

pub begins_cut : (node : Option Address) (piece : Piece) (x : Version) (rest : List Version)
    → versions_from node piece ≡ x ∷ rest → CutFrom (piece_versions piece) x rest
begins_cut None piece x rest e = record { seen = []; is = e }
begins_cut (Some a) piece x rest e = from_rest a (piece.head ∷ piece.older) x rest e

-- ---- where a search begins

record IsFrom (a : Address) (xs : List Version) : Type 0 where
  x : Version
  rest : List Version
  is : from_place a xs ≡ x ∷ rest
  place : x.place ≡ a

from_standing : (v : ℕ) (a : Address) (xs : List Version) → Stands v a xs → IsFrom a xs
from_standing v a [] stands = absurd stands
from_standing v a (x ∷ xs) (inl here) = record {
  x = x;
  rest = xs;
  is = ap (λ b. cond b (x ∷ xs) (from_place a xs)) (true_same x.place a here);
  place = here;
}
from_standing v a (x ∷ xs) (inr later) =
    by (same_place x.place a) refl (from_standing v a xs later.1)
  where
    by : (b : Bool) → same_place x.place a ≡ b → IsFrom a xs → IsFrom a (x ∷ xs)
    by true e f = record {
      x = x;
      rest = xs;
      is = ap (λ b. cond b (x ∷ xs) (from_place a xs)) e;
      place = same_true x.place a e;
    }
    by false e f = record {
      x = f.x;
      rest = f.rest;
      is = ap (λ b. cond b (x ∷ xs) (from_place a xs)) e ∙ f.is;
      place = f.place;
    }

pub begins_head : (f : Flight) (piece : Piece) → f.node ≡ None → Begins f piece piece.head.place
begins_head f piece none = record {
  x = piece.head;
  rest = piece.older;
  there = ap (λ (n : Option Addr). versions_from (option_map address_of n) piece) none;
  place = refl;
}

pub begins_node : (f : Flight) (piece : Piece) (v : ℕ) (a : Addr) → f.node ≡ Some a
    → Stands v (address_of a) (piece.head ∷ piece.older) → Begins f piece (address_of a)
begins_node f piece v a some stands =
    let b = from_standing v (address_of a) (piece.head ∷ piece.older) stands in
    record {
      x = b.x;
      rest = b.rest;
      there = ap (λ (n : Option Addr). versions_from (option_map address_of n) piece) some ∙ b.is;
      place = b.place;
    }

-- ---- the entries of a piece

abbrev rest_of : List Version → List Version
rest_of [] = []
rest_of (y ∷ ys) = ys

abbrev first_or : Version → List Version → Version
first_or x [] = x
first_or x (y ∷ ys) = y

heads_split : (bs : List Piece) (p : Piece) (cs : List Piece)
    → map head_place (bs ++ p ∷ cs) ≡ map head_place bs ++ p.head.place ∷ map head_place cs
heads_split [] p cs = refl
heads_split (b ∷ bs) p cs = ap (λ (l : List Address). b.head.place ∷ l) (heads_split bs p cs)

pub piece_fits : (pages : Pages) (lob : Lob) (bs : List Piece) (p : Piece) (cs : List Piece)
    → IsLob pages lob → lob.pieces ≡ bs ++ p ∷ cs → FitsPage (length pages) p.head.place
piece_fits pages lob bs p cs is pieces =
    head_fits pages lob (map head_place bs) p.head.place (map head_place cs) is
    (ap (λ (l : List Piece). map head_place l) pieces ∙ heads_split bs p cs)

pub entry_fits : (pages : Pages) (lob : Lob) (bs : List Piece) (p : Piece) (cs : List Piece)
    → IsLob pages lob → lob.pieces ≡ bs ++ p ∷ cs → (seen : List Version) (x : Version)
    (rest : List Version) → piece_versions p ≡ seen ++ x ∷ rest → FitsPage (length pages) x.place
entry_fits pages lob bs p cs is pieces [] x rest cut =
    subst (λ (y : Version). FitsPage (length pages) y.place) (ap (first_or x) cut)
    (piece_fits pages lob bs p cs is pieces)
entry_fits pages lob bs p cs is pieces (y ∷ seen) x rest cut =
    older_fits pages lob bs p cs is pieces seen x rest (ap rest_of cut)
