-- The bytes of a LOB's pieces, and their places in the buffer that a read was lent.
use Rattle.std.proofs.Common.{◌≡◌, ◌⊎◌, inl, inr, ℕ, zero, suc, ◌+◌, ◌*◌, ◌^◌, ◌<◌, ◌≤◌, ◌==◌, Bool, true, false, cond, nat_le, List, [], ◌∷◌, ◌++◌, length, map, take, drop, Option, Some, None, refl, sym, ap, subst, ◌∙◌, arith, length-append}
use Rattle.std.proofs.lemmas.List.{drop-drop, drop_all, length-drop, length-map}
use Rattle.std.proofs.lemmas.Bool.{eqb-true}
use Rattle.page_model.specs.Pages.{Pages}
use Rattle.page_model.specs.Lists.{first_of}
use Rattle.page_space.specs.Map.{IsMap}
use Rattle.store_data.specs.Pieces.{version_at, piece_at}
use Rattle.store_data.specs.Store.{Version, Piece, Lob}
use Rattle.store_model.specs.Lobs.{lob_of}
use Rattle.store_parts.specs.Standing.{AreLobs}
use Rattle.lob_model.specs.Pieces.{piece_versions, versions, place_of, head_place, joined, lob_at, HaveLength, AreFull}
use Rattle.lob_model.specs.Lobs.{IsLob}
use Rattle.lob_index.proofs.IndexLemmas.{few_index}
use Rattle.lob_index.specs.Heads.{nth}
use Rattle.read_model.specs.Buffer.{cut, left_behind, left_in}
use Rattle.read_views.specs.Steps.{piece_start, piece_room}

-- ---- all pieces at a version

pub record Splits (o : Option Version) (r : Option (List ℕ)) (bytes : List ℕ) : Type 0 where
  pub x : Version
  pub is : o ≡ Some x
  pub rest : List ℕ
  pub left : r ≡ Some rest
  pub both : bytes ≡ x.bytes ++ rest

no_bytes : (bytes : List ℕ) → (let n : Option (List ℕ) = None in n) ≡ Some bytes → ⊥
no_bytes bytes e = cc e

some_bytes : (a b : List ℕ) → Some a ≡ Some b → a ≡ b
some_bytes a b e = cc e

pub splits : (o : Option Version) (r : Option (List ℕ)) (bytes : List ℕ) → joined o r ≡ Some bytes
    → Splits o r bytes
splits None r bytes e = absurd (no_bytes bytes e)
splits (Some x) None bytes e = absurd (no_bytes bytes e)
splits (Some x) (Some rest) bytes e = record {
  x = x;
  is = refl;
  rest = rest;
  left = refl;
  both = sym (some_bytes (x.bytes ++ rest) bytes e);
}

-- each version of a piece is as long
same_long : (n v : ℕ) (xs : List Version) (x : Version) → HaveLength n xs → version_at xs v ≡ Some x
    → length x.bytes ≡ n
same_long n v [] x long found = absurd (none_here x found)
  where
    none_here : (x : Version) → (let o : Option Version = None in o) ≡ Some x → ⊥
    none_here x e = cc e
same_long n v (y ∷ ys) x long found =
    by (nat_le y.number v) found (same_long n v ys x long.1)
  where
    same : (a b : Version) → Some a ≡ Some b → a ≡ b
    same a b e = cc e

    by : (b : Bool) → cond b (Some y) (version_at ys v) ≡ Some x
        → (version_at ys v ≡ Some x → length x.bytes ≡ n) → length x.bytes ≡ n
    by true e rest = ap (λ (z : Version). length z.bytes) (sym (same y x e)) ∙ long.0
    by false e rest = rest e

-- ---- where a piece begins, where the first one has so much room

abbrev pub start_at : ℕ → ℕ → ℕ
start_at room zero = 0
start_at room (suc k) = room + k * 16_327

abbrev pub room_at : ℕ → ℕ → ℕ
room_at room zero = room
room_at room (suc k) = 16_327

start_next : (k : ℕ) → start_at 16_327 k ≡ k * 16_327
start_next zero = refl
start_next (suc k) = omega arith

room_next : (k : ℕ) → room_at 16_327 k ≡ 16_327
room_next zero = refl
room_next (suc k) = refl

pub start_is : (k : ℕ) → start_at 15_680 k ≡ piece_start k
start_is zero = refl
start_is (suc k) = refl

pub room_is : (k : ℕ) → room_at 15_680 k ≡ piece_room k
room_is zero = refl
room_is (suc k) = refl

-- so many bytes fit the piece behind k others, of all these
pub record Fits (room k n total : ℕ) (more : List Piece) : Type 0 where
  pub within : start_at room k + n ≤ total
  pub low : n ≤ room_at room k
  pub fills : (n ≡ room_at room k) ⊎ (start_at room k + n ≡ total)
  pub ends : more ≡ [] → start_at room k + n ≡ total

no_more : {A : Type 0} (x : A) (xs : List A) → x ∷ xs ≡ [] → ⊥
no_more x xs e = cc e

nil_more : {A : Type 0} (x : A) (xs : List A) → (let n : List A = [] in n) ≡ x ∷ xs → ⊥
nil_more x xs e = cc e

first_is : {A : Type 0} (x y : A) (xs ys : List A) → x ∷ xs ≡ y ∷ ys → x ≡ y
first_is x y xs ys e = cc e

rest_is : {A : Type 0} (x y : A) (xs ys : List A) → x ∷ xs ≡ y ∷ ys → xs ≡ ys
rest_is x y xs ys e = cc e

pub same_some : {A : Type 0} (x y : A) → Some x ≡ Some y → x ≡ y
same_some x y e = cc e

fits_here : (v room : ℕ) (p : Piece) (ms : List Piece) (x : Version) (bytes : List ℕ)
    → AreFull room 16_327 (p ∷ ms) → lob_at v (p ∷ ms) ≡ Some bytes → piece_at p v ≡ Some x
    → Fits room 0 (length x.bytes) (length bytes) ms
fits_here v room p [] x bytes full whole found =
    let s = splits (piece_at p v) (Some []) bytes whole in
    let is : s.x ≡ x = same_some s.x x (sym s.is ∙ found) in
    let long : length x.bytes ≡ length p.head.bytes =
    same_long (length p.head.bytes) v (p.head ∷ p.older) x (refl, full.1) found in
    let none : length s.rest ≡ 0 = ap length (some_bytes s.rest [] (sym s.left)) in
    let all : length bytes ≡ length x.bytes =
    let a = ap length s.both in
    let b = length-append s.x.bytes s.rest in
    let d = ap (λ (y : Version). length y.bytes) is in
    omega (arith, a, b, none, d) in
    record {
      within = omega (arith, all);
      low = let f = full.0 in omega (arith, long, f);
      fills = inr (omega (arith, all));
      ends = λ e. omega (arith, all);
    }
fits_here v room p (q ∷ ms) x bytes full whole found =
    let s = splits (piece_at p v) (lob_at v (q ∷ ms)) bytes whole in
    let is : s.x ≡ x = same_some s.x x (sym s.is ∙ found) in
    let long : length x.bytes ≡ room = same_long room v (p.head ∷ p.older) x full.0 found in
    let all : length x.bytes ≤ length bytes =
    let a = ap length s.both in
    let b = length-append s.x.bytes s.rest in
    let d = ap (λ (y : Version). length y.bytes) is in
    omega (arith, a, b, d) in
    record {
      within = omega (arith, all);
      low = omega (arith, long);
      fills = inl long;
      ends = λ e. absurd (no_more q ms e);
    }

pub fits : (v room k : ℕ) (ps : List Piece) (p : Piece) (more : List Piece) (x : Version)
    (bytes : List ℕ) → AreFull room 16_327 ps → lob_at v ps ≡ Some bytes → drop k ps ≡ p ∷ more
    → piece_at p v ≡ Some x → Fits room k (length x.bytes) (length bytes) more
fits v room zero [] p more x bytes full whole here found = absurd (nil_more p more here)
fits v room zero (q ∷ qs) p more x bytes full whole here found =
    let same : q ≡ p = first_is q p qs more here in
    let rest : qs ≡ more = rest_is q p qs more here in
    let f = fits_here v room q qs x bytes full whole
    (ap (λ (r : Piece). piece_at r v) same ∙ found) in
    subst (λ (l : List Piece). Fits room 0 (length x.bytes) (length bytes) l) rest f
fits v room (suc k) [] p more x bytes full whole here found = absurd (nil_more p more here)
fits v room (suc k) (q ∷ []) p more x bytes full whole here found =
    absurd (nil_more p more (sym (drop_all k [] (omega arith)) ∙ here))
fits v room (suc k) (q ∷ r ∷ rs) p more x bytes full whole here found =
    let s = splits (piece_at q v) (lob_at v (r ∷ rs)) bytes whole in
    let long : length s.x.bytes ≡ room = same_long room v (q.head ∷ q.older) s.x full.0 s.is in
    let f = fits v 16_327 k (r ∷ rs) p more x s.rest full.1 s.left here found in
    let a = ap length s.both in
    let b = length-append s.x.bytes s.rest in
    let t = start_next k in
    let u = room_next k in
    let w = f.within in
    let l = f.low in
    record {
      within = omega (arith, a, b, t, w, long);
      low = omega (arith, l, u);
      fills = elim f.fills [
        | inl is ↦ inl (is ∙ u)
        | inr is ↦ inr (omega (arith, a, b, t, is, long))
      ];
      ends = λ e. let g = f.ends e in omega (arith, a, b, t, g, long);
    }

-- where all pieces have a version so old, so has each
pub has_version : (v k : ℕ) (ps : List Piece) (p : Piece) (more : List Piece) (bytes : List ℕ)
    → lob_at v ps ≡ Some bytes → drop k ps ≡ p ∷ more → (x : Version) × (piece_at p v ≡ Some x)
has_version v k [] p more bytes whole here =
    absurd (nil_more p more (sym (drop_all k [] (omega arith)) ∙ here))
has_version v zero (q ∷ qs) p more bytes whole here =
    let s = splits (piece_at q v) (lob_at v qs) bytes whole in
    (s.x, ap (λ (r : Piece). piece_at r v) (sym (first_is q p qs more here)) ∙ s.is)
has_version v (suc k) (q ∷ qs) p more bytes whole here =
    let s = splits (piece_at q v) (lob_at v qs) bytes whole in
    has_version v k qs p more s.rest s.left here

-- ---- lists of pieces

pub drop_next : (k : ℕ) (ps : List Piece) (p : Piece) (more : List Piece) → drop k ps ≡ p ∷ more
    → drop (k + 1) ps ≡ more
drop_next k ps p more here =
    ap (λ n. drop n ps) (let e : k + 1 ≡ suc k = omega arith in e) ∙ drop_one k ps here
  where
    drop_one : (k : ℕ) (ps : List Piece) → drop k ps ≡ p ∷ more → drop (suc k) ps ≡ more
    drop_one zero [] here = absurd (nil_more p more here)
    drop_one zero (q ∷ qs) here = rest_is q p qs more here
    drop_one (suc k) [] here = absurd (nil_more p more here)
    drop_one (suc k) (q ∷ qs) here = drop_one k qs here

pub drop_low : (k : ℕ) (ps : List Piece) (p : Piece) (more : List Piece) → drop k ps ≡ p ∷ more
    → k < length ps
drop_low k [] p more here = absurd (nil_more p more (sym (drop_all k [] (omega arith)) ∙ here))
drop_low zero (q ∷ qs) p more here = omega arith
drop_low (suc k) (q ∷ qs) p more here = let l = drop_low k qs p more here in omega (arith, l)

pub split_at : (k : ℕ) (ps : List Piece) (p : Piece) (more : List Piece) → drop k ps ≡ p ∷ more
    → ps ≡ take k ps ++ p ∷ more
split_at k [] p more here = absurd (nil_more p more (sym (drop_all k [] (omega arith)) ∙ here))
split_at zero (q ∷ qs) p more here = here
split_at (suc k) (q ∷ qs) p more here =
    ap (λ (l : List Piece). q ∷ l) (split_at k qs p more here)

heads_drop : (k : ℕ) (ps : List Piece) → drop k (map head_place ps) ≡ map head_place (drop k ps)
heads_drop zero ps = refl
heads_drop (suc k) [] = refl
heads_drop (suc k) (p ∷ ps) = heads_drop k ps

-- the head behind so many others is that of the first piece there
pub nth_is : (k : ℕ) (ps : List Piece) → nth k (map head_place ps) ≡ first_of (map head_place (drop k ps))
nth_is k ps = ap first_of (heads_drop k ps)

pub nth_here : (k : ℕ) (ps : List Piece) (p : Piece) (more : List Piece) → drop k ps ≡ p ∷ more
    → nth k (map head_place ps) ≡ Some p.head.place
nth_here k ps p more here =
    nth_is k ps ∙ ap (λ (l : List Piece). first_of (map head_place l)) here

-- ---- a LOB of a store

pub record Stands (pages : Pages) (page : ℕ) (lob : Lob) : Type 0 where
  pub is : IsLob pages lob
  pub first : lob.page ≡ page

pub lob_stands : (pages : Pages) (ls : List Lob) (page : ℕ) (lob : Lob) → AreLobs pages ls
    → lob_of ls page ≡ Some lob → Stands pages page lob
lob_stands pages [] page lob all found = absurd (none_here found)
  where
    none_here : (let o : Option Lob = None in o) ≡ Some lob → ⊥
    none_here e = cc e
lob_stands pages (l ∷ ls) page lob all found =
    by (l.page == page) refl (λ e. lob_stands pages ls page lob all.1 e)
  where
    by : (b : Bool) → (l.page == page) ≡ b
        → (lob_of ls page ≡ Some lob → Stands pages page lob) → Stands pages page lob
    by true same rest =
        let is : l ≡ lob = same_some l lob
        (sym (ap (λ t. cond t (Some l) (lob_of ls page)) same) ∙ found) in
        record {
          is = subst (λ (m : Lob). IsLob pages m) is all.0;
          first = ap (λ (m : Lob). m.page) (sym is) ∙ eqb-true l.page page same;
        }
    by false same rest =
        rest (sym (ap (λ t. cond t (Some l) (lob_of ls page)) same) ∙ found)

versions_more : (ps : List Piece) → length ps ≤ length (versions ps)
versions_more [] = omega arith
versions_more (p ∷ ps) =
    let r = versions_more ps in
    let a = length-append (piece_versions p) (versions ps) in
    omega (arith, r, a)

-- a LOB of a store has fewer than 2 ^ 32 pieces
pub few_pieces : (pages : Pages) (lob : Lob) → IsMap pages → IsLob pages lob
    → length lob.pieces < 2 ^ 32
few_pieces pages lob m is =
    let index = few_index pages lob [] is in
    let few = m.size.few in
    let more = versions_more lob.pieces in
    let places = length-map (versions lob.pieces) place_of in
    let both = length-append (map place_of (versions lob.pieces)) (lob.free ++ []) in
    elim is.shape.all [
      | inl there ↦ omega (arith, there, index, few, more, places, both)
      | inr none ↦ omega (arith, none, more, places, both)
    ]

-- ---- the copied pieces of a buffer

pub cut_long : (lob size : ℕ) (ps buf : List ℕ) → length (cut lob size ps buf) ≡ length ps
cut_long lob size [] buf = refl
cut_long lob size (p ∷ ps) buf = ap (λ n. suc n) (cut_long lob 16_327 ps (drop size buf))

left_is_drop : (size : ℕ) (ps buf : List ℕ)
    → left_behind size ps buf ≡ drop (start_at size (length ps)) buf
left_is_drop size [] buf = refl
left_is_drop size (p ∷ ps) buf =
    left_is_drop 16_327 ps (drop size buf)
    ∙ drop-drop (start_at 16_327 (length ps)) size buf
    ∙ ap (λ n. drop (size + n) buf) (start_next (length ps))

-- nothing is left where the buffer ends before the next piece
pub none_left : (ps buf : List ℕ) → length buf ≤ piece_start (length ps) → left_in ps buf ≡ []
none_left ps buf short =
    let s = start_is (length ps) in
    left_is_drop 15_680 ps buf
    ∙ drop_all (start_at 15_680 (length ps)) buf (omega (arith, s, short))

-- so it is of any buffer as long
pub none_left_as : (ps old new : List ℕ) → length new ≡ length old → left_in ps old ≡ []
    → left_in ps new ≡ []
none_left_as ps old new same none =
    let e : drop (start_at 15_680 (length ps)) old ≡ [] = sym (left_is_drop 15_680 ps old) ∙ none in
    let l = length-drop (start_at 15_680 (length ps)) old in
    let z : length (drop (start_at 15_680 (length ps)) old) ≡ 0 = ap length e in
    left_is_drop 15_680 ps new
    ∙ drop_all (start_at 15_680 (length ps)) new (omega (arith, l, z, same))

-- all the bytes of pieces end where a further piece would begin
pub all_short : (v room : ℕ) (ps : List Piece) (bytes : List ℕ) → AreFull room 16_327 ps
    → lob_at v ps ≡ Some bytes → length bytes ≤ start_at room (length ps)
all_short v room [] bytes full whole =
    let e : length bytes ≡ 0 = ap length (some_bytes bytes [] (sym whole)) in omega (arith, e)
all_short v room (p ∷ []) bytes full whole =
    let s = splits (piece_at p v) (Some []) bytes whole in
    let f = fits_here v room p [] s.x bytes full whole s.is in
    let e = f.ends refl in
    let l = f.low in
    omega (arith, e, l)
all_short v room (p ∷ q ∷ qs) bytes full whole =
    let s = splits (piece_at p v) (lob_at v (q ∷ qs)) bytes whole in
    let long : length s.x.bytes ≡ room = same_long room v (p.head ∷ p.older) s.x full.0 s.is in
    let r = all_short v 16_327 (q ∷ qs) s.rest full.1 s.left in
    let a = ap length s.both in
    let b = length-append s.x.bytes s.rest in
    let t = start_next (length (q ∷ qs)) in
    omega (arith, a, b, t, r, long)

pub none_behind : (k : ℕ) (ps : List Piece) → drop k ps ≡ [] → length ps ≤ k
none_behind k ps none =
    let l = length-drop k ps in
    let z : length (drop k ps) ≡ 0 = ap length none in
    omega (arith, l, z)
