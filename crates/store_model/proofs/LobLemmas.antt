-- Pieces of LOBs under runs, and under changes of one LOB.
use Rattle.std.proofs.Common.{◌≡◌, ◌≢◌, inl, inr, ℕ, zero, suc, ◌<◌, Bool, true, false, nat_le, ◌==◌, if◌then◌else◌, List, [], ◌∷◌, ◌++◌, map, Option, Some, None, option_map, is_some, refl, sym, ap, ap₂, ◌∙◌}
use Rattle.std.proofs.lemmas.Bool.{lt-leb, ne_eqb}
use Rattle.std.proofs.lemmas.Bool.Decides.{eqb_tells}
use Rattle.std.proofs.lemmas.List.{map-append}
use Rattle.page_model.specs.Pages.{Address}
use Rattle.store_data.specs.Pieces.{Part, part_of, version_at, piece_at, pushed, popped, popped_to, dropped, all_but_last}
use Rattle.store_data.specs.Store.{Reference, Version, Piece, Lob, Run}
use Rattle.store_model.specs.Lobs.{part_list, parts_at, lob_of, pieces_of, parts}
use Rattle.store_model.specs.Runs.{laid, all_laid, version_laid, piece_laid, lob_laid, lobs_laid}
use Rattle.store_model.specs.Steps.{on_lob, without_lob, on_piece}
use Rattle.store_model.specs.Behind.{AtPiece}

-- ---- runs

all_laid-page : (rs : List Run) (x : Part) → (all_laid rs x).page ≡ x.page
all_laid-page [] x = refl
all_laid-page (r ∷ rs) x = all_laid-page rs (laid r x)

all_laid-at : (rs : List Run) (x : Part) → (all_laid rs x).at ≡ x.at
all_laid-at [] x = refl
all_laid-at (r ∷ rs) x = all_laid-at rs (laid r x)

part-laid : (rs : List Run) (v : Version) → part_of (version_laid rs v) ≡ all_laid rs (part_of v)
part-laid rs v = same_part (all_laid rs (part_of v)) v.page v.at (all_laid-page rs (part_of v)) (all_laid-at rs (part_of v))
  where
    same_part : (x : Part) (page at : ℕ) → x.page ≡ page → x.at ≡ at → record { page = page; at = at; bytes = x.bytes } ≡ x
    same_part x page at p a = ap₂ (λ (m n : ℕ). let y : Part = record { page = m; at = n; bytes = x.bytes } in y) (sym p) (sym a)

version_at-laid : (rs : List Run) (vs : List Version) (n : ℕ) → version_at (map (version_laid rs) vs) n ≡ option_map (version_laid rs) (version_at vs n)
version_at-laid rs [] n = refl
version_at-laid rs (v ∷ vs) n = by_test (nat_le v.number n) (version_at-laid rs vs n)
  where
    by_test : (b : Bool) → version_at (map (version_laid rs) vs) n ≡ option_map (version_laid rs) (version_at vs n)
        → (if b then Some (version_laid rs v) else version_at (map (version_laid rs) vs) n) ≡ option_map (version_laid rs) (if b then Some v else version_at vs n)
    by_test true rest = refl
    by_test false rest = rest

part_list-laid : (rs : List Run) (o : Option Version) → part_list (option_map (version_laid rs) o) ≡ map (all_laid rs) (part_list o)
part_list-laid rs None = refl
part_list-laid rs (Some v) = ap (λ (x : Part). x ∷ []) (part-laid rs v)

parts_at-laid : (rs : List Run) (ps : List Piece) (n : ℕ) → parts_at (map (piece_laid rs) ps) n ≡ map (all_laid rs) (parts_at ps n)
parts_at-laid rs [] n = refl
parts_at-laid rs (p ∷ ps) n =
    ap₂ (λ (a b : List Part). a ++ b) (ap part_list (version_at-laid rs (p.head ∷ p.older) n) ∙ part_list-laid rs (piece_at p n)) (parts_at-laid rs ps n)
    ∙ sym (map-append (all_laid rs) (part_list (piece_at p n)) (parts_at ps n))

pieces-laid : (rs : List Run) (lobs : List Lob) (page : ℕ) → pieces_of (lob_of (lobs_laid rs lobs) page) ≡ map (piece_laid rs) (pieces_of (lob_of lobs page))
pieces-laid rs [] page = refl
pieces-laid rs (l ∷ ls) page = by_test (l.page == page) (pieces-laid rs ls page)
  where
    by_test : (b : Bool) → pieces_of (lob_of (lobs_laid rs ls) page) ≡ map (piece_laid rs) (pieces_of (lob_of ls page))
        → pieces_of (if b then Some (lob_laid rs l) else lob_of (lobs_laid rs ls) page) ≡ map (piece_laid rs) (pieces_of (if b then Some l else lob_of ls page))
    by_test true rest = refl
    by_test false rest = rest

-- the parts of a reference get the runs that are laid over the LOBs
pub parts-laid : (rs : List Run) (lobs : List Lob) (r : Reference) → parts (lobs_laid rs lobs) r ≡ map (all_laid rs) (parts lobs r)
parts-laid rs lobs r = ap (λ ps. parts_at ps r.version) (pieces-laid rs lobs r.page) ∙ parts_at-laid rs (pieces_of (lob_of lobs r.page)) r.version

-- ---- one LOB changes

module _ (q : ℕ) where
  found : (b : Bool) (l : Lob) (xs ys : List Lob) → lob_of xs q ≡ lob_of ys q → (if b then Some l else lob_of xs q) ≡ (if b then Some l else lob_of ys q)
  found true l xs ys rest = refl
  found false l xs ys rest = rest

  -- another LOB stays
  pub lob-on_other : (page : ℕ) (f : Lob → Lob) (lobs : List Lob) → ((l : Lob) → (f l).page ≡ l.page) → q ≢ page → lob_of (on_lob page f lobs) q ≡ lob_of lobs q
  lob-on_other page f [] same other = refl
  lob-on_other page f (l ∷ ls) same other = elim (eqb_tells l.page page) [
    | inl here ↦ rw (here.0, same l, ne_eqb l.page q (λ e. other (sym e ∙ here.1))) refl
    | inr there ↦ rw there.0 (found (l.page == q) l (on_lob page f ls) ls (lob-on_other page f ls same other))
  ]

  pub lob-without_other : (page : ℕ) (lobs : List Lob) → q ≢ page → lob_of (without_lob page lobs) q ≡ lob_of lobs q
  lob-without_other page [] other = refl
  lob-without_other page (l ∷ ls) other = elim (eqb_tells l.page page) [
    | inl here ↦ rw (here.0, ne_eqb l.page q (λ e. other (sym e ∙ here.1))) refl
    | inr there ↦ rw there.0 (found (l.page == q) l (without_lob page ls) ls (lob-without_other page ls other))
  ]

  pub lob-with_other : (lobs : List Lob) (l : Lob) → q ≢ l.page → lob_of (lobs ++ l ∷ []) q ≡ lob_of lobs q
  lob-with_other [] l other = rw (ne_eqb l.page q (λ e. other (sym e))) refl
  lob-with_other (x ∷ xs) l other = found (x.page == q) x (xs ++ l ∷ []) xs (lob-with_other xs l other)

-- where one LOB changes, the changed one is found by its first page
pub lob-on_this : (page : ℕ) (f : Lob → Lob) (lobs : List Lob) → ((l : Lob) → (f l).page ≡ l.page) → lob_of (on_lob page f lobs) page ≡ option_map f (lob_of lobs page)
lob-on_this page f [] same = refl
lob-on_this page f (l ∷ ls) same = elim (eqb_tells l.page page) [
  | inl here ↦ rw here.0 (ap (λ (b : Bool). if b then Some (f l) else lob_of ls page) (ap (λ (n : ℕ). n == page) (same l) ∙ here.0))
  | inr other ↦ rw (other.0, other.0) (lob-on_this page f ls same)
]

-- pieces at a version that the change leaves
pub parts-on_lob : (page : ℕ) (f : Lob → Lob) (lobs : List Lob) (r : Reference) → ((l : Lob) → (f l).page ≡ l.page)
    → ((l : Lob) → lob_of lobs page ≡ Some l → parts_at (f l).pieces r.version ≡ parts_at l.pieces r.version) → parts (on_lob page f lobs) r ≡ parts lobs r
parts-on_lob page f [] r same kept = refl
parts-on_lob page f (l ∷ ls) r same kept = elim (eqb_tells l.page page) [
  | inl here ↦ rw here.0 (ap (λ (n : ℕ). parts_at (pieces_of (if n == r.page then Some (f l) else lob_of ls r.page)) r.version) (same l)
      ∙ by_here (l.page == r.page) (kept l (rw here.0 refl)))
  | inr there ↦ rw there.0 (by_there (l.page == r.page) (parts-on_lob page f ls r same (λ m e. kept m (rw there.0 e))))
]
  where
    by_here : (b : Bool) → parts_at (f l).pieces r.version ≡ parts_at l.pieces r.version
        → parts_at (pieces_of (if b then Some (f l) else lob_of ls r.page)) r.version ≡ parts_at (pieces_of (if b then Some l else lob_of ls r.page)) r.version
    by_here true keep = keep
    by_here false keep = refl

    by_there : (b : Bool) → parts (on_lob page f ls) r ≡ parts ls r
        → parts_at (pieces_of (if b then Some l else lob_of (on_lob page f ls) r.page)) r.version ≡ parts_at (pieces_of (if b then Some l else lob_of ls r.page)) r.version
    by_there true rest = refl
    by_there false rest = rest

-- ---- one piece changes

-- the parts at a version stay where one piece changes and has the same data at that version
pub parts-on_piece : (k : ℕ) (f : Piece → Piece) (ps : List Piece) (v : ℕ) → AtPiece k (λ p. part_list (piece_at (f p) v) ≡ part_list (piece_at p v)) ps
    → parts_at (on_piece k f ps) v ≡ parts_at ps v
parts-on_piece k f [] v each = refl
parts-on_piece zero f (p ∷ ps) v each = ap (λ (xs : List Part). xs ++ parts_at ps v) each
parts-on_piece (suc k) f (p ∷ ps) v each = ap (λ (xs : List Part). part_list (piece_at p v) ++ xs) (parts-on_piece k f ps v each)

-- an older version doesn't see a new one
pub piece-pushed : (node : Address) (x : Version) (p : Piece) (v : ℕ) → v < x.number → part_list (piece_at (pushed node x p) v) ≡ part_list (piece_at p v)
piece-pushed node x p v below = rw (lt-leb x.number v below) (by_test (nat_le p.head.number v))
  where
    by_test : (b : Bool) → part_list (if b then Some (record p.head { place = node }) else version_at p.older v) ≡ part_list (if b then Some p.head else version_at p.older v)
    by_test true = refl
    by_test false = refl

-- nor that it goes
pub piece-popped : (p : Piece) (v : ℕ) → v < p.head.number → part_list (piece_at (popped p) v) ≡ part_list (piece_at p v)
piece-popped p v below = by_older p.older refl
  where
    by_older : (vs : List Version) → p.older ≡ vs → part_list (piece_at (popped_to p.head.place vs p) v) ≡ part_list (piece_at p v)
    by_older [] e = refl
    by_older (x ∷ xs) e = rw (lt-leb p.head.number v below, e) (by_test (nat_le x.number v))
      where
        by_test : (b : Bool) → part_list (if b then Some (record x { place = p.head.place }) else version_at xs v) ≡ part_list (if b then Some x else version_at xs v)
        by_test true = refl
        by_test false = refl

-- a version that is found without the oldest is the one found with it
version_at-front : (vs : List Version) (v : ℕ) → is_some (version_at (all_but_last vs) v) ≡ true → version_at (all_but_last vs) v ≡ version_at vs v
version_at-front [] v there = refl
version_at-front (x ∷ []) v there = absurd (cc there)
version_at-front (x ∷ y ∷ ys) v there = by_test (nat_le x.number v) (version_at-front (y ∷ ys) v) there
  where
    by_test : (b : Bool) → (is_some (version_at (all_but_last (y ∷ ys)) v) ≡ true → version_at (all_but_last (y ∷ ys)) v ≡ version_at (y ∷ ys) v) → is_some (if b then Some x else version_at (all_but_last (y ∷ ys)) v) ≡ true
        → (if b then Some x else version_at (all_but_last (y ∷ ys)) v) ≡ (if b then Some x else version_at (y ∷ ys) v)
    by_test true rest h = refl
    by_test false rest h = rest h

-- a piece that finds a version without its oldest one has the same data there as with it
pub piece-dropped : (p : Piece) (v : ℕ) → is_some (piece_at (dropped p) v) ≡ true → part_list (piece_at (dropped p) v) ≡ part_list (piece_at p v)
piece-dropped p v there = by_test (nat_le p.head.number v) there
  where
    by_test : (b : Bool) → is_some (if b then Some p.head else version_at (all_but_last p.older) v) ≡ true
        → part_list (if b then Some p.head else version_at (all_but_last p.older) v) ≡ part_list (if b then Some p.head else version_at p.older v)
    by_test true h = refl
    by_test false h = ap part_list (version_at-front p.older v h)
