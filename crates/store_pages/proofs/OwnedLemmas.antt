-- The pages that a store's parts hold are those that it owns.
use Rattle.std.proofs.Common.{◌≡◌, inl, inr, ℕ, ◌+◌, ◌≤◌, ◌==◌, Bool, true, false, cond, if◌then◌else◌, List, [], ◌∷◌, ◌++◌, Option, Some, refl, sym, ap, ◌∙◌, arith}
use Rattle.std.proofs.lemmas.Bool.{eq-eqb}
use Rattle.std.proofs.lemmas.Bool.Decides.{eqb_tells}
use Rattle.std.proofs.lemmas.List.{append_assoc}
use Rattle.page_model.specs.Counts.{one_if, times}
use Rattle.store_data.specs.Store.{Version, Piece, Lob, Store}
use Rattle.lob_model.specs.Lobs.{lob_pages, data_pages}
use Rattle.lob_model.specs.Pieces.{versions}
use Rattle.undo_model.specs.Data.{Log as LogThere}
use Rattle.undo_model.specs.LogLists.{pages_in, all_pages}
use Rattle.store_model.specs.Lobs.{lob_of}
use Rattle.store_model.specs.Owned.{data_pages as owned_data, piece_pages, rest_of, lob_pages as owned_lob_pages, log_pages, owned_lobs, owned}
use Rattle.store_model.specs.Held.{first_pages, HasLobs}
use Rattle.store_model.proofs.CountLemmas.{sum_of, weight, times-lob_pages}
use Rattle.page_model.proofs.CountLemmas.{times-append, times_here}
use Rattle.store_parts.specs.Stored.{Stored, row_pages, pages_of, held}
use Rattle.store_parts.specs.Shows.{logs_of, Shows}
use Rattle.store_parts.proofs.FrameLemmas.{times-parts}

-- ---- one LOB

data_same : (n first : ℕ) (xs : List Version) → times n (owned_data first xs) ≡ times n (data_pages first xs)
data_same n first [] = refl
data_same n first (x ∷ xs) = by (x.page == first) (data_same n first xs)
  where
    by : (b : Bool) → times n (owned_data first xs) ≡ times n (data_pages first xs)
        → times n ((if b then [] else x.page ∷ []) ++ owned_data first xs) ≡ times n (cond b (data_pages first xs) (x.page ∷ data_pages first xs))
    by true r = r
    by false r = omega (arith, r)

-- the data pages of two lists of versions joined count as those of each, added up
pub data_split : (n first : ℕ) (xs ys : List Version) → times n (data_pages first (xs ++ ys)) ≡ times n (data_pages first xs) + times n (data_pages first ys)
data_split n first [] ys = omega arith
data_split n first (x ∷ xs) ys = by (x.page == first) (data_split n first xs ys)
  where
    by : (b : Bool) → times n (data_pages first (xs ++ ys)) ≡ times n (data_pages first xs) + times n (data_pages first ys)
        → times n (cond b (data_pages first (xs ++ ys)) (x.page ∷ data_pages first (xs ++ ys))) ≡ times n (cond b (data_pages first xs) (x.page ∷ data_pages first xs)) + times n (data_pages first ys)
    by true r = r
    by false r = omega (arith, r)

pieces_same : (n first : ℕ) (ps : List Piece) → times n (piece_pages first ps) ≡ times n (data_pages first (versions ps))
pieces_same n first [] = refl
pieces_same n first (p ∷ ps) =
    let a = times-append n (owned_data first (p.head ∷ p.older)) (piece_pages first ps) in
    let b = data_split n first (p.head ∷ p.older) (versions ps) in
    let c = data_same n first (p.head ∷ p.older) in
    let r = pieces_same n first ps in
    omega (arith, a, b, c, r)

lob_same : (n : ℕ) (l : Lob) → times n (l.page ∷ rest_of (Some l)) ≡ times n (lob_pages l)
lob_same n l =
    let a = times-append n l.index (piece_pages l.page l.pieces) in
    let b = times-append n l.index (data_pages l.page (versions l.pieces)) in
    let c = pieces_same n l.page l.pieces in
    omega (arith, a, b, c)

-- ---- the first pages, in any order

abbrev without : ℕ → List ℕ → List ℕ
without p [] = []
without p (q ∷ qs) = cond (q == p) qs (q ∷ without p qs)

sum_without : (w : ℕ → ℕ) (p : ℕ) (qs : List ℕ) → 1 ≤ times p qs → sum_of w qs ≡ w p + sum_of w (without p qs)
sum_without w p [] there = absurd (omega (arith, there))
sum_without w p (q ∷ qs) there = elim (eqb_tells q p) [
  | inl same ↦ ap (λ k. w k + sum_of w qs) same.1 ∙ ap (λ (b : Bool). w p + sum_of w (cond b qs (q ∷ without p qs))) (sym same.0)
  | inr other ↦ (
      let z : one_if (q == p) ≡ 0 = ap one_if other.0 in
      let r = sum_without w p qs (omega (arith, z, there)) in
      let e : sum_of w (cond (q == p) qs (q ∷ without p qs)) ≡ w q + sum_of w (without p qs) = ap (λ (b : Bool). sum_of w (cond b qs (q ∷ without p qs))) other.0 in
      omega (arith, r, e)
      )
]

times_without : (n p : ℕ) (qs : List ℕ) → 1 ≤ times p qs → times n qs ≡ one_if (p == n) + times n (without p qs)
times_without n p [] there = absurd (omega (arith, there))
times_without n p (q ∷ qs) there = elim (eqb_tells q p) [
  | inl same ↦ ap (λ k. one_if (k == n) + times n qs) same.1 ∙ ap (λ (b : Bool). one_if (p == n) + times n (cond b qs (q ∷ without p qs))) (sym same.0)
  | inr other ↦ (
      let z : one_if (q == p) ≡ 0 = ap one_if other.0 in
      let r = times_without n p qs (omega (arith, z, there)) in
      let e : times n (cond (q == p) qs (q ∷ without p qs)) ≡ one_if (q == n) + times n (without p qs) = ap (λ (b : Bool). times n (cond b qs (q ∷ without p qs))) other.0 in
      omega (arith, r, e)
      )
]

sum_counted : (w : ℕ → ℕ) (ps qs : List ℕ) → ((n : ℕ) → times n ps ≡ times n qs) → sum_of w ps ≡ sum_of w qs
sum_counted w [] [] same = refl
sum_counted w [] (q ∷ qs) same = absurd (no (let s = same q in let h = times_here q qs in omega (arith, s, h)))
  where
    no : 1 ≤ 0 → ⊥
    no h = absurd (omega arith)
sum_counted w (p ∷ ps) qs same =
    let there : 1 ≤ times p qs = (let s = same p in let h = times_here p ps in omega (arith, s, h)) in
    let r = sum_counted w ps (without p qs) (λ n. let s = same n in let t = times_without n p qs there in omega (arith, s, t)) in
    let e = sum_without w p qs there in
    omega (arith, r, e)

-- ---- all LOBs, which begin in different pages

found_in : (vs : List Lob) (l : Lob) (ls : List Lob) → times l.page (first_pages vs) ≡ 0 → lob_of (vs ++ l ∷ ls) l.page ≡ Some l
found_in [] l ls none = ap (λ (b : Bool). if b then Some l else lob_of ls l.page) (eq-eqb l.page l.page refl)
found_in (v ∷ vs) l ls none = elim (eqb_tells v.page l.page) [
  | inl same ↦ absurd (no (let e : one_if (v.page == l.page) ≡ 1 = ap one_if same.0 in omega (arith, none, e)))
  | inr other ↦ ap (λ (b : Bool). if b then Some v else lob_of (vs ++ l ∷ ls) l.page) other.0 ∙ found_in vs l ls (let e : one_if (v.page == l.page) ≡ 0 = ap one_if other.0 in omega (arith, none, e))
]
  where
    no : 1 ≤ 0 → ⊥
    no h = absurd (omega arith)

first-append : (n : ℕ) (vs ws : List Lob) → times n (first_pages (vs ++ ws)) ≡ times n (first_pages vs) + times n (first_pages ws)
first-append n [] ws = omega arith
first-append n (v ∷ vs) ws = let r = first-append n vs ws in omega (arith, r)

sum_of_lobs : (n : ℕ) (lobs vs ws : List Lob) → lobs ≡ vs ++ ws → ((m : ℕ) → times m (first_pages lobs) ≤ 1) → sum_of (weight lobs n) (first_pages ws) ≡ times n (pages_of ws)
sum_of_lobs n lobs vs [] cut once = refl
sum_of_lobs n lobs vs (l ∷ ws) cut once =
    let none : times l.page (first_pages vs) ≡ 0 = (let o = once l.page in let e : times l.page (first_pages lobs) ≡ times l.page (first_pages (vs ++ l ∷ ws)) = ap (λ ls. times l.page (first_pages ls)) cut in
    let a = first-append l.page vs (l ∷ ws) in let h = times_here l.page (first_pages ws) in omega (arith, o, e, a, h)) in
    let here : weight lobs n l.page ≡ times n (lob_pages l) = ap (λ ls. times n (l.page ∷ rest_of (lob_of ls l.page))) cut ∙ ap (λ (o : Option Lob). times n (l.page ∷ rest_of o)) (found_in vs l ws none) ∙ lob_same n l in
    let rest = sum_of_lobs n lobs (vs ++ l ∷ []) ws (cut ∙ sym (append_assoc vs (l ∷ []) ws)) once in
    let a = times-append n (lob_pages l) (pages_of ws) in
    omega (arith, here, rest, a)

-- ---- logs

logs_same : (ls : List LogThere) → log_pages (logs_of ls) ≡ all_pages ls
logs_same [] = refl
logs_same (l ∷ ls) = ap (λ ns. pages_in l.parts ++ ns) (logs_same ls)

first_held : (n : ℕ) (ls : List Lob) → times n (first_pages ls) ≤ times n (pages_of ls)
first_held n [] = omega arith
first_held n (l ∷ ls) = let r = first_held n ls in let a = times-append n (lob_pages l) (pages_of ls) in omega (arith, r, a)

-- a store owns the pages that its parts hold, where it owns each LOB once and holds no page twice
pub held_owned : (s : Stored) (store : Store) (n : ℕ) → Shows s store → HasLobs store → ((m : ℕ) → times m (held s) ≤ 1) → times n (owned store) ≡ times n (held s)
held_owned s store n is has once =
    let once_lobs : (m : ℕ) → times m (first_pages store.lobs) ≤ 1 = λ m. (let o = once m in let p = times-parts m s in let f = first_held m s.lobs in
    let e : times m (first_pages store.lobs) ≡ times m (first_pages s.lobs) = ap (λ ls. times m (first_pages ls)) is.lobs in omega (arith, o, p, f, e)) in
    let a = times-append n store.row_pages (log_pages store.active ++ (log_pages store.committed ++ owned_lob_pages store.lobs (owned_lobs store))) in
    let b = times-append n (log_pages store.active) (log_pages store.committed ++ owned_lob_pages store.lobs (owned_lobs store)) in
    let c = times-append n (log_pages store.committed) (owned_lob_pages store.lobs (owned_lobs store)) in
    let d = times-lob_pages n store.lobs (owned_lobs store) in
    let e = sum_counted (weight store.lobs n) (owned_lobs store) (first_pages store.lobs) has in
    let f = sum_of_lobs n store.lobs [] store.lobs refl once_lobs in
    let g : times n (pages_of store.lobs) ≡ times n (pages_of s.lobs) = ap (λ ls. times n (pages_of ls)) is.lobs in
    let h : times n (log_pages store.active) ≡ times n (all_pages s.active) = ap (times n) (ap log_pages is.active ∙ logs_same s.active) in
    let i : times n (log_pages store.committed) ≡ times n (all_pages s.committed) = ap (times n) (ap log_pages is.committed ∙ logs_same s.committed) in
    let j : times n store.row_pages ≡ times n (row_pages s.rows) = ap (times n) is.row_pages in
    let p = times-parts n s in
    omega (arith, a, b, c, d, e, f, g, h, i, j, p)
