-- Counting owned pages.
use Rattle.std.proofs.Common.{◌≡◌, ◌≢◌, ◌⊎◌, inl, inr, ℕ, suc, ◌+◌, ◌<◌, ◌≤◌, Bool, true, false, nat_lt, ◌==◌, List, [], ◌∷◌, ◌++◌, Option, Some, option_map, refl, sym, ap, ap₂, subst, ◌∙◌, arith}
use Rattle.std.proofs.lemmas.Bool.{cases_eq, ne_eqb, eq-eqb}
use Rattle.std.proofs.lemmas.Bool.Decides.{eqb_tells, leb_tells}
use Rattle.std.specs.Ordering.{nat_cmp}
use Rattle.std.specs.declared.cmp.Ordering.TheVariants.{Less, Equal, Greater}
use Rattle.page_model.specs.Counts.{one_if, times}
use Rattle.page_model.proofs.CountLemmas.{times-append}
use Rattle.store_data.specs.Store.{Version, Piece, Lob}
use Rattle.store_model.specs.Lobs.{lob_of}
use Rattle.store_model.specs.Steps.{on_lob}
use Rattle.store_model.specs.Owned.{data_page, data_pages, piece_pages, rest_of, lob_pages, IsNotAmong, AreDifferent, IsAmong}
use Rattle.store_model.proofs.LobLemmas.{lob-on_other, lob-on_this}

-- ---- no page twice

-- a page that isn't in a list is there zero times
pub times_none : (n : ℕ) (ms : List ℕ) → IsNotAmong n ms → times n ms ≡ 0
times_none n [] none = refl
times_none n (m ∷ ms) none = rw (ne_eqb m n none.0) (let r = times_none n ms none.1 in omega (arith, r))

pub none_times : (n : ℕ) (ms : List ℕ) → times n ms ≡ 0 → IsNotAmong n ms
none_times n [] none = tt
none_times n (m ∷ ms) none = elim (eqb_tells m n) [
  | inl same ↦ absurd (no (subst (λ (b : Bool). one_if b + times n ms ≡ 0) same.0 none))
  | inr other ↦ (other.1, none_times n ms (let e : one_if (m == n) ≡ 0 = ap one_if other.0 in omega (arith, e, none)))
]
  where
    no : 1 + times n ms ≡ 0 → ⊥
    no e = absurd (zero_not (omega (arith, e)))
      where
        zero_not : 1 ≤ 0 → ⊥
        zero_not h = absurd (omega arith)

-- a list of different pages has each one at most once
pub different_once : (n : ℕ) (ms : List ℕ) → AreDifferent ms → times n ms ≤ 1
different_once n [] all = omega arith
different_once n (m ∷ ms) all = elim (eqb_tells m n) [
  | inl same ↦ let z : times n ms ≡ 0 = times_none n ms (subst (λ x. IsNotAmong x ms) same.1 all.0) in let e : one_if (m == n) ≡ 1 = ap one_if same.0 in omega (arith, z, e)
  | inr other ↦ let r = different_once n ms all.1 in let e : one_if (m == n) ≡ 0 = ap one_if other.0 in omega (arith, r, e)
]

-- a list that has each page at most once is one of different pages
pub once_different : (ms : List ℕ) → ((n : ℕ) → times n ms ≤ 1) → AreDifferent ms
once_different [] once = tt
once_different (m ∷ ms) once = (
  none_times m ms (let e : one_if (m == m) ≡ 1 = ap one_if (eq-eqb m m refl) in let o = once m in omega (arith, e, o)),
  once_different ms (λ n. let o = once n in omega (arith, o)),
)

-- ---- weights of LOBs

-- the sum of the weights of a list's pages
abbrev pub sum_of : (ℕ → ℕ) → List ℕ → ℕ
sum_of w [] = 0
sum_of w (p ∷ ps) = w p + sum_of w ps

-- the sum over a joined list is the sum over both its parts
pub sum-append : (w : ℕ → ℕ) (xs ys : List ℕ) → sum_of w (xs ++ ys) ≡ sum_of w xs + sum_of w ys
sum-append w [] ys = omega arith
sum-append w (x ∷ xs) ys = let r = sum-append w xs ys in omega (arith, r)

-- weights that agree on each page of a list have the same sum over it
pub sum_same : (v w : ℕ → ℕ) (ps : List ℕ) → ((p : ℕ) → IsAmong p ps → v p ≡ w p) → sum_of v ps ≡ sum_of w ps
sum_same v w [] same = refl
sum_same v w (p ∷ ps) same = ap₂ (λ (a b : ℕ). a + b) (same p (inl refl)) (sum_same v w ps (λ q there. same q (inr there)))

-- how often a page is among those of one LOB
abbrev pub weight : List Lob → ℕ → ℕ → ℕ
weight lobs n page = times n (page ∷ rest_of (lob_of lobs page))

-- a page is among those of LOBs as often as it is among those of each, summed up
pub times-lob_pages : (n : ℕ) (lobs : List Lob) (ps : List ℕ) → times n (lob_pages lobs ps) ≡ sum_of (weight lobs n) ps
times-lob_pages n lobs [] = refl
times-lob_pages n lobs (p ∷ ps) = times-append n (p ∷ rest_of (lob_of lobs p)) (lob_pages lobs ps) ∙ ap (λ (m : ℕ). weight lobs n p + m) (times-lob_pages n lobs ps)

-- one LOB changes, which is owned once
pub sum_on : (n page : ℕ) (f : Lob → Lob) (lobs : List Lob) (l : Lob) (ps : List ℕ) → ((m : Lob) → (f m).page ≡ m.page) → lob_of lobs page ≡ Some l → AreDifferent ps → IsAmong page ps
    → sum_of (weight (on_lob page f lobs) n) ps + times n (rest_of (Some l)) ≡ sum_of (weight lobs n) ps + times n (rest_of (Some (f l)))
sum_on n page f lobs l [] same there all among = absurd among
sum_on n page f lobs l (p ∷ ps) same there all among = elim (cases_eq p page) [
  | inl here ↦
      let a : weight (on_lob page f lobs) n p ≡ times n (page ∷ rest_of (Some (f l))) = ap (weight (on_lob page f lobs) n) here ∙ ap (λ (o : Option Lob). times n (page ∷ rest_of o)) (lob-on_this page f lobs same ∙ ap (option_map f) there) in
      let b : weight lobs n p ≡ times n (page ∷ rest_of (Some l)) = ap (weight lobs n) here ∙ ap (λ (o : Option Lob). times n (page ∷ rest_of o)) there in
      let c : sum_of (weight (on_lob page f lobs) n) ps ≡ sum_of (weight lobs n) ps = sum_same (weight (on_lob page f lobs) n) (weight lobs n) ps (λ q in_ps. other q (λ e. not_in q ps in_ps (subst (λ x. IsNotAmong x ps) (here ∙ sym e) all.0))) in
      omega (arith, a, b, c)
  | inr differ ↦
      let a : weight (on_lob page f lobs) n p ≡ weight lobs n p = other p differ in
      let r = sum_on n page f lobs l ps same there all.1 (elim among [ inl e ↦ absurd (differ e) | inr rest ↦ rest ]) in
      omega (arith, a, r)
]
  where
    other : (q : ℕ) → q ≢ page → weight (on_lob page f lobs) n q ≡ weight lobs n q
    other q differ = ap (λ (o : Option Lob). times n (q ∷ rest_of o)) (lob-on_other q page f lobs same differ)

    not_in : (q : ℕ) (qs : List ℕ) → IsAmong q qs → IsNotAmong q qs → ⊥
    not_in q [] there none = there
    not_in q (r ∷ rs) there none = elim there [ inl e ↦ none.0 e | inr rest ↦ not_in q rs rest none.1 ]

-- ---- what each change of a piece takes or gives

-- a page is among the data of joined pieces as often as among those of both lists
pub pieces-append : (n first : ℕ) (ps qs : List Piece) → times n (piece_pages first (ps ++ qs)) ≡ times n (piece_pages first ps) + times n (piece_pages first qs)
pieces-append n first [] qs = omega arith
pieces-append n first (p ∷ ps) qs =
    let r = pieces-append n first ps qs in
    let a = times-append n (data_pages first (p.head ∷ p.older)) (piece_pages first (ps ++ qs)) in
    let b = times-append n (data_pages first (p.head ∷ p.older)) (piece_pages first ps) in omega (arith, r, a, b)

-- a page is among the data of joined versions as often as among those of both lists
pub data-append : (n first : ℕ) (vs ws : List Version) → times n (data_pages first (vs ++ ws)) ≡ times n (data_pages first vs) + times n (data_pages first ws)
data-append n first [] ws = omega arith
data-append n first (v ∷ vs) ws =
    let r = data-append n first vs ws in let a = times-append n (data_page first v) (data_pages first (vs ++ ws)) in let b = times-append n (data_page first v) (data_pages first vs) in omega (arith, r, a, b)

-- ---- rows in rising order

-- the comparison of two numbers tells which of less, equal and greater holds
pub cmp_tells : (a b : ℕ) → ((nat_cmp a b ≡ Less) × (a < b)) ⊎ (((nat_cmp a b ≡ Equal) × (a ≡ b)) ⊎ ((nat_cmp a b ≡ Greater) × (b < a)))
cmp_tells a b = elim (ltb_tells a b) [
  | inl low ↦ inl (rw low.0 refl, low.1)
  | inr high ↦ elim (eqb_tells a b) [
    | inl same ↦ inr (inl (rw (high.0, same.0) refl, same.1))
    | inr other ↦ inr (inr (rw (high.0, other.0) refl, greater other.1 high.1))
  ]
]
  where
    ltb_tells : (a b : ℕ) → ((nat_lt a b ≡ true) × (a < b)) ⊎ ((nat_lt a b ≡ false) × (b ≤ a))
    ltb_tells a b = elim (leb_tells (suc a) b) [ inl low ↦ inl low | inr high ↦ inr (high.0, omega (arith, high.1)) ]

    greater : a ≢ b → b ≤ a → b < a
    greater differ low = elim (leb_tells a b) [
      | inl up ↦ absurd (differ (omega (arith, up.1, low)))
      | inr down ↦ down.1
    ]
