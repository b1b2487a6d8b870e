-- How often numbers stand in lists, and how many different ones below a number there can be.
use Rattle.std.proofs.Common.{◌≡◌, inl, inr, ℕ, zero, suc, ◌+◌, ◌<◌, ◌≤◌, ◌==◌, List, [], ◌∷◌, ◌++◌, length, refl, ap, arith, lit≤}
use Rattle.std.proofs.lemmas.Bool.{cases_eq, eq-eqb, ne_eqb}
use Rattle.page_model.specs.Counts.{one_if, times}

-- a number in front of others
pub times_here : (n : ℕ) (ns : List ℕ) → 1 ≤ times n (n ∷ ns)
times_here n ns = let e : one_if (n == n) ≡ 1 = ap one_if (eq-eqb n n refl) in omega (arith, e)

-- numbers in two lists
pub times-append : (n : ℕ) (xs ys : List ℕ) → times n (xs ++ ys) ≡ times n xs + times n ys
times-append n [] ys = omega arith
times-append n (x ∷ xs) ys = omega (arith, times-append n xs ys)

-- ---- how many below a number

abbrev count_below : ℕ → List ℕ → ℕ
count_below zero ns = 0
count_below (suc k) ns = count_below k ns + times k ns

below_more : (k m : ℕ) (ns : List ℕ) → count_below k (m ∷ ns) ≡ count_below k (m ∷ []) + count_below k ns
below_more zero m ns = refl
below_more (suc k) m ns = let r = below_more k m ns in omega (arith, r)

below_none : (k m : ℕ) → k ≤ m → count_below k (m ∷ []) ≡ 0
below_none zero m low = refl
below_none (suc k) m low = let r = below_none k m (omega (arith, low)) in let z : one_if (m == k) ≡ 0 = ap one_if (ne_eqb m k (λ e. absurd (no (omega (arith, e, low))))) in omega (arith, r, z)
  where
    no : 1 ≤ 0 → ⊥
    no h = absurd (omega arith)

below_one : (k m : ℕ) → m < k → count_below k (m ∷ []) ≡ 1
below_one zero m low = absurd (omega (arith, low))
below_one (suc k) m low = elim (cases_eq m k) [
  | inl same ↦ (let z : one_if (m == k) ≡ 1 = ap one_if (eq-eqb m k same) in let r = below_none k m (omega (arith, same)) in omega (arith, r, z))
  | inr other ↦ (let z : one_if (m == k) ≡ 0 = ap one_if (ne_eqb m k other) in let r = below_one k m (omega (arith, low, other)) in omega (arith, r, z))
]

all_below : (k : ℕ) (ns : List ℕ) → ((n : ℕ) → 1 ≤ times n ns → n < k) → count_below k ns ≡ length ns
all_below zero [] low = refl
all_below (suc k) [] low = let r = all_below k [] (λ n h. absurd (omega (arith, h))) in omega (arith, r)
all_below k (m ∷ ns) low =
    let a = below_more k m ns in
    let b = below_one k m (low m (times_here m ns)) in
    let c = all_below k ns (λ n h. low n (omega (arith, h))) in
    omega (arith, a, b, c)

count_few : (k : ℕ) (ns : List ℕ) → ((n : ℕ) → times n ns ≤ 1) → count_below k ns ≤ k
count_few zero ns once = lit≤ tt
count_few (suc k) ns once = let r = count_few k ns once in let o = once k in omega (arith, r, o)

-- numbers that are different and below k are at most k
pub few_pages : (k : ℕ) (ns : List ℕ) → ((n : ℕ) → times n ns ≤ 1) → ((n : ℕ) → 1 ≤ times n ns → n < k) → length ns ≤ k
few_pages k ns once low = let a = all_below k ns low in let b = count_few k ns once in omega (arith, a, b)
