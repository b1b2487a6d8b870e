-- Lists of different numbers.
use Rattle.std.proofs.Common.{◌≡◌, ◌≢◌, inl, inr, ℕ, zero, suc, ◌+◌, ◌<◌, ◌≤◌, ◌==◌, Bool, true, false, ◌||◌, List, [], ◌∷◌, ◌++◌, length, get_or, refl, sym, ap, ◌∙◌, arith}
use Rattle.std.proofs.lemmas.Bool.{cases_eq, cases_Bool, eq-eqb, ne_eqb}
use Rattle.page_model.specs.Steps.{among, different}
use Rattle.page_model.proofs.StepLemmas.{among-append}

or_true : (x : Bool) → (x || true) ≡ true
or_true true = refl
or_true false = refl

-- the number at each place of a list is among the list
pub among_get : (xs : List ℕ) (k d : ℕ) → k < length xs → among xs (get_or xs k d) ≡ true
among_get [] k d below = absurd (omega arith)
among_get (x ∷ xs) zero d below = rw (eq-eqb x x refl) refl
among_get (x ∷ xs) (suc k) d below = rw (among_get xs k d (omega arith)) (or_true (get_or xs k d == x))

pub different_few : (xs : List ℕ) → different xs ≤ length xs
different_few [] = omega arith
different_few (x ∷ xs) = elim (cases_Bool (among xs x)) [
  | inl again ↦ rw again (omega (arith, different_few xs))
  | inr once ↦ rw once (omega (arith, different_few xs))
]

different_tail : (x : ℕ) (xs : List ℕ) → different (x ∷ xs) ≡ length (x ∷ xs) → (among xs x ≡ false) × (different xs ≡ length xs)
different_tail x xs all = elim (cases_Bool (among xs x)) [
  | inl again ↦ absurd (let e : different xs ≡ 1 + length xs = (rw again at all) ∙ omega arith in omega (arith, e, different_few xs))
  | inr once ↦ (once, let e = rw once at all in omega (arith, e))
]

-- numbers at two places
pub apart_get : (xs : List ℕ) (i k d : ℕ) → different xs ≡ length xs → i < length xs → k < length xs → i ≢ k → get_or xs i d ≢ get_or xs k d
apart_get [] i k d all below below' other = absurd (omega arith)
apart_get (x ∷ xs) zero zero d all below below' other = absurd (other refl)
apart_get (x ∷ xs) zero (suc k) d all below below' other = λ same.
    let there : among xs x ≡ true = ap (among xs) same ∙ among_get xs k d (omega arith) in
    let not = (different_tail x xs all).0 in cc
apart_get (x ∷ xs) (suc i) zero d all below below' other = λ same.
    let there : among xs x ≡ true = ap (among xs) (sym same) ∙ among_get xs i d (omega arith) in
    let not = (different_tail x xs all).0 in cc
apart_get (x ∷ xs) (suc i) (suc k) d all below below' other =
    apart_get xs i k d (different_tail x xs all).1 (omega arith) (omega arith) (λ same. other (ap suc same))

-- one number more
pub different_push : (xs : List ℕ) (y : ℕ) → among xs y ≡ false → different (xs ++ y ∷ []) ≡ different xs + 1
different_push [] y new = refl
different_push (x ∷ xs) y new = elim (cases_eq y x) [
  | inl same ↦ let e = rw (eq-eqb y x same) at new in cc
  | inr other ↦
      let rest : among xs y ≡ false = rw (ne_eqb y x other) at new in
      let ih = different_push xs y rest in
      let here : among (xs ++ y ∷ []) x ≡ among xs x = among-append xs (y ∷ []) x ∙ ap (λ (b : Bool). among xs x || (b || false)) (ne_eqb x y (λ e. other (sym e))) ∙ or_false (among xs x) in
      elim (cases_Bool (among xs x)) [
        | inl again ↦ rw (here, again) ih
        | inr once ↦ rw (here, once) (omega (arith, ih))
      ]
]
  where
    or_false : (x : Bool) → (x || false) ≡ x
    or_false true = refl
    or_false false = refl

-- what is among a list is so with a number more
pub among_push : (xs : List ℕ) (y n : ℕ) → among xs n ≡ true → among (xs ++ y ∷ []) n ≡ true
among_push xs y n is = among-append xs (y ∷ []) n ∙ rw is refl

pub among_last : (xs : List ℕ) (y : ℕ) → among (xs ++ y ∷ []) y ≡ true
among_last xs y = among-append xs (y ∷ []) y ∙ rw (eq-eqb y y refl) (or_true (among xs y))
