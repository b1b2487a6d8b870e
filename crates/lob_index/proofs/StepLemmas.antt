-- The pages and the room of the calls that take an index page.
use Rattle.std.proofs.Common.{ℕ, List, [], ◌∷◌, lit≤}
use Rattle.page_model.specs.Steps.{PageState, IsWithin, MayUse, Uses}
use Rattle.page_model.proofs.StepLemmas.{may_within, may_other, uses_more, uses_within, uses_other, uses_at_most, within_one, within_two, within_right, within_both}

module _ {T : Type 0} {state : T → PageState} {stays : T → T → Type 0} (add : (a b c : T) → stays a b → stays b c → stays a c) (page q : ℕ) (s t1 t2 t3 t4 t5 : T) where
  pub read : Uses state stays (page ∷ []) 0 0 s t1 → Uses state stays (0 ∷ page ∷ []) 0 0 s t1
  read u1 = uses_more (page ∷ []) (0 ∷ page ∷ []) 0 0 0 0 s t1 u1 (within_two 0 page []) (lit≤ tt) (lit≤ tt)

  pub took : Uses state stays (page ∷ []) 0 0 s t1 → Uses state stays (0 ∷ []) 0 21 t1 t2 → Uses state stays (0 ∷ page ∷ []) 0 21 s t2
  took u1 u2 = uses_within add (0 ∷ page ∷ []) (0 ∷ []) 0 0 0 21 s t1 t2 (within_one 0 (page ∷ [])) (read u1) u2

  pub made : Uses state stays (page ∷ []) 0 0 s t1 → Uses state stays (0 ∷ []) 0 21 t1 t2 → Uses state stays (q ∷ []) 0 16_392 t2 t3 → Uses state stays (0 ∷ page ∷ []) 1 16_413 s t3
  made u1 u2 u3 = uses_other add (0 ∷ page ∷ []) q 0 21 16_392 s t2 t3 (took u1 u2) u3

  pub chained : Uses state stays (page ∷ []) 0 0 s t1 → Uses state stays (0 ∷ []) 0 21 t1 t2 → Uses state stays (q ∷ []) 0 16_392 t2 t3 → Uses state stays (page ∷ []) 0 12 t3 t4 → Uses state stays (0 ∷ page ∷ []) 1 16_425 s t4
  chained u1 u2 u3 u4 = uses_within add (0 ∷ page ∷ []) (page ∷ []) 1 16_413 0 12 s t3 t4 (within_two 0 page []) (made u1 u2 u3) u4

  pub based : Uses state stays (page ∷ []) 0 0 s t1 → Uses state stays (0 ∷ []) 0 21 t1 t2 → Uses state stays (q ∷ []) 0 16_392 t2 t3 → Uses state stays (page ∷ []) 0 12 t3 t4 → Uses state stays (page ∷ []) 0 24 t4 t5
      → Uses state stays (0 ∷ page ∷ []) 1 16_449 s t5
  based u1 u2 u3 u4 u5 = uses_within add (0 ∷ page ∷ []) (page ∷ []) 1 16_425 0 24 s t4 t5 (within_two 0 page []) (chained u1 u2 u3 u4) u5

  pub take_may : MayUse (0 ∷ page ∷ []) 1 16_449 (state s) → Uses state stays (page ∷ []) 0 0 s t1 → MayUse (0 ∷ []) 0 21 (state t1)
  take_may may u1 = may_within (0 ∷ page ∷ []) (0 ∷ []) 1 16_449 0 0 0 21 s t1 (within_one 0 (page ∷ [])) (lit≤ tt) (lit≤ tt) may (read u1)

  pub make_may : MayUse (0 ∷ page ∷ []) 1 16_449 (state s) → Uses state stays (page ∷ []) 0 0 s t1 → Uses state stays (0 ∷ []) 0 21 t1 t2 → MayUse (q ∷ []) 0 16_392 (state t2)
  make_may may u1 u2 = may_other (0 ∷ page ∷ []) q 1 16_449 0 21 16_392 s t2 (lit≤ tt) (lit≤ tt) may (took u1 u2)

  pub chain_may : MayUse (0 ∷ page ∷ []) 1 16_449 (state s) → Uses state stays (page ∷ []) 0 0 s t1 → Uses state stays (0 ∷ []) 0 21 t1 t2 → Uses state stays (q ∷ []) 0 16_392 t2 t3 → MayUse (page ∷ []) 0 12 (state t3)
  chain_may may u1 u2 u3 = may_within (0 ∷ page ∷ []) (page ∷ []) 1 16_449 1 16_413 0 12 s t3 (within_two 0 page []) (lit≤ tt) (lit≤ tt) may (made u1 u2 u3)

  pub base_may : MayUse (0 ∷ page ∷ []) 1 16_449 (state s) → Uses state stays (page ∷ []) 0 0 s t1 → Uses state stays (0 ∷ []) 0 21 t1 t2 → Uses state stays (q ∷ []) 0 16_392 t2 t3 → Uses state stays (page ∷ []) 0 12 t3 t4 → MayUse (page ∷ []) 0 24 (state t4)
  base_may may u1 u2 u3 u4 = may_within (0 ∷ page ∷ []) (page ∷ []) 1 16_449 1 16_425 0 24 s t4 (within_two 0 page []) (lit≤ tt) (lit≤ tt) may (chained u1 u2 u3 u4)

-- the same where the page that was taken is named
abbrev all : ℕ → ℕ → List ℕ
all page q = q ∷ 0 ∷ page ∷ []

in_all : (page q : ℕ) → IsWithin (0 ∷ page ∷ []) (all page q)
in_all page q = within_right (q ∷ []) (0 ∷ page ∷ [])

page_in : (page q : ℕ) → IsWithin (page ∷ []) (all page q)
page_in page q = within_right (q ∷ 0 ∷ []) (page ∷ [])

module _ {T : Type 0} {state : T → PageState} {stays : T → T → Type 0} (add : (a b c : T) → stays a b → stays b c → stays a c) (page q : ℕ) (s t1 t2 t3 t4 t5 : T) where
  named_took : Uses state stays (page ∷ []) 0 0 s t1 → Uses state stays (0 ∷ []) 0 21 t1 t2 → Uses state stays (all page q) 0 21 s t2
  named_took u1 u2 = uses_more (0 ∷ page ∷ []) (all page q) 0 0 21 21 s t2 (took add page q s t1 t2 t2 t2 t2 u1 u2) (in_all page q) (lit≤ tt) (lit≤ tt)

  named_made : Uses state stays (page ∷ []) 0 0 s t1 → Uses state stays (0 ∷ []) 0 21 t1 t2 → Uses state stays (q ∷ []) 0 16_392 t2 t3 → Uses state stays (all page q) 0 16_413 s t3
  named_made u1 u2 u3 = uses_within add (q ∷ 0 ∷ page ∷ []) (q ∷ []) 0 21 0 16_392 s t2 t3 (within_one q (0 ∷ page ∷ [])) (named_took u1 u2) u3

  named_chained : Uses state stays (page ∷ []) 0 0 s t1 → Uses state stays (0 ∷ []) 0 21 t1 t2 → Uses state stays (q ∷ []) 0 16_392 t2 t3 → Uses state stays (page ∷ []) 0 12 t3 t4 → Uses state stays (all page q) 0 16_425 s t4
  named_chained u1 u2 u3 u4 = uses_within add (all page q) (page ∷ []) 0 16_413 0 12 s t3 t4 (page_in page q) (named_made u1 u2 u3) u4

  pub named_based : Uses state stays (page ∷ []) 0 0 s t1 → Uses state stays (0 ∷ []) 0 21 t1 t2 → Uses state stays (q ∷ []) 0 16_392 t2 t3 → Uses state stays (page ∷ []) 0 12 t3 t4 → Uses state stays (page ∷ []) 0 24 t4 t5 → Uses state stays (q ∷ 0 ∷ page ∷ []) 0 16_449 s t5
  named_based u1 u2 u3 u4 u5 = uses_within add (all page q) (page ∷ []) 0 16_425 0 24 s t4 t5 (page_in page q) (named_chained u1 u2 u3 u4) u5

module _ {T : Type 0} {state : T → PageState} {stays : T → T → Type 0} (page : ℕ) (s t : T) where
  pub free_uses : Uses state stays (page ∷ []) 2 40 s t → Uses state stays (0 ∷ page ∷ []) 2 16_449 s t
  free_uses u = uses_more (page ∷ []) (0 ∷ page ∷ []) 2 2 40 16_449 s t u (within_two 0 page []) (lit≤ tt) (lit≤ tt)

  looked : Uses state stays (page ∷ []) 0 0 s t → Uses state stays (0 ∷ page ∷ []) 0 0 s t
  looked u = uses_more (page ∷ []) (0 ∷ page ∷ []) 0 0 0 0 s t u (within_two 0 page []) (lit≤ tt) (lit≤ tt)

  pub page_may : MayUse (0 ∷ page ∷ []) 2 16_449 (state s) → Uses state stays (page ∷ []) 0 0 s t → MayUse (0 ∷ page ∷ []) 1 16_449 (state t)
  page_may may u = may_within (0 ∷ page ∷ []) (0 ∷ page ∷ []) 2 16_449 0 0 1 16_449 s t (λ n is. is) (lit≤ tt) (lit≤ tt) may (looked u)

  pub page_uses : (add : (a b c : T) → stays a b → stays b c → stays a c) (v : T) → Uses state stays (page ∷ []) 0 0 s t → Uses state stays (0 ∷ page ∷ []) 1 16_449 t v → Uses state stays (0 ∷ page ∷ []) 2 16_449 s v
  page_uses add v u w = uses_at_most (0 ∷ page ∷ []) 1 16_449 2 16_449 s v (lit≤ tt) (lit≤ tt) (uses_within add (0 ∷ page ∷ []) (0 ∷ page ∷ []) 0 0 1 16_449 s t v (λ n is. is) (looked u) w)

  -- where the page of the node is named
  pub some_named : (n : ℕ) → Uses state stays (n ∷ page ∷ []) 1 40 s t → Uses state stays (n ∷ 0 ∷ page ∷ []) 1 16_449 s t
  some_named n u = uses_more (n ∷ page ∷ []) (n ∷ 0 ∷ page ∷ []) 1 1 40 16_449 s t u
      (within_both (n ∷ []) (page ∷ []) (n ∷ 0 ∷ page ∷ []) (within_one n (0 ∷ page ∷ [])) (λ m is. within_right (n ∷ []) (0 ∷ page ∷ []) m (within_two 0 page [] m is))) (lit≤ tt) (lit≤ tt)

  pub page_named : (add : (a b c : T) → stays a b → stays b c → stays a c) (n : ℕ) (v : T) → Uses state stays (page ∷ []) 0 0 s t → Uses state stays (n ∷ 0 ∷ page ∷ []) 0 16_449 t v → Uses state stays (n ∷ 0 ∷ page ∷ []) 1 16_449 s v
  page_named add n v u w =
      let all = n ∷ 0 ∷ page ∷ [] in
      let first = uses_more (0 ∷ page ∷ []) all 0 0 0 0 s t (looked u) (within_right (n ∷ []) (0 ∷ page ∷ [])) (lit≤ tt) (lit≤ tt) in
      uses_at_most all 0 16_449 1 16_449 s v (lit≤ tt) (lit≤ tt) (uses_within add all all 0 0 0 16_449 s t v (λ m is. is) first w)
