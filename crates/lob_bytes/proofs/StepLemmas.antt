-- The pages and the room of the calls of this crate.
use Rattle.std.proofs.Common.{ℕ, [], ◌∷◌, lit≤}
use Rattle.page_model.specs.Steps.{PageState, IsWithin, MayUse, Uses}
use Rattle.page_model.proofs.StepLemmas.{may_within, may_other, may_name, uses_unnamed, within_right, within_both, uses_more, uses_within, uses_other, uses_at_most, within_one, within_two}

module _ {T : Type 0} {state : T → PageState} {stays : T → T → Type 0} (add : (a b c : T) → stays a b → stays b c → stays a c) (q : ℕ) (s t u : T) where
  pub begin_may : MayUse (0 ∷ []) 1 16_413 (state s) → Uses state stays (0 ∷ []) 0 21 s t → MayUse (q ∷ []) 0 16_392 (state t)
  begin_may may first = may_other (0 ∷ []) q 1 16_413 0 21 16_392 s t (lit≤ tt) (lit≤ tt) may first

  pub begin_uses : Uses state stays (0 ∷ []) 0 21 s t → Uses state stays (q ∷ []) 0 16_392 t u → Uses state stays (0 ∷ []) 1 16_413 s u
  begin_uses first second = uses_other add (0 ∷ []) q 0 21 16_392 s t u first second

-- an index page given back: two reads of the chain, the map, and a write in the chain
module _ {T : Type 0} {state : T → PageState} {stays : T → T → Type 0} (add : (a b c : T) → stays a b → stays b c → stays a c) (first q : ℕ) (s t1 t2 t3 t4 : T) where
  look : Uses state stays (first ∷ []) 0 0 s t1 → Uses state stays (0 ∷ first ∷ []) 0 0 s t1
  look u1 = uses_more (first ∷ []) (0 ∷ first ∷ []) 0 0 0 0 s t1 u1 (within_two 0 first []) (lit≤ tt) (lit≤ tt)

  pub next_uses : Uses state stays (first ∷ []) 0 0 s t1 → Uses state stays (q ∷ []) 0 0 t1 t2 → Uses state stays (0 ∷ first ∷ []) 1 0 s t2
  next_uses u1 u2 = uses_other add (0 ∷ first ∷ []) q 0 0 0 s t1 t2 (look u1) u2

  pub give_uses : Uses state stays (first ∷ []) 0 0 s t1 → Uses state stays (q ∷ []) 0 0 t1 t2 → Uses state stays (0 ∷ []) 0 21 t2 t3 → Uses state stays (0 ∷ first ∷ []) 1 21 s t3
  give_uses u1 u2 u3 = uses_within add (0 ∷ first ∷ []) (0 ∷ []) 1 0 0 21 s t2 t3 (within_one 0 (first ∷ [])) (next_uses u1 u2) u3

  pub chain_uses : Uses state stays (first ∷ []) 0 0 s t1 → Uses state stays (q ∷ []) 0 0 t1 t2 → Uses state stays (0 ∷ []) 0 21 t2 t3 → Uses state stays (first ∷ []) 0 12 t3 t4 → Uses state stays (0 ∷ first ∷ []) 1 33 s t4
  chain_uses u1 u2 u3 u4 = uses_within add (0 ∷ first ∷ []) (first ∷ []) 1 21 0 12 s t3 t4 (within_two 0 first []) (give_uses u1 u2 u3) u4

  pub next_may : MayUse (0 ∷ first ∷ []) 1 33 (state s) → Uses state stays (first ∷ []) 0 0 s t1 → MayUse (q ∷ []) 0 0 (state t1)
  next_may may u1 = may_other (0 ∷ first ∷ []) q 1 33 0 0 0 s t1 (lit≤ tt) (lit≤ tt) may (look u1)

  pub give_may : MayUse (0 ∷ first ∷ []) 1 33 (state s) → Uses state stays (first ∷ []) 0 0 s t1 → Uses state stays (q ∷ []) 0 0 t1 t2 → MayUse (0 ∷ []) 0 21 (state t2)
  give_may may u1 u2 = may_within (0 ∷ first ∷ []) (0 ∷ []) 1 33 1 0 0 21 s t2 (within_one 0 (first ∷ [])) (lit≤ tt) (lit≤ tt) may (next_uses u1 u2)

  pub chain_may : MayUse (0 ∷ first ∷ []) 1 33 (state s) → Uses state stays (first ∷ []) 0 0 s t1 → Uses state stays (q ∷ []) 0 0 t1 t2 → Uses state stays (0 ∷ []) 0 21 t2 t3 → MayUse (first ∷ []) 0 12 (state t3)
  chain_may may u1 u2 u3 = may_within (0 ∷ first ∷ []) (first ∷ []) 1 33 1 21 0 12 s t3 (within_two 0 first []) (lit≤ tt) (lit≤ tt) may (give_uses u1 u2 u3)

-- two of three
pub both : (page n : ℕ) → IsWithin (n ∷ page ∷ []) (n ∷ 0 ∷ page ∷ [])
both page n = within_both (n ∷ []) (page ∷ []) (n ∷ 0 ∷ page ∷ []) (within_one n (0 ∷ page ∷ [])) (λ k is. within_right (n ∷ []) (0 ∷ page ∷ []) k (within_two 0 page [] k is))

-- a piece added: a page, a node, whose page is named then, the data, the entry, and the list of heads
module _ {T : Type 0} {state : T → PageState} {stays : T → T → Type 0} (add : (a b c : T) → stays a b → stays b c → stays a c) (page q n : ℕ) (s t1 t2 t3 t4 t5 : T) where
  two : Uses state stays (0 ∷ page ∷ []) 0 21 s t1 → Uses state stays (n ∷ 0 ∷ page ∷ []) 1 16_449 t1 t2 → Uses state stays (n ∷ 0 ∷ page ∷ []) 1 16_470 s t2
  two u1 u2 = uses_within add (n ∷ 0 ∷ page ∷ []) (n ∷ 0 ∷ page ∷ []) 0 21 1 16_449 s t1 t2 (λ m is. is) (uses_more (0 ∷ page ∷ []) (n ∷ 0 ∷ page ∷ []) 0 0 21 21 s t1 u1 (within_right (n ∷ []) (0 ∷ page ∷ [])) (lit≤ tt) (lit≤ tt)) u2

  three : Uses state stays (0 ∷ page ∷ []) 0 21 s t1 → Uses state stays (n ∷ 0 ∷ page ∷ []) 1 16_449 t1 t2 → Uses state stays (q ∷ []) 0 16_392 t2 t3 → Uses state stays (n ∷ 0 ∷ page ∷ []) 2 32_862 s t3
  three u1 u2 u3 = uses_other add (n ∷ 0 ∷ page ∷ []) q 1 16_470 16_392 s t2 t3 (two u1 u2) u3

  four : Uses state stays (0 ∷ page ∷ []) 0 21 s t1 → Uses state stays (n ∷ 0 ∷ page ∷ []) 1 16_449 t1 t2 → Uses state stays (q ∷ []) 0 16_392 t2 t3 → Uses state stays (n ∷ []) 0 68 t3 t4 → Uses state stays (n ∷ 0 ∷ page ∷ []) 2 32_930 s t4
  four u1 u2 u3 u4 = uses_within add (n ∷ 0 ∷ page ∷ []) (n ∷ []) 2 32_862 0 68 s t3 t4 (within_one n (0 ∷ page ∷ [])) (three u1 u2 u3) u4

  pub node_may : MayUse (0 ∷ page ∷ []) 4 32_998 (state s) → Uses state stays (0 ∷ page ∷ []) 0 21 s t1 → MayUse (0 ∷ page ∷ []) 2 16_449 (state t1)
  node_may may u1 = may_within (0 ∷ page ∷ []) (0 ∷ page ∷ []) 4 32_998 0 21 2 16_449 s t1 (λ m is. is) (lit≤ tt) (lit≤ tt) may u1

  pub data_may : MayUse (0 ∷ page ∷ []) 4 32_998 (state s) → Uses state stays (0 ∷ page ∷ []) 0 21 s t1 → Uses state stays (n ∷ 0 ∷ page ∷ []) 1 16_449 t1 t2 → MayUse (q ∷ []) 0 16_392 (state t2)
  data_may may u1 u2 = may_other (n ∷ 0 ∷ page ∷ []) q 3 32_998 1 16_470 16_392 s t2 (lit≤ tt) (lit≤ tt) (may_name n (0 ∷ page ∷ []) 3 32_998 (state s) may) (two u1 u2)

  pub entry_may : MayUse (0 ∷ page ∷ []) 4 32_998 (state s) → Uses state stays (0 ∷ page ∷ []) 0 21 s t1 → Uses state stays (n ∷ 0 ∷ page ∷ []) 1 16_449 t1 t2 → Uses state stays (q ∷ []) 0 16_392 t2 t3 → MayUse (n ∷ []) 0 68 (state t3)
  entry_may may u1 u2 u3 = may_within (n ∷ 0 ∷ page ∷ []) (n ∷ []) 3 32_998 2 32_862 0 68 s t3 (within_one n (0 ∷ page ∷ [])) (lit≤ tt) (lit≤ tt) (may_name n (0 ∷ page ∷ []) 3 32_998 (state s) may) (three u1 u2 u3)

  pub list_may : MayUse (0 ∷ page ∷ []) 4 32_998 (state s) → Uses state stays (0 ∷ page ∷ []) 0 21 s t1 → Uses state stays (n ∷ 0 ∷ page ∷ []) 1 16_449 t1 t2 → Uses state stays (q ∷ []) 0 16_392 t2 t3 → Uses state stays (n ∷ []) 0 68 t3 t4 → MayUse (n ∷ page ∷ []) 1 68 (state t4)
  list_may may u1 u2 u3 u4 = may_within (n ∷ 0 ∷ page ∷ []) (n ∷ page ∷ []) 3 32_998 2 32_930 1 68 s t4 (both page n) (lit≤ tt) (lit≤ tt) (may_name n (0 ∷ page ∷ []) 3 32_998 (state s) may) (four u1 u2 u3 u4)

  -- no node was taken
  pub node_uses : Uses state stays (0 ∷ page ∷ []) 0 21 s t1 → Uses state stays (0 ∷ page ∷ []) 2 16_449 t1 t2 → Uses state stays (0 ∷ page ∷ []) 4 32_998 s t2
  node_uses u1 u2 = uses_at_most (0 ∷ page ∷ []) 2 16_470 4 32_998 s t2 (lit≤ tt) (lit≤ tt) (uses_within add (0 ∷ page ∷ []) (0 ∷ page ∷ []) 0 21 2 16_449 s t1 t2 (λ m is. is) u1 u2)

  pub data_uses : Uses state stays (0 ∷ page ∷ []) 0 21 s t1 → Uses state stays (n ∷ 0 ∷ page ∷ []) 1 16_449 t1 t2 → Uses state stays (q ∷ []) 0 16_392 t2 t3 → Uses state stays (0 ∷ page ∷ []) 4 32_998 s t3
  data_uses u1 u2 u3 = uses_at_most (0 ∷ page ∷ []) 3 32_862 4 32_998 s t3 (lit≤ tt) (lit≤ tt) (uses_unnamed n (0 ∷ page ∷ []) 2 32_862 s t3 (three u1 u2 u3))

  pub entry_uses : Uses state stays (0 ∷ page ∷ []) 0 21 s t1 → Uses state stays (n ∷ 0 ∷ page ∷ []) 1 16_449 t1 t2 → Uses state stays (q ∷ []) 0 16_392 t2 t3 → Uses state stays (n ∷ []) 0 68 t3 t4 → Uses state stays (0 ∷ page ∷ []) 4 32_998 s t4
  entry_uses u1 u2 u3 u4 = uses_at_most (0 ∷ page ∷ []) 3 32_930 4 32_998 s t4 (lit≤ tt) (lit≤ tt) (uses_unnamed n (0 ∷ page ∷ []) 2 32_930 s t4 (four u1 u2 u3 u4))

  pub list_uses : Uses state stays (0 ∷ page ∷ []) 0 21 s t1 → Uses state stays (n ∷ 0 ∷ page ∷ []) 1 16_449 t1 t2 → Uses state stays (q ∷ []) 0 16_392 t2 t3 → Uses state stays (n ∷ []) 0 68 t3 t4 → Uses state stays (n ∷ page ∷ []) 1 68 t4 t5 → Uses state stays (0 ∷ page ∷ []) 4 32_998 s t5
  list_uses u1 u2 u3 u4 u5 = uses_unnamed n (0 ∷ page ∷ []) 3 32_998 s t5 (uses_within add (n ∷ 0 ∷ page ∷ []) (n ∷ page ∷ []) 2 32_930 1 68 s t4 t5 (both page n) (four u1 u2 u3 u4) u5)
