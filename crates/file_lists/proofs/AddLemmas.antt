-- A node put in at either end, call by call.
use Rattle.std.proofs.Common.{◌≡◌, ℕ, ◌+◌, List, [], ◌∷◌, ◌++◌, length, Option, Some, subst}
use Rattle.page_model.specs.Pages.{Pages, Address, null_address}
use Rattle.page_model.specs.Spans.{IsApartFromAll, SetsAddress, SetsField}
use Rattle.page_model.specs.Lists.{IsNodePlace, IsList, first_of, last_of, or_null, back_place, on_place, list_spans, node_span}
use Rattle.page_model.specs.Steps.{PageState, Uses, Reaches, Told, Becomes}
use Rattle.page_model.proofs.StepLemmas.{IsReached, uses_in, uses_near, reaches_nowhere, told_step, within_one, within_two}
use Rattle.page_model.proofs.WalkLemmas.{added_first}
use Rattle.file_lists.specs.Changes.{ChangesList}
use Rattle.file_lists.proofs.EndLemmas.{added_last}

-- what the calls have used so far: the length and an end are read, another node is written, the node twice, the base twice
module _ {T : Type 0} {state : T → PageState} {stays : T → T → Type 0} (add : (a b c : T) → stays a b → stays b c → stays a c) (near : Option (List ℕ)) (node base : ℕ) (s : T) where
  pub uses1 : stays s s → (a : T) → Uses state stays (base ∷ []) 0 0 s a → Reaches state stays near (node ∷ base ∷ []) 0 0 s a
  uses1 still a u1 = uses_in add near (node ∷ base ∷ []) (base ∷ []) 0 0 0 s s a (within_two node base []) (reaches_nowhere near (node ∷ base ∷ []) s still) u1

  pub uses2 : stays s s → (a b : T) → Uses state stays (base ∷ []) 0 0 s a → Uses state stays (base ∷ []) 0 0 a b → Reaches state stays near (node ∷ base ∷ []) 0 0 s b
  uses2 still a b u1 u2 = uses_in add near (node ∷ base ∷ []) (base ∷ []) 0 0 0 s a b (within_two node base []) (uses1 still a u1) u2

-- the same behind the pages near
module _ {T : Type 0} {state : T → PageState} {stays : T → T → Type 0} (add : (a b c : T) → stays a b → stays b c → stays a c) (near : Option (List ℕ)) (node base q : ℕ) (to_q : IsReached near (node ∷ base ∷ []) q) (s : T) where
  pub uses3 : stays s s → (a b d : T) → Uses state stays (base ∷ []) 0 0 s a → Uses state stays (base ∷ []) 0 0 a b → Uses state stays (q ∷ []) 0 14 b d → Reaches state stays near (node ∷ base ∷ []) 1 14 s d
  uses3 still a b d u1 u2 u3 = uses_near add near (node ∷ base ∷ []) q 0 0 14 s b d to_q (uses2 add near node base s still a b u1 u2) u3

  pub uses4 : stays s s → (a b d e : T) → Uses state stays (base ∷ []) 0 0 s a → Uses state stays (base ∷ []) 0 0 a b → Uses state stays (q ∷ []) 0 14 b d → Uses state stays (node ∷ []) 0 14 d e → Reaches state stays near (node ∷ base ∷ []) 1 28 s e
  uses4 still a b d e u1 u2 u3 u4 = uses_in add near (node ∷ base ∷ []) (node ∷ []) 1 14 14 s d e (within_one node (base ∷ [])) (uses3 still a b d u1 u2 u3) u4

  pub uses5 : stays s s → (a b d e f : T) → Uses state stays (base ∷ []) 0 0 s a → Uses state stays (base ∷ []) 0 0 a b → Uses state stays (q ∷ []) 0 14 b d → Uses state stays (node ∷ []) 0 14 d e → Uses state stays (node ∷ []) 0 14 e f → Reaches state stays near (node ∷ base ∷ []) 1 42 s f
  uses5 still a b d e f u1 u2 u3 u4 u5 = uses_in add near (node ∷ base ∷ []) (node ∷ []) 1 28 14 s e f (within_one node (base ∷ [])) (uses4 still a b d e u1 u2 u3 u4) u5

  pub uses6 : stays s s → (a b d e f i : T) → Uses state stays (base ∷ []) 0 0 s a → Uses state stays (base ∷ []) 0 0 a b → Uses state stays (q ∷ []) 0 14 b d → Uses state stays (node ∷ []) 0 14 d e → Uses state stays (node ∷ []) 0 14 e f → Uses state stays (base ∷ []) 0 14 f i → Reaches state stays near (node ∷ base ∷ []) 1 56 s i
  uses6 still a b d e f i u1 u2 u3 u4 u5 u6 = uses_in add near (node ∷ base ∷ []) (base ∷ []) 1 42 14 s f i (within_two node base []) (uses5 still a b d e f u1 u2 u3 u4 u5) u6

  pub uses7 : stays s s → (a b d e f i j : T) → Uses state stays (base ∷ []) 0 0 s a → Uses state stays (base ∷ []) 0 0 a b → Uses state stays (q ∷ []) 0 14 b d → Uses state stays (node ∷ []) 0 14 d e → Uses state stays (node ∷ []) 0 14 e f → Uses state stays (base ∷ []) 0 14 f i → Uses state stays (base ∷ []) 0 12 i j → Reaches state stays near (node ∷ base ∷ []) 1 68 s j
  uses7 still a b d e f i j u1 u2 u3 u4 u5 u6 u7 = uses_in add near (node ∷ base ∷ []) (base ∷ []) 1 56 12 s i j (within_two node base []) (uses6 still a b d e f i u1 u2 u3 u4 u5 u6) u7

-- links and base set for a node, and the count raised by one, put it in front of the list
pub adds_first : (t2 t3 t4 t5 t6 t7 : Option Pages) (pages : Pages) (base node : Address) (nodes : List Address) (x : Option Address) (n : ℕ)
    → t2 ≡ Some pages → IsList pages base nodes → IsNodePlace (length pages) node → IsApartFromAll (list_spans base nodes) (node_span node) → x ≡ first_of nodes → n ≡ length nodes
    → Told (SetsAddress (back_place base x).page (back_place base x).at node) t2 t3
    → Told (SetsAddress node.page node.at null_address) t3 t4 → Told (SetsAddress node.page (node.at + 6) (or_null x)) t4 t5
    → Told (SetsAddress base.page (base.at + 4) node) t5 t6 → Told (SetsField base.page base.at 4 (n + 1)) t6 t7
    → Becomes t7 (λ new. ChangesList base (node ∷ nodes) (node ∷ nodes) pages new)
adds_first t2 t3 t4 t5 t6 t7 pages base node nodes x n is list place apart link len w1 w2 w3 w4 w5 =
    let b1 = told_step _ t2 t3 pages is w1 in
    let b2 = told_step _ t3 t4 b1.0 b1.1 w2 in
    let b3 = told_step _ t4 t5 b2.0 b2.1 w3 in
    let b4 = told_step _ t5 t6 b3.0 b3.1 w4 in
    let b5 = told_step _ t6 t7 b4.0 b4.1 w5 in
    let P : Option Address → Type 0 = λ y. SetsAddress (back_place base y).page (back_place base y).at node pages b1.0 in
    let Q : Option Address → Type 0 = λ y. SetsAddress node.page (node.at + 6) (or_null y) b2.0 b3.0 in
    let R : ℕ → Type 0 = λ m. SetsField base.page base.at 4 (m + 1) b4.0 b5.0 in
    let r = added_first pages b1.0 b2.0 b3.0 b4.0 b5.0 base node nodes list place apart (subst P link b1.2) b2.2 (subst Q link b3.2) b4.2 (subst R len b5.2) in
    (b5.0, b5.1, record { list = r.0; outside = r.1 })

-- the same for a node put behind the last
pub adds_last : (t2 t3 t4 t5 t6 t7 : Option Pages) (pages : Pages) (base node : Address) (nodes : List Address) (x : Option Address) (n : ℕ)
    → t2 ≡ Some pages → IsList pages base nodes → IsNodePlace (length pages) node → IsApartFromAll (list_spans base nodes) (node_span node) → x ≡ last_of nodes → n ≡ length nodes
    → Told (SetsAddress (on_place base x).page (on_place base x).at node) t2 t3
    → Told (SetsAddress node.page node.at (or_null x)) t3 t4 → Told (SetsAddress node.page (node.at + 6) null_address) t4 t5
    → Told (SetsAddress base.page (base.at + 10) node) t5 t6 → Told (SetsField base.page base.at 4 (n + 1)) t6 t7
    → Becomes t7 (λ new. ChangesList base (nodes ++ node ∷ []) (nodes ++ node ∷ []) pages new)
adds_last t2 t3 t4 t5 t6 t7 pages base node nodes x n is list place apart link len w1 w2 w3 w4 w5 =
    let b1 = told_step _ t2 t3 pages is w1 in
    let b2 = told_step _ t3 t4 b1.0 b1.1 w2 in
    let b3 = told_step _ t4 t5 b2.0 b2.1 w3 in
    let b4 = told_step _ t5 t6 b3.0 b3.1 w4 in
    let b5 = told_step _ t6 t7 b4.0 b4.1 w5 in
    let P : Option Address → Type 0 = λ y. SetsAddress (on_place base y).page (on_place base y).at node pages b1.0 in
    let Q : Option Address → Type 0 = λ y. SetsAddress node.page node.at (or_null y) b1.0 b2.0 in
    let R : ℕ → Type 0 = λ m. SetsField base.page base.at 4 (m + 1) b4.0 b5.0 in
    let r = added_last pages b1.0 b2.0 b3.0 b4.0 b5.0 base node nodes list place apart (subst P link b1.2) (subst Q link b2.2) b3.2 b4.2 (subst R len b5.2) in
    (b5.0, b5.1, record { list = r.0; outside = r.1 })
