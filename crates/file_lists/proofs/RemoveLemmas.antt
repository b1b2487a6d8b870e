-- A node taken out, call by call.
use Rattle.std.proofs.Common.{◌≡◌, ℕ, ◌+◌, ◌-◌, List, [], ◌∷◌, ◌++◌, length, Option, Some, refl, ap, subst, arith}
use Rattle.std.proofs.lemmas.List.{length-append}
use Rattle.page_model.specs.Pages.{Pages, Address}
use Rattle.page_model.specs.Spans.{SetsAddress, SetsField}
use Rattle.page_model.specs.Lists.{IsList, first_of, last_of, or_null, back_place, on_place}
use Rattle.page_model.specs.Steps.{PageState, Uses, Reaches, Told, Becomes}
use Rattle.page_model.proofs.StepLemmas.{IsReached, uses_in, uses_near, reaches_nowhere, told_step, within_one, within_two}
use Rattle.page_model.proofs.UnlinkLemmas.{removed}
use Rattle.file_lists.specs.Changes.{ChangesList}

-- what the calls have used so far: the length and the node are read, its two neighbours are written, and the length
module _ {T : Type 0} {state : T → PageState} {stays : T → T → Type 0} (add : (a b c : T) → stays a b → stays b c → stays a c) (near : Option (List ℕ)) (node base : ℕ) (s : T) where
  pub uses1 : stays s s → (a : T) → Uses state stays (base ∷ []) 0 0 s a → Reaches state stays near (node ∷ base ∷ []) 0 0 s a
  uses1 still a u1 = uses_in add near (node ∷ base ∷ []) (base ∷ []) 0 0 0 s s a (within_two node base []) (reaches_nowhere near (node ∷ base ∷ []) s still) u1

  pub uses2 : stays s s → (a b : T) → Uses state stays (base ∷ []) 0 0 s a → Uses state stays (node ∷ []) 0 0 a b → Reaches state stays near (node ∷ base ∷ []) 0 0 s b
  uses2 still a b u1 u2 = uses_in add near (node ∷ base ∷ []) (node ∷ []) 0 0 0 s a b (within_one node (base ∷ [])) (uses1 still a u1) u2

  pub uses3 : stays s s → (a b d : T) → Uses state stays (base ∷ []) 0 0 s a → Uses state stays (node ∷ []) 0 0 a b → Uses state stays (node ∷ []) 0 0 b d → Reaches state stays near (node ∷ base ∷ []) 0 0 s d
  uses3 still a b d u1 u2 u3 = uses_in add near (node ∷ base ∷ []) (node ∷ []) 0 0 0 s b d (within_one node (base ∷ [])) (uses2 still a b u1 u2) u3

-- the same behind the pages near
module _ {T : Type 0} {state : T → PageState} {stays : T → T → Type 0} (add : (a b c : T) → stays a b → stays b c → stays a c) (near : Option (List ℕ)) (node base q r : ℕ) (to_q : IsReached near (node ∷ base ∷ []) q) (to_r : IsReached near (node ∷ base ∷ []) r) (s : T) where
  pub uses4 : stays s s → (a b d e : T) → Uses state stays (base ∷ []) 0 0 s a → Uses state stays (node ∷ []) 0 0 a b → Uses state stays (node ∷ []) 0 0 b d → Uses state stays (q ∷ []) 0 14 d e → Reaches state stays near (node ∷ base ∷ []) 1 14 s e
  uses4 still a b d e u1 u2 u3 u4 = uses_near add near (node ∷ base ∷ []) q 0 0 14 s d e to_q (uses3 add near node base s still a b d u1 u2 u3) u4

  pub uses5 : stays s s → (a b d e f : T) → Uses state stays (base ∷ []) 0 0 s a → Uses state stays (node ∷ []) 0 0 a b → Uses state stays (node ∷ []) 0 0 b d → Uses state stays (q ∷ []) 0 14 d e → Uses state stays (r ∷ []) 0 14 e f → Reaches state stays near (node ∷ base ∷ []) 2 28 s f
  uses5 still a b d e f u1 u2 u3 u4 u5 = uses_near add near (node ∷ base ∷ []) r 1 14 14 s e f to_r (uses4 still a b d e u1 u2 u3 u4) u5

  pub uses6 : stays s s → (a b d e f i : T) → Uses state stays (base ∷ []) 0 0 s a → Uses state stays (node ∷ []) 0 0 a b → Uses state stays (node ∷ []) 0 0 b d → Uses state stays (q ∷ []) 0 14 d e → Uses state stays (r ∷ []) 0 14 e f → Uses state stays (base ∷ []) 0 12 f i → Reaches state stays near (node ∷ base ∷ []) 2 40 s i
  uses6 still a b d e f i u1 u2 u3 u4 u5 u6 = uses_in add near (node ∷ base ∷ []) (base ∷ []) 2 28 12 s f i (within_two node base []) (uses5 still a b d e f u1 u2 u3 u4 u5) u6

-- the first node, and the last one, taken out: behind the reads the base is written, and the one neighbour
module _ {T : Type 0} {state : T → PageState} {stays : T → T → Type 0} (add : (a b c : T) → stays a b → stays b c → stays a c) (near : Option (List ℕ)) (node base q : ℕ) (to_q : IsReached near (node ∷ base ∷ []) q) (s : T) where
  pub first3 : stays s s → (a b d : T) → Uses state stays (base ∷ []) 0 0 s a → Uses state stays (node ∷ []) 0 0 a b → Uses state stays (base ∷ []) 0 14 b d → Reaches state stays near (node ∷ base ∷ []) 0 14 s d
  first3 still a b d u1 u2 u3 = uses_in add near (node ∷ base ∷ []) (base ∷ []) 0 0 14 s b d (within_two node base []) (uses2 add near node base s still a b u1 u2) u3

  pub first4 : stays s s → (a b d e : T) → Uses state stays (base ∷ []) 0 0 s a → Uses state stays (node ∷ []) 0 0 a b → Uses state stays (base ∷ []) 0 14 b d → Uses state stays (q ∷ []) 0 14 d e → Reaches state stays near (node ∷ base ∷ []) 1 28 s e
  first4 still a b d e u1 u2 u3 u4 = uses_near add near (node ∷ base ∷ []) q 0 14 14 s d e to_q (first3 still a b d u1 u2 u3) u4

  pub first5 : stays s s → (a b d e f : T) → Uses state stays (base ∷ []) 0 0 s a → Uses state stays (node ∷ []) 0 0 a b → Uses state stays (base ∷ []) 0 14 b d → Uses state stays (q ∷ []) 0 14 d e → Uses state stays (base ∷ []) 0 12 e f → Reaches state stays near (node ∷ base ∷ []) 1 40 s f
  first5 still a b d e f u1 u2 u3 u4 u5 = uses_in add near (node ∷ base ∷ []) (base ∷ []) 1 28 12 s e f (within_two node base []) (first4 still a b d e u1 u2 u3 u4) u5

  pub last3 : stays s s → (a b d : T) → Uses state stays (base ∷ []) 0 0 s a → Uses state stays (node ∷ []) 0 0 a b → Uses state stays (q ∷ []) 0 14 b d → Reaches state stays near (node ∷ base ∷ []) 1 14 s d
  last3 still a b d u1 u2 u3 = uses_near add near (node ∷ base ∷ []) q 0 0 14 s b d to_q (uses2 add near node base s still a b u1 u2) u3

  pub last4 : stays s s → (a b d e : T) → Uses state stays (base ∷ []) 0 0 s a → Uses state stays (node ∷ []) 0 0 a b → Uses state stays (q ∷ []) 0 14 b d → Uses state stays (base ∷ []) 0 14 d e → Reaches state stays near (node ∷ base ∷ []) 1 28 s e
  last4 still a b d e u1 u2 u3 u4 = uses_in add near (node ∷ base ∷ []) (base ∷ []) 1 14 14 s d e (within_two node base []) (last3 still a b d u1 u2 u3) u4

  pub last5 : stays s s → (a b d e f : T) → Uses state stays (base ∷ []) 0 0 s a → Uses state stays (node ∷ []) 0 0 a b → Uses state stays (q ∷ []) 0 14 b d → Uses state stays (base ∷ []) 0 14 d e → Uses state stays (base ∷ []) 0 12 e f → Reaches state stays near (node ∷ base ∷ []) 1 40 s f
  last5 still a b d e f u1 u2 u3 u4 u5 = uses_in add near (node ∷ base ∷ []) (base ∷ []) 1 28 12 s e f (within_two node base []) (last4 still a b d e u1 u2 u3 u4) u5

-- links led past a node, and the count lowered by one, take the node out of its list
pub removes : (t3 t4 t5 t6 : Option Pages) (pages : Pages) (base node : Address) (xs ys : List Address) (x y : Option Address) (n : ℕ)
    → t3 ≡ Some pages → IsList pages base (xs ++ node ∷ ys) → x ≡ last_of xs → y ≡ first_of ys → n ≡ length (xs ++ node ∷ ys)
    → Told (SetsAddress (on_place base x).page (on_place base x).at (or_null y)) t3 t4 → Told (SetsAddress (back_place base y).page (back_place base y).at (or_null x)) t4 t5 → Told (SetsField base.page base.at 4 (n - 1)) t5 t6
    → Becomes t6 (λ new. ChangesList base (xs ++ node ∷ ys) (xs ++ ys) pages new)
removes t3 t4 t5 t6 pages base node xs ys x y n is list before behind len w1 w2 w3 =
    let b1 = told_step _ t3 t4 pages is w1 in
    let b2 = told_step _ t4 t5 b1.0 b1.1 w2 in
    let b3 = told_step _ t5 t6 b2.0 b2.1 w3 in
    let fewer : n - 1 ≡ length xs + length ys = omega (arith, len, length-append xs (node ∷ ys)) in
    let P1 : Option Address → Type 0 = λ o. SetsAddress (on_place base o).page (on_place base o).at (or_null y) pages b1.0 in
    let P2 : Option Address → Type 0 = λ o. SetsAddress (on_place base (last_of xs)).page (on_place base (last_of xs)).at (or_null o) pages b1.0 in
    let Q1 : Option Address → Type 0 = λ o. SetsAddress (back_place base o).page (back_place base o).at (or_null x) b1.0 b2.0 in
    let Q2 : Option Address → Type 0 = λ o. SetsAddress (back_place base (first_of ys)).page (back_place base (first_of ys)).at (or_null o) b1.0 b2.0 in
    let R : ℕ → Type 0 = λ m. SetsField base.page base.at 4 m b2.0 b3.0 in
    let r = removed pages b1.0 b2.0 b3.0 base node xs ys list (subst P2 behind (subst P1 before b1.2)) (subst Q2 before (subst Q1 behind b2.2)) (subst R fewer b3.2) in
    (b3.0, b3.1, record { list = r.0; outside = r.1 })

all_of : (xs : List Address) → xs ++ [] ≡ xs
all_of [] = refl
all_of (x ∷ xs) = ap (λ (ys : List Address). x ∷ ys) (all_of xs)

-- what is left before the last node is the list then
pub nothing_behind : (told : Option Pages) (pages : Pages) (base node : Address) (xs : List Address) → Becomes told (ChangesList base (xs ++ node ∷ []) (xs ++ []) pages) → Becomes told (ChangesList base (xs ++ node ∷ []) xs pages)
nothing_behind told pages base node xs is =
    let P : List Address → Type 0 = λ ys. Becomes told (ChangesList base (xs ++ node ∷ []) ys pages) in
    subst P (all_of xs) is
