-- What the calls on row pages have used, one after another.
use Rattle.std.proofs.Common.{ℕ, List, [], ◌∷◌, arith}
use Rattle.page_model.specs.Steps.{PageState, IsWithin, Uses}
use Rattle.page_model.proofs.StepLemmas.{within_right, within_one, within_two, uses_within, uses_unnamed, uses_at_most, uses_more}

begin : {T : Type 0} {state : T → PageState} {stays : T → T → Type 0} (named n : List ℕ) (k b : ℕ) (s t : T) → IsWithin n named → Uses state stays n k b s t → Uses state stays named k b s t
begin named n k b s t within u = uses_more n named k k b b s t u within (omega arith) (omega arith)

-- a page is opened: taken, started, put behind the others
module _ {T : Type 0} {state : T → PageState} {stays : T → T → Type 0} (add : (a b c : T) → stays a b → stays b c → stays a c) (page : ℕ) (s : T) where
  pub open1 : (a : T) → Uses state stays (0 ∷ []) 0 21 s a → Uses state stays (page ∷ 0 ∷ []) 0 21 s a
  open1 a u1 = begin (page ∷ 0 ∷ []) (0 ∷ []) 0 21 s a (within_two page 0 []) u1

  pub open2 : (a b : T) → Uses state stays (0 ∷ []) 0 21 s a → Uses state stays (page ∷ []) 0 16_440 a b → Uses state stays (page ∷ 0 ∷ []) 0 16_461 s b
  open2 a b u1 u2 = uses_within add (page ∷ 0 ∷ []) (page ∷ []) 0 21 0 16_440 s a b (within_one page (0 ∷ [])) (open1 a u1) u2

  pub open3 : (a b c : T) → Uses state stays (0 ∷ []) 0 21 s a → Uses state stays (page ∷ []) 0 16_440 a b → Uses state stays (page ∷ 0 ∷ []) 1 68 b c → Uses state stays (0 ∷ []) 2 16_529 s c
  open3 a b c u1 u2 u3 = uses_unnamed page (0 ∷ []) 1 16_529 s c (uses_within add (page ∷ 0 ∷ []) (page ∷ 0 ∷ []) 0 16_461 1 68 s b c (λ n is. is) (open2 a b u1 u2) u3)

  pub open2_all : (a b : T) → Uses state stays (0 ∷ []) 0 21 s a → Uses state stays (page ∷ []) 0 16_440 a b → Uses state stays (0 ∷ []) 2 16_529 s b
  open2_all a b u1 u2 = uses_at_most (0 ∷ []) 1 16_461 2 16_529 s b (omega arith) (omega arith) (uses_unnamed page (0 ∷ []) 0 16_461 s b (open2 a b u1 u2))

-- a page that is touched, beside page 0 that may be
pub named : {T : Type 0} {state : T → PageState} {stays : T → T → Type 0} (page b : ℕ) (s t : T) → Uses state stays (page ∷ []) 0 b s t → Uses state stays (page ∷ 0 ∷ []) 0 b s t
named page b s t u = begin (page ∷ 0 ∷ []) (page ∷ []) 0 b s t (within_one page (0 ∷ [])) u

-- a page is dropped: its node taken out of the list, the page given back
pub drop2 : {T : Type 0} {state : T → PageState} {stays : T → T → Type 0} (add : (a b c : T) → stays a b → stays b c → stays a c) (page : ℕ) (s a b : T) → Uses state stays (page ∷ 0 ∷ []) 2 40 s a → Uses state stays (0 ∷ []) 0 21 a b → Uses state stays (page ∷ 0 ∷ []) 2 61 s b
drop2 add page s a b u1 u2 = uses_within add (page ∷ 0 ∷ []) (0 ∷ []) 2 40 0 21 s a b (λ n is. within_right (page ∷ []) (0 ∷ []) n is) u1 u2
