-- Calls one after another within named pages, and what they make of told ones.
use Rattle.std.proofs.Common.{◌≡◌, ℕ, ◌+◌, ◌≤◌, List, [], ◌∷◌, Option, Some, None, refl, sym, arith}
use Rattle.page_model.specs.Pages.{Pages}
use Rattle.page_model.specs.Steps.{PageState, IsWithin, MayUse, Uses, Told}
use Rattle.page_model.proofs.StepLemmas.{uses_more, uses_within, uses_at_most, uses_unnamed, uses_other, may_within, may_name, within_one, within_two, within_both, within_left, within_right}

module _ {T : Type 0} {state : T → PageState} {stays : T → T → Type 0} where
  pub begin : (named n : List ℕ) (k b : ℕ) (s t : T) → IsWithin n named → Uses state stays n k b s t → Uses state stays named k b s t
  begin named n k b s t within uses = uses_more n named k k b b s t uses within (omega arith) (omega arith)

-- one change of told pages after another makes the change that both make of any pages
pub told_then : (P Q R : Pages → Pages → Type 0) (a b c : Option Pages) → ((x y z : Pages) → P x y → Q y z → R x z) → Told P a b → Told Q b c → Told R a c
told_then P Q R None None None both first second = refl
told_then P Q R None None (Some z) both first second = second
told_then P Q R None (Some y) c both first second = absurd (none_some y (sym first))
  where
    none_some : (y : Pages) → None ≡ Some y → ⊥
    none_some y e = cc
told_then P Q R (Some x) None c both first second = absurd first
told_then P Q R (Some x) (Some y) None both first second = absurd second
told_then P Q R (Some x) (Some y) (Some z) both first second = both x y z first second

-- a record is put: written on its page, the page's end, the log's last record
module _ {T : Type 0} {state : T → PageState} {stays : T → T → Type 0} (add : (a b c : T) → stays a b → stays b c → stays a c) (page log n : ℕ) (s : T) where
  pub put1 : (a : T) → Uses state stays (page ∷ []) 0 (n + 8) s a → Uses state stays (page ∷ log ∷ []) 0 (n + 8) s a
  put1 a u1 = begin (page ∷ log ∷ []) (page ∷ []) 0 (n + 8) s a (within_one page (log ∷ [])) u1

  pub put2 : (a b : T) → Uses state stays (page ∷ []) 0 (n + 8) s a → Uses state stays (page ∷ []) 0 10 a b → Uses state stays (page ∷ log ∷ []) 0 (n + 8 + 10) s b
  put2 a b u1 u2 = uses_within add (page ∷ log ∷ []) (page ∷ []) 0 (n + 8) 0 10 s a b (within_one page (log ∷ [])) (put1 a u1) u2

  pub put3 : (a b c : T) → Uses state stays (page ∷ []) 0 (n + 8) s a → Uses state stays (page ∷ []) 0 10 a b → Uses state stays (log ∷ []) 0 14 b c → Uses state stays (page ∷ log ∷ []) 0 (n + 8 + 24) s c
  put3 a b c u1 u2 u3 = uses_at_most (page ∷ log ∷ []) 0 (n + 8 + 10 + 14) 0 (n + 8 + 24) s c (omega arith) (omega arith)
      (uses_within add (page ∷ log ∷ []) (log ∷ []) 0 (n + 8 + 10) 0 14 s b c (within_two page log []) (put2 a b u1 u2) u3)

-- two named pages are among those two and one between them
pub skip : (page a log : ℕ) → IsWithin (page ∷ log ∷ []) (page ∷ a ∷ log ∷ [])
skip page a log = within_both (page ∷ []) (log ∷ []) (page ∷ a ∷ log ∷ []) (within_one page (a ∷ log ∷ [])) (λ n is. within_right (page ∷ a ∷ []) (log ∷ []) n is)

-- a page is opened: taken, started, put behind the others
module _ {T : Type 0} {state : T → PageState} {stays : T → T → Type 0} (add : (a b c : T) → stays a b → stays b c → stays a c) (page log : ℕ) (s : T) where
  pub open1 : (a : T) → Uses state stays (0 ∷ []) 0 21 s a → Uses state stays (page ∷ 0 ∷ log ∷ []) 0 21 s a
  open1 a u1 = begin (page ∷ 0 ∷ log ∷ []) (0 ∷ []) 0 21 s a (within_two page 0 (log ∷ [])) u1

  pub open2 : (a b : T) → Uses state stays (0 ∷ []) 0 21 s a → Uses state stays (page ∷ []) 0 64 a b → Uses state stays (page ∷ 0 ∷ log ∷ []) 0 85 s b
  open2 a b u1 u2 = uses_within add (page ∷ 0 ∷ log ∷ []) (page ∷ []) 0 21 0 64 s a b (within_one page (0 ∷ log ∷ [])) (open1 a u1) u2

  -- the page that was taken is named, or counts as another
  pub open3_named : (a b c : T) → Uses state stays (0 ∷ []) 0 21 s a → Uses state stays (page ∷ []) 0 64 a b → Uses state stays (page ∷ log ∷ []) 1 68 b c → Uses state stays (page ∷ 0 ∷ log ∷ []) 1 153 s c
  open3_named a b c u1 u2 u3 = uses_within add (page ∷ 0 ∷ log ∷ []) (page ∷ log ∷ []) 0 85 1 68 s b c (skip page 0 log) (open2 a b u1 u2) u3

  pub open3 : (a b c : T) → Uses state stays (0 ∷ []) 0 21 s a → Uses state stays (page ∷ []) 0 64 a b → Uses state stays (page ∷ log ∷ []) 1 68 b c → Uses state stays (0 ∷ log ∷ []) 2 153 s c
  open3 a b c u1 u2 u3 = uses_unnamed page (0 ∷ log ∷ []) 1 153 s c (open3_named a b c u1 u2 u3)

  pub open2_all : (a b : T) → Uses state stays (0 ∷ []) 0 21 s a → Uses state stays (page ∷ []) 0 64 a b → Uses state stays (0 ∷ log ∷ []) 2 153 s b
  open2_all a b u1 u2 = uses_at_most (0 ∷ log ∷ []) 1 85 2 153 s b (omega arith) (omega arith) (uses_unnamed page (0 ∷ log ∷ []) 0 85 s b (open2 a b u1 u2))

-- two named pages are among the same two in the other order
pub swap : (a b : ℕ) → IsWithin (b ∷ a ∷ []) (a ∷ b ∷ [])
swap a b = within_both (b ∷ []) (a ∷ []) (a ∷ b ∷ []) (within_two a b []) (within_one a (b ∷ []))

-- a place is found: the newest page's number and its end are read, and a page may be opened
module _ {T : Type 0} {state : T → PageState} {stays : T → T → Type 0} (add : (a b c : T) → stays a b → stays b c → stays a c) (log q : ℕ) (s : T) where
  pub place1 : (a : T) → Uses state stays (log ∷ []) 0 0 s a → Uses state stays (log ∷ 0 ∷ []) 0 0 s a
  place1 a u1 = begin (log ∷ 0 ∷ []) (log ∷ []) 0 0 s a (within_one log (0 ∷ [])) u1

  pub place2 : (a b : T) → Uses state stays (log ∷ []) 0 0 s a → Uses state stays (q ∷ []) 0 0 a b → Uses state stays (log ∷ 0 ∷ []) 1 0 s b
  place2 a b u1 u2 = uses_other add (log ∷ 0 ∷ []) q 0 0 0 s a b (place1 a u1) u2

  pub place3 : (a b c : T) → Uses state stays (log ∷ []) 0 0 s a → Uses state stays (q ∷ []) 0 0 a b → Uses state stays (0 ∷ log ∷ []) 2 153 b c → Uses state stays (log ∷ 0 ∷ []) 3 153 s c
  place3 a b c u1 u2 u3 = uses_within add (log ∷ 0 ∷ []) (0 ∷ log ∷ []) 1 0 2 153 s b c (swap log 0) (place2 a b u1 u2) u3

  -- where the page of the place is named: the newest one, or the one that was opened
  pub place2_named : (a b : T) → Uses state stays (log ∷ []) 0 0 s a → Uses state stays (q ∷ []) 0 0 a b → Uses state stays (q ∷ log ∷ 0 ∷ []) 2 153 s b
  place2_named a b u1 u2 = uses_at_most (q ∷ log ∷ 0 ∷ []) 0 0 2 153 s b (omega arith) (omega arith)
      (uses_within add (q ∷ log ∷ 0 ∷ []) (q ∷ []) 0 0 0 0 s a b (within_one q (log ∷ 0 ∷ [])) (begin (q ∷ log ∷ 0 ∷ []) (log ∷ []) 0 0 s a (within_two q log (0 ∷ [])) u1) u2)

  pub place3_named : (page : ℕ) (a b c : T) → Uses state stays (log ∷ []) 0 0 s a → Uses state stays (q ∷ []) 0 0 a b → Uses state stays (page ∷ 0 ∷ log ∷ []) 1 153 b c → Uses state stays (page ∷ log ∷ 0 ∷ []) 2 153 s c
  place3_named page a b c u1 u2 u3 = uses_within add (page ∷ log ∷ 0 ∷ []) (page ∷ 0 ∷ log ∷ []) 1 0 1 153 s b c
      (within_both (page ∷ []) (0 ∷ log ∷ []) (page ∷ log ∷ 0 ∷ []) (within_one page (log ∷ 0 ∷ [])) (λ n is. within_right (page ∷ []) (log ∷ 0 ∷ []) n (swap log 0 n is)))
      (uses_other add (page ∷ log ∷ 0 ∷ []) q 0 0 0 s a b (begin (page ∷ log ∷ 0 ∷ []) (log ∷ []) 0 0 s a (within_two page log (0 ∷ [])) u1) u2) u3

-- a record is appended: the last one's address is read, a place is found, the record is put
module _ {T : Type 0} {state : T → PageState} {stays : T → T → Type 0} (add : (a b c : T) → stays a b → stays b c → stays a c) (log page n : ℕ) (s : T) where
  pub append1 : (a : T) → Uses state stays (log ∷ []) 0 0 s a → Uses state stays (log ∷ 0 ∷ []) 0 0 s a
  append1 a u1 = begin (log ∷ 0 ∷ []) (log ∷ []) 0 0 s a (within_one log (0 ∷ [])) u1

  pub append2 : (a b : T) → Uses state stays (log ∷ []) 0 0 s a → Uses state stays (log ∷ 0 ∷ []) 3 153 a b → Uses state stays (log ∷ 0 ∷ []) 3 153 s b
  append2 a b u1 u2 = uses_within add (log ∷ 0 ∷ []) (log ∷ 0 ∷ []) 0 0 3 153 s a b (λ m is. is) (append1 a u1) u2

  -- the page of the place is named, and the record goes there
  pub append2_named : (a b : T) → Uses state stays (log ∷ []) 0 0 s a → Uses state stays (page ∷ log ∷ 0 ∷ []) 2 153 a b → Uses state stays (page ∷ log ∷ 0 ∷ []) 2 153 s b
  append2_named a b u1 u2 =
      uses_within add (page ∷ log ∷ 0 ∷ []) (page ∷ log ∷ 0 ∷ []) 0 0 2 153 s a b (λ m is. is) (begin (page ∷ log ∷ 0 ∷ []) (log ∷ []) 0 0 s a (within_two page log (0 ∷ [])) u1) u2

  pub append3 : (a b c : T) → Uses state stays (log ∷ []) 0 0 s a → Uses state stays (page ∷ log ∷ 0 ∷ []) 2 153 a b → Uses state stays (page ∷ log ∷ []) 0 (n + 8 + 24) b c → Uses state stays (log ∷ 0 ∷ []) 3 (n + 185) s c
  append3 a b c u1 u2 u3 = uses_at_most (log ∷ 0 ∷ []) 3 (153 + (n + 8 + 24)) 3 (n + 185) s c (omega arith) (omega arith)
      (uses_unnamed page (log ∷ 0 ∷ []) 2 (153 + (n + 8 + 24)) s c
      (uses_within add (page ∷ log ∷ 0 ∷ []) (page ∷ log ∷ []) 2 153 0 (n + 8 + 24) s b c (λ m is. within_left (page ∷ log ∷ []) (0 ∷ []) m is) (append2_named a b u1 u2) u3))

-- the page of the place is one of the three others
pub may_put : {T : Type 0} {state : T → PageState} {stays : T → T → Type 0} (log page n : ℕ) (s t : T) → MayUse (log ∷ 0 ∷ []) 3 (n + 185) (state s) → Uses state stays (page ∷ log ∷ 0 ∷ []) 2 153 s t
    → MayUse (page ∷ log ∷ []) 0 (n + 8 + 24) (state t)
may_put {state = state} log page n s t may uses =
    may_within (page ∷ log ∷ 0 ∷ []) (page ∷ log ∷ []) 2 (n + 185) 2 153 0 (n + 8 + 24) s t (λ m is. within_left (page ∷ log ∷ []) (0 ∷ []) m is) (omega arith) (omega arith)
    (may_name page (log ∷ 0 ∷ []) 2 (n + 185) (state s) may) uses

-- a log is begun: a page taken, started, put in front of the active logs
module _ {T : Type 0} {state : T → PageState} {stays : T → T → Type 0} (add : (a b c : T) → stays a b → stays b c → stays a c) (page : ℕ) (s : T) where
  pub begin1 : (a : T) → Uses state stays (0 ∷ []) 0 21 s a → Uses state stays (page ∷ 0 ∷ []) 0 21 s a
  begin1 a u1 = begin (page ∷ 0 ∷ []) (0 ∷ []) 0 21 s a (within_two page 0 []) u1

  pub begin2 : (a b : T) → Uses state stays (0 ∷ []) 0 21 s a → Uses state stays (page ∷ []) 0 115 a b → Uses state stays (page ∷ 0 ∷ []) 0 136 s b
  begin2 a b u1 u2 = uses_within add (page ∷ 0 ∷ []) (page ∷ []) 0 21 0 115 s a b (within_one page (0 ∷ [])) (begin1 a u1) u2

  pub begin3 : (a b c : T) → Uses state stays (0 ∷ []) 0 21 s a → Uses state stays (page ∷ []) 0 115 a b → Uses state stays (page ∷ 0 ∷ []) 1 68 b c → Uses state stays (0 ∷ []) 2 204 s c
  begin3 a b c u1 u2 u3 = uses_unnamed page (0 ∷ []) 1 204 s c (uses_within add (page ∷ 0 ∷ []) (page ∷ 0 ∷ []) 0 136 1 68 s b c (λ n is. is) (begin2 a b u1 u2) u3)

  pub begin2_all : (a b : T) → Uses state stays (0 ∷ []) 0 21 s a → Uses state stays (page ∷ []) 0 115 a b → Uses state stays (0 ∷ []) 2 204 s b
  begin2_all a b u1 u2 = uses_at_most (0 ∷ []) 1 136 2 204 s b (omega arith) (omega arith) (uses_unnamed page (0 ∷ []) 0 136 s b (begin2 a b u1 u2))

-- a page is dropped: its node taken out of the list, the page given back, the last record set
module _ {T : Type 0} {state : T → PageState} {stays : T → T → Type 0} (add : (a b c : T) → stays a b → stays b c → stays a c) (page log : ℕ) (s : T) where
  pub drop1 : (a : T) → Uses state stays (page ∷ log ∷ []) 1 40 s a → Uses state stays (page ∷ log ∷ 0 ∷ []) 1 40 s a
  drop1 a u1 = begin (page ∷ log ∷ 0 ∷ []) (page ∷ log ∷ []) 1 40 s a (λ n is. within_left (page ∷ log ∷ []) (0 ∷ []) n is) u1

  pub drop2 : (a b : T) → Uses state stays (page ∷ log ∷ []) 1 40 s a → Uses state stays (0 ∷ []) 0 21 a b → Uses state stays (page ∷ log ∷ 0 ∷ []) 1 61 s b
  drop2 a b u1 u2 = uses_within add (page ∷ log ∷ 0 ∷ []) (0 ∷ []) 1 40 0 21 s a b (λ n is. within_right (page ∷ log ∷ []) (0 ∷ []) n is) (drop1 a u1) u2

  pub drop_last : (a b : T) → Uses state stays (page ∷ log ∷ 0 ∷ []) 1 61 s a → Uses state stays (log ∷ []) 0 14 a b → Uses state stays (page ∷ log ∷ 0 ∷ []) 1 75 s b
  drop_last a b u1 u2 = uses_within add (page ∷ log ∷ 0 ∷ []) (log ∷ []) 1 61 0 14 s a b (within_two page log (0 ∷ [])) u1 u2

-- a log ends: its node taken out of the list, its pages given back
module _ {T : Type 0} {state : T → PageState} {stays : T → T → Type 0} (add : (a b c : T) → stays a b → stays b c → stays a c) (log : ℕ) (s : T) where
  pub end1 : (a : T) → Uses state stays (log ∷ 0 ∷ []) 2 40 s a → Uses state stays (log ∷ 0 ∷ []) 2 82 s a
  end1 a u1 = uses_at_most (log ∷ 0 ∷ []) 2 40 2 82 s a (omega arith) (omega arith) u1

  pub end2 : (a b : T) → Uses state stays (log ∷ 0 ∷ []) 2 40 s a → Uses state stays (0 ∷ []) 0 42 a b → Uses state stays (log ∷ 0 ∷ []) 2 82 s b
  end2 a b u1 u2 = uses_within add (log ∷ 0 ∷ []) (0 ∷ []) 2 40 0 42 s a b (within_two log 0 []) u1 u2

-- the newest record is popped: two addresses read, and the record cut or the log ended
module _ {T : Type 0} {state : T → PageState} {stays : T → T → Type 0} (add : (a b c : T) → stays a b → stays b c → stays a c) (page log : ℕ) (s : T) where
  pub pop1 : (a : T) → Uses state stays (log ∷ []) 0 0 s a → Uses state stays (page ∷ log ∷ 0 ∷ []) 0 0 s a
  pop1 a u1 = begin (page ∷ log ∷ 0 ∷ []) (log ∷ []) 0 0 s a (within_two page log (0 ∷ [])) u1

  pub pop2 : (a b : T) → Uses state stays (log ∷ []) 0 0 s a → Uses state stays (page ∷ []) 0 0 a b → Uses state stays (page ∷ log ∷ 0 ∷ []) 0 0 s b
  pop2 a b u1 u2 = uses_within add (page ∷ log ∷ 0 ∷ []) (page ∷ []) 0 0 0 0 s a b (within_one page (log ∷ 0 ∷ [])) (pop1 a u1) u2

  others : (k n : ℕ) (t : T) → k ≤ 2 → n ≤ 82 → Uses state stays (page ∷ log ∷ 0 ∷ []) k n s t → Uses state stays (log ∷ 0 ∷ []) 3 82 s t
  others k n t few short u = uses_at_most (log ∷ 0 ∷ []) (k + 1) n 3 82 s t (omega (arith, few)) short (uses_unnamed page (log ∷ 0 ∷ []) k n s t u)

  pub pop1_all : (a : T) → Uses state stays (log ∷ []) 0 0 s a → Uses state stays (log ∷ 0 ∷ []) 3 82 s a
  pop1_all a u1 = others 0 0 a (omega arith) (omega arith) (pop1 a u1)

  pub pop2_all : (a b : T) → Uses state stays (log ∷ []) 0 0 s a → Uses state stays (page ∷ []) 0 0 a b → Uses state stays (log ∷ 0 ∷ []) 3 82 s b
  pop2_all a b u1 u2 = others 0 0 b (omega arith) (omega arith) (pop2 a b u1 u2)

  pub pop_end : (a b c : T) → Uses state stays (log ∷ []) 0 0 s a → Uses state stays (page ∷ []) 0 0 a b → Uses state stays (log ∷ 0 ∷ []) 2 82 b c → Uses state stays (log ∷ 0 ∷ []) 3 82 s c
  pop_end a b c u1 u2 u3 = others 2 82 c (omega arith) (omega arith) (uses_within add (page ∷ log ∷ 0 ∷ []) (log ∷ 0 ∷ []) 0 0 2 82 s b c (λ n is. within_right (page ∷ []) (log ∷ 0 ∷ []) n is) (pop2 a b u1 u2) u3)

  pub pop_cut : (a b c : T) → Uses state stays (log ∷ []) 0 0 s a → Uses state stays (page ∷ []) 0 0 a b → Uses state stays (page ∷ log ∷ 0 ∷ []) 1 75 b c → Uses state stays (log ∷ 0 ∷ []) 3 82 s c
  pop_cut a b c u1 u2 u3 = others 1 75 c (omega arith) (omega arith) (uses_within add (page ∷ log ∷ 0 ∷ []) (page ∷ log ∷ 0 ∷ []) 0 0 1 75 s b c (λ n is. is) (pop2 a b u1 u2) u3)

-- room for three pages besides the log's and page 0 is room for two once one is named
pub may_pop : (page log : ℕ) (s : PageState) → MayUse (log ∷ 0 ∷ []) 3 82 s → MayUse (page ∷ log ∷ 0 ∷ []) 2 82 s
may_pop page log s may = may_name page (log ∷ 0 ∷ []) 2 82 s may

-- a purged log goes: the count read, its node taken out of the list, its page given back, the count raised
module _ {T : Type 0} {state : T → PageState} {stays : T → T → Type 0} (add : (a b c : T) → stays a b → stays b c → stays a c) (log : ℕ) (s : T) where
  pub gone1 : (a : T) → Uses state stays (0 ∷ []) 0 0 s a → Uses state stays (log ∷ 0 ∷ []) 0 0 s a
  gone1 a u1 = begin (log ∷ 0 ∷ []) (0 ∷ []) 0 0 s a (within_two log 0 []) u1

  pub gone2 : (a b : T) → Uses state stays (0 ∷ []) 0 0 s a → Uses state stays (log ∷ 0 ∷ []) 1 40 a b → Uses state stays (log ∷ 0 ∷ []) 1 40 s b
  gone2 a b u1 u2 = uses_within add (log ∷ 0 ∷ []) (log ∷ 0 ∷ []) 0 0 1 40 s a b (λ n is. is) (gone1 a u1) u2

  pub gone3 : (a b c : T) → Uses state stays (0 ∷ []) 0 0 s a → Uses state stays (log ∷ 0 ∷ []) 1 40 a b → Uses state stays (0 ∷ []) 0 21 b c → Uses state stays (log ∷ 0 ∷ []) 1 61 s c
  gone3 a b c u1 u2 u3 = uses_within add (log ∷ 0 ∷ []) (0 ∷ []) 1 40 0 21 s b c (within_two log 0 []) (gone2 a b u1 u2) u3

  pub gone4 : (a b c d : T) → Uses state stays (0 ∷ []) 0 0 s a → Uses state stays (log ∷ 0 ∷ []) 1 40 a b → Uses state stays (0 ∷ []) 0 21 b c → Uses state stays (0 ∷ []) 0 16 c d → Uses state stays (log ∷ 0 ∷ []) 1 77 s d
  gone4 a b c d u1 u2 u3 u4 = uses_within add (log ∷ 0 ∷ []) (0 ∷ []) 1 61 0 16 s c d (within_two log 0 []) (gone3 a b c u1 u2 u3) u4

  pub gone_all : (k n : ℕ) (t : T) → k ≤ 1 → n ≤ 77 → Uses state stays (log ∷ 0 ∷ []) k n s t → Uses state stays (log ∷ 0 ∷ []) 1 77 s t
  gone_all k n t few short u = uses_at_most (log ∷ 0 ∷ []) k n 1 77 s t few short u

-- the newest page of a purged log goes: its number read, and the page dropped or the log ended
module _ {T : Type 0} {state : T → PageState} {stays : T → T → Type 0} (add : (a b c : T) → stays a b → stays b c → stays a c) (page log : ℕ) (s : T) where
  pub purge1 : (a : T) → Uses state stays (log ∷ []) 0 0 s a → Uses state stays (log ∷ 0 ∷ []) 2 77 s a
  purge1 a u1 = uses_at_most (log ∷ 0 ∷ []) 0 0 2 77 s a (omega arith) (omega arith) (begin (log ∷ 0 ∷ []) (log ∷ []) 0 0 s a (within_one log (0 ∷ [])) u1)

  pub purge_end : (a b : T) → Uses state stays (log ∷ []) 0 0 s a → Uses state stays (log ∷ 0 ∷ []) 1 77 a b → Uses state stays (log ∷ 0 ∷ []) 2 77 s b
  purge_end a b u1 u2 = uses_at_most (log ∷ 0 ∷ []) 1 77 2 77 s b (omega arith) (omega arith)
      (uses_within add (log ∷ 0 ∷ []) (log ∷ 0 ∷ []) 0 0 1 77 s a b (λ n is. is) (begin (log ∷ 0 ∷ []) (log ∷ []) 0 0 s a (within_one log (0 ∷ [])) u1) u2)

  pub purge_drop : (a b : T) → Uses state stays (log ∷ []) 0 0 s a → Uses state stays (page ∷ log ∷ 0 ∷ []) 1 61 a b → Uses state stays (log ∷ 0 ∷ []) 2 77 s b
  purge_drop a b u1 u2 = uses_at_most (log ∷ 0 ∷ []) 2 61 2 77 s b (omega arith) (omega arith)
      (uses_unnamed page (log ∷ 0 ∷ []) 1 61 s b (uses_within add (page ∷ log ∷ 0 ∷ []) (page ∷ log ∷ 0 ∷ []) 0 0 1 61 s a b (λ n is. is) (begin (page ∷ log ∷ 0 ∷ []) (log ∷ []) 0 0 s a (within_two page log (0 ∷ [])) u1) u2))

-- the page that is dropped counts as one of the two others
pub may_drop : (page log : ℕ) (s : PageState) → MayUse (log ∷ 0 ∷ []) 2 77 s → MayUse (page ∷ log ∷ 0 ∷ []) 1 77 s
may_drop page log s may = may_name page (log ∷ 0 ∷ []) 1 77 s may

-- a log is committed: the count read, the first record found, the log marked, its node moved, the count raised
module _ {T : Type 0} {state : T → PageState} {stays : T → T → Type 0} (add : (a b c : T) → stays a b → stays b c → stays a c) (log : ℕ) (s : T) where
  pub commit1 : (a : T) → Uses state stays (0 ∷ []) 0 0 s a → Uses state stays (log ∷ 0 ∷ []) 0 0 s a
  commit1 a u1 = begin (log ∷ 0 ∷ []) (0 ∷ []) 0 0 s a (within_two log 0 []) u1

  pub commit2 : (a b : T) → Uses state stays (0 ∷ []) 0 0 s a → Uses state stays (log ∷ []) 0 0 a b → Uses state stays (log ∷ 0 ∷ []) 0 0 s b
  commit2 a b u1 u2 = uses_within add (log ∷ 0 ∷ []) (log ∷ []) 0 0 0 0 s a b (within_one log (0 ∷ [])) (commit1 a u1) u2

  pub commit3 : (a b c : T) → Uses state stays (0 ∷ []) 0 0 s a → Uses state stays (log ∷ []) 0 0 a b → Uses state stays (log ∷ []) 0 39 b c → Uses state stays (log ∷ 0 ∷ []) 0 39 s c
  commit3 a b c u1 u2 u3 = uses_within add (log ∷ 0 ∷ []) (log ∷ []) 0 0 0 39 s b c (within_one log (0 ∷ [])) (commit2 a b u1 u2) u3

  pub commit4 : (a b c d : T) → Uses state stays (0 ∷ []) 0 0 s a → Uses state stays (log ∷ []) 0 0 a b → Uses state stays (log ∷ []) 0 39 b c → Uses state stays (log ∷ 0 ∷ []) 2 40 c d → Uses state stays (log ∷ 0 ∷ []) 2 79 s d
  commit4 a b c d u1 u2 u3 u4 = uses_within add (log ∷ 0 ∷ []) (log ∷ 0 ∷ []) 0 39 2 40 s c d (λ n is. is) (commit3 a b c u1 u2 u3) u4

  pub commit5 : (a b c d e : T) → Uses state stays (0 ∷ []) 0 0 s a → Uses state stays (log ∷ []) 0 0 a b → Uses state stays (log ∷ []) 0 39 b c → Uses state stays (log ∷ 0 ∷ []) 2 40 c d → Uses state stays (log ∷ 0 ∷ []) 1 68 d e
      → Uses state stays (log ∷ 0 ∷ []) 3 147 s e
  commit5 a b c d e u1 u2 u3 u4 u5 = uses_within add (log ∷ 0 ∷ []) (log ∷ 0 ∷ []) 2 79 1 68 s d e (λ n is. is) (commit4 a b c d u1 u2 u3 u4) u5

  pub commit6 : (a b c d e f : T) → Uses state stays (0 ∷ []) 0 0 s a → Uses state stays (log ∷ []) 0 0 a b → Uses state stays (log ∷ []) 0 39 b c → Uses state stays (log ∷ 0 ∷ []) 2 40 c d → Uses state stays (log ∷ 0 ∷ []) 1 68 d e
      → Uses state stays (0 ∷ []) 0 16 e f → Uses state stays (log ∷ 0 ∷ []) 3 163 s f
  commit6 a b c d e f u1 u2 u3 u4 u5 u6 = uses_within add (log ∷ 0 ∷ []) (0 ∷ []) 3 147 0 16 s e f (within_two log 0 []) (commit5 a b c d e u1 u2 u3 u4 u5) u6

  pub commit_all : (k n : ℕ) (t : T) → k ≤ 3 → n ≤ 163 → Uses state stays (log ∷ 0 ∷ []) k n s t → Uses state stays (log ∷ 0 ∷ []) 3 163 s t
  commit_all k n t few short u = uses_at_most (log ∷ 0 ∷ []) k n 3 163 s t few short u
