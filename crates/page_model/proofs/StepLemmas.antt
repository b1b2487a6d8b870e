-- Calls one after another: what they touch and write.
use Rattle.std.proofs.Common.{◌≡◌, ◌≢◌, inl, inr, ℕ, ◌+◌, ◌≤◌, ◌==◌, Bool, true, false, ◌||◌, cond, List, [], ◌∷◌, ◌++◌, length, Option, Some, None, IfSome, refl, sym, ap, ◌∙◌, subst, arith}
use Rattle.std.proofs.lemmas.Bool.{cases_eq, cases_Bool, or_cases, eq-eqb, ne_eqb, eqb-true}
use Rattle.std.proofs.lemmas.List.{length-append, append_assoc}
use Rattle.page_model.specs.Pages.{Pages}
use Rattle.page_model.specs.Steps.{PageState, among, different, IsWithin, MayUse, Uses, max_pins, known, unknown, MayReach, Reaches, Told, Becomes}

-- ---- among and different

or_true : (x : Bool) → (x || true) ≡ true
or_true true = refl
or_true false = refl

-- a number among two lists
pub among-append : (xs ys : List ℕ) (n : ℕ) → among (xs ++ ys) n ≡ (among xs n || among ys n)
among-append [] ys n = refl
among-append (x ∷ xs) ys n = elim (cases_Bool (n == x)) [
  | inl is ↦ rw is refl
  | inr not ↦ rw not (among-append xs ys n)
]

-- the first of two lists is within both
pub within_left : (xs ys : List ℕ) → IsWithin xs (xs ++ ys)
within_left xs ys n is = among-append xs ys n ∙ rw is refl

-- the second of two lists is within both
pub within_right : (xs ys : List ℕ) → IsWithin ys (xs ++ ys)
within_right xs ys n is = among-append xs ys n ∙ rw is (or_true (among xs n))

-- two lists within a third
pub within_both : (xs ys zs : List ℕ) → IsWithin xs zs → IsWithin ys zs → IsWithin (xs ++ ys) zs
within_both xs ys zs left right n is = elim (or_cases (among xs n) (among ys n) (sym (among-append xs ys n) ∙ is)) [
  | inl a ↦ left n a
  | inr b ↦ right n b
]

-- no numbers are within any
pub within_nil : (zs : List ℕ) → IsWithin [] zs
within_nil zs n is = cc

without : ℕ → List ℕ → List ℕ
without x [] = []
without x (y ∷ ys) = cond (y == x) (without x ys) (y ∷ without x ys)

without_other : (x : ℕ) (ys : List ℕ) (n : ℕ) → n ≢ x → among (without x ys) n ≡ among ys n
unfolding without
without_other x [] n other = refl
without_other x (y ∷ ys) n other = elim (cases_eq y x) [
  | inl same ↦ rw (eq-eqb y x same, ne_eqb n y (λ e. other (e ∙ same))) (without_other x ys n other)
  | inr not ↦ rw (ne_eqb y x not) (ap (λ (b : Bool). (n == y) || b) (without_other x ys n other))
]

without_absent : (x : ℕ) (ys : List ℕ) → among ys x ≡ false → different (without x ys) ≡ different ys
unfolding without
without_absent x [] absent = refl
without_absent x (y ∷ ys) absent = elim (cases_eq x y) [
  | inl same ↦ let e = rw (eq-eqb x y same) at absent in cc
  | inr other ↦
      let rest : among ys x ≡ false = rw (ne_eqb x y other) at absent in
      let ih = without_absent x ys rest in
      rw (ne_eqb y x (λ e. other (sym e)), without_other x ys y (λ e. other (sym e)), ih) refl
]

without_present : (x : ℕ) (ys : List ℕ) → among ys x ≡ true → different ys ≡ 1 + different (without x ys)
unfolding without
without_present x [] present = cc
without_present x (y ∷ ys) present = elim (cases_eq x y) [
  | inl same ↦ elim (cases_Bool (among ys y)) [
    | inl again ↦ rw (eq-eqb y x (sym same), again) (without_present x ys (ap (among ys) same ∙ again))
    | inr once ↦ rw (eq-eqb y x (sym same), once) (ap (λ (n : ℕ). 1 + n) (sym (without_absent x ys (ap (among ys) same ∙ once))))
  ]
  | inr other ↦
      let rest : among ys x ≡ true = rw (ne_eqb x y other) at present in
      let ih = without_present x ys rest in
      elim (cases_Bool (among ys y)) [
        | inl again ↦ rw (ne_eqb y x (λ e. other (sym e)), without_other x ys y (λ e. other (sym e)), again) ih
        | inr once ↦ rw (ne_eqb y x (λ e. other (sym e)), without_other x ys y (λ e. other (sym e)), once) (ap (λ (n : ℕ). 1 + n) ih)
      ]
]

-- fewer numbers have no more different ones
pub different_within : (xs ys : List ℕ) → IsWithin xs ys → different xs ≤ different ys
different_within [] ys within = omega arith
different_within (x ∷ xs) ys within = elim (cases_Bool (among xs x)) [
  | inl again ↦ rw again (different_within xs ys (λ n is. within n (rw is (or_true (n == x)))))
  | inr once ↦
      let here : among ys x ≡ true = within x (rw (eq-eqb x x refl) refl) in
      let fewer = different_within xs (without x ys) (λ n is. elim (cases_eq n x) [
        | inl same ↦ let e : true ≡ false = sym is ∙ ap (among xs) same ∙ once in cc
        | inr other ↦ without_other x ys n other ∙ within n (rw is (or_true (n == x)))
      ]) in
      rw once (omega (arith, fewer, without_present x ys here))
]

-- each number more makes one different at most
pub different_append : (xs ys : List ℕ) → different (xs ++ ys) ≤ length xs + different ys
different_append [] ys = omega arith
different_append (x ∷ xs) ys = elim (cases_Bool (among (xs ++ ys) x)) [
  | inl again ↦ rw again (omega (arith, different_append xs ys))
  | inr once ↦ rw once (omega (arith, different_append xs ys))
]

-- ---- one call after another, over values of any type whose state is told, and where what is to stay adds up

-- the second call is allowed behind the first
pub may_use_then : {T : Type 0} {state : T → PageState} {stays : T → T → Type 0} (n1 n2 : List ℕ) (k1 k2 b1 b2 : ℕ) (s t : T)
    → MayUse (n2 ++ n1) (k1 + k2) (b1 + b2) (state s) → Uses state stays n1 k1 b1 s t → MayUse n2 k2 b2 (state t)
may_use_then {state = state} n1 n2 k1 k2 b1 b2 s t may uses =
    let before = (state s).touched in
    let after = (state t).touched in
    let others = uses.touches.others in
    let all = others ++ ((n2 ++ n1) ++ before) in
    let inner : IsWithin (n2 ++ n1) all = λ n is. within_right others ((n2 ++ n1) ++ before) n (within_left (n2 ++ n1) before n is) in
    let old : IsWithin before all = λ n is. within_right others ((n2 ++ n1) ++ before) n (within_right (n2 ++ n1) before n is) in
    let mid : IsWithin (others ++ (n1 ++ before)) all =
    within_both others (n1 ++ before) all (within_left others ((n2 ++ n1) ++ before))
    (within_both n1 before all (λ n is. inner n (within_right n2 n1 n is)) old) in
    let fewer = different_within (n2 ++ after) all (within_both n2 after all (λ n is. inner n (within_left n2 n1 n is)) (λ n is. mid n (uses.touches.within n is))) in
    record {
      pins = omega (arith, fewer, different_append others ((n2 ++ n1) ++ before), uses.touches.few, may.pins);
      room = omega (arith, uses.room, may.room);
    }

-- what both calls used
pub uses_then : {T : Type 0} {state : T → PageState} {stays : T → T → Type 0} (add : (a b c : T) → stays a b → stays b c → stays a c) (n1 n2 : List ℕ) (k1 k2 b1 b2 : ℕ) (s t u : T)
    → Uses state stays n1 k1 b1 s t → Uses state stays n2 k2 b2 t u → Uses state stays (n2 ++ n1) (k1 + k2) (b1 + b2) s u
uses_then {state = state} add n1 n2 k1 k2 b1 b2 s t u first second =
    let o1 = first.touches.others in
    let o2 = second.touches.others in
    let before = (state s).touched in
    let between = (state t).touched in
    let tail = (n2 ++ n1) ++ before in
    let all = (o2 ++ o1) ++ tail in
    let in_tail : IsWithin tail all = within_right (o2 ++ o1) tail in
    let named : IsWithin (n2 ++ n1) all = λ n is. in_tail n (within_left (n2 ++ n1) before n is) in
    let old : IsWithin before all = λ n is. in_tail n (within_right (n2 ++ n1) before n is) in
    let others : IsWithin (o2 ++ o1) all = within_left (o2 ++ o1) tail in
    let mid : IsWithin (o1 ++ (n1 ++ before)) all =
    within_both o1 (n1 ++ before) all (λ n is. others n (within_right o2 o1 n is)) (within_both n1 before all (λ n is. named n (within_right n2 n1 n is)) old) in
    record {
      count = second.count ∙ first.count;
      touches = record {
        others = o2 ++ o1;
        few = omega (arith, length-append o2 o1, first.touches.few, second.touches.few);
        within = λ n is. within_both o2 (n2 ++ between) all (λ m is'. others m (within_left o2 o1 m is'))
            (within_both n2 between all (λ m is'. named m (within_left n2 n1 m is')) (λ m is'. mid m (first.touches.within m is'))) n (second.touches.within n is);
      };
      room = omega (arith, first.room, second.room);
      same = add s t u first.same second.same;
    }

-- fewer pages and bytes
pub may_less : (n1 n2 : List ℕ) (k1 k2 b1 b2 : ℕ) (s : PageState) → MayUse n1 k1 b1 s → IsWithin n2 n1 → k2 ≤ k1 → b2 ≤ b1 → MayUse n2 k2 b2 s
may_less n1 n2 k1 k2 b1 b2 s may named others bytes = record {
  pins = omega (arith, different_within (n2 ++ s.touched) (n1 ++ s.touched) (within_both n2 s.touched (n1 ++ s.touched) (λ n is. within_left n1 s.touched n (named n is)) (within_right n1 s.touched)), may.pins);
  room = omega (arith, may.room);
}

-- a page that isn't named counts as another
pub may_name : (q : ℕ) (named : List ℕ) (others bytes : ℕ) (s : PageState) → MayUse named (others + 1) bytes s → MayUse (q ∷ named) others bytes s
may_name q named others bytes s may = record { pins = omega (arith, different_append (q ∷ []) (named ++ s.touched), may.pins); room = may.room }

-- more pages and bytes
pub uses_more : {T : Type 0} {state : T → PageState} {stays : T → T → Type 0} (n1 n2 : List ℕ) (k1 k2 b1 b2 : ℕ) (s t : T)
    → Uses state stays n1 k1 b1 s t → IsWithin n1 n2 → k1 ≤ k2 → b1 ≤ b2 → Uses state stays n2 k2 b2 s t
uses_more {state = state} n1 n2 k1 k2 b1 b2 s t uses named others bytes =
    let before = (state s).touched in
    record {
      count = uses.count;
      touches = record {
        others = uses.touches.others;
        few = omega (arith, uses.touches.few);
        within = λ n is. within_both uses.touches.others (n1 ++ before) (uses.touches.others ++ (n2 ++ before))
            (within_left uses.touches.others (n2 ++ before))
            (λ m is'. within_right uses.touches.others (n2 ++ before) m (within_both n1 before (n2 ++ before) (λ j is''. within_left n2 before j (named j is'')) (within_right n2 before) m is')) n (uses.touches.within n is);
      };
      room = omega (arith, uses.room);
      same = uses.same;
    }

-- a page that is no longer named counts as another
pub uses_unnamed : {T : Type 0} {state : T → PageState} {stays : T → T → Type 0} (q : ℕ) (named : List ℕ) (others bytes : ℕ) (s t : T)
    → Uses state stays (q ∷ named) others bytes s t → Uses state stays named (others + 1) bytes s t
uses_unnamed {state = state} q named others bytes s t uses =
    let before = (state s).touched in
    let os = uses.touches.others in
    let all = (os ++ q ∷ []) ++ (named ++ before) in
    record {
      count = uses.count;
      touches = record {
        others = os ++ q ∷ [];
        few = omega (arith, length-append os (q ∷ []), uses.touches.few);
        within = λ n is. within_both os ((q ∷ []) ++ (named ++ before)) all (λ m is'. within_left (os ++ q ∷ []) (named ++ before) m (within_left os (q ∷ []) m is'))
            (within_both (q ∷ []) (named ++ before) all (λ m is'. within_left (os ++ q ∷ []) (named ++ before) m (within_right os (q ∷ []) m is')) (within_right (os ++ q ∷ []) (named ++ before))) n (uses.touches.within n is);
      };
      room = uses.room;
      same = uses.same;
    }

-- before the first call
pub uses_nowhere : {T : Type 0} {state : T → PageState} {stays : T → T → Type 0} (named : List ℕ) (s : T) → stays s s → Uses state stays named 0 0 s s
uses_nowhere {state = state} named s same = record { count = refl; touches = record { others = []; few = omega arith; within = within_right named (state s).touched }; room = omega arith; same = same }

-- ---- a call inside another: what the outer one may use, and what it has used so far

within_named : (n named : List ℕ) → IsWithin n named → IsWithin (n ++ named) named
within_named n named within = within_both n named named within (λ m is. is)

-- what is left for a call inside another
pub may_within : {T : Type 0} {state : T → PageState} {stays : T → T → Type 0} (named n : List ℕ) (most most_bytes k b k' b' : ℕ) (s t : T)
    → IsWithin n named → k + k' ≤ most → b + b' ≤ most_bytes → MayUse named most most_bytes (state s) → Uses state stays named k b s t → MayUse n k' b' (state t)
may_within {state = state} named n most most_bytes k b k' b' s t within few short may so_far =
    may_use_then named n k k' b b' s t (may_less named (n ++ named) most (k + k') most_bytes (b + b') (state s) may (within_named n named within) few short) so_far

-- what both have used, where the inner call touches named pages alone
pub uses_within : {T : Type 0} {state : T → PageState} {stays : T → T → Type 0} (add : (a b c : T) → stays a b → stays b c → stays a c) (named n : List ℕ) (k b k' b' : ℕ) (s t u : T)
    → IsWithin n named → Uses state stays named k b s t → Uses state stays n k' b' t u → Uses state stays named (k + k') (b + b') s u
uses_within add named n k b k' b' s t u within so_far call =
    uses_more (n ++ named) named (k + k') (k + k') (b + b') (b + b') s u (uses_then add named n k k' b b' s t u so_far call) (within_named n named within) (omega arith) (omega arith)

-- a page that isn't named
pub may_other : {T : Type 0} {state : T → PageState} {stays : T → T → Type 0} (named : List ℕ) (q most most_bytes k b b' : ℕ) (s t : T)
    → k + 1 ≤ most → b + b' ≤ most_bytes → MayUse named most most_bytes (state s) → Uses state stays named k b s t → MayUse (q ∷ []) 0 b' (state t)
may_other {state = state} named q most most_bytes k b b' s t few short may so_far =
    may_use_then named (q ∷ []) k 0 b b' s t (may_name q named (k + 0) (b + b') (state s) (may_less named named most (k + 0 + 1) most_bytes (b + b') (state s) may (λ n is. is) (omega arith) short)) so_far

-- what both have used, where the inner call touches a page that is not named
pub uses_other : {T : Type 0} {state : T → PageState} {stays : T → T → Type 0} (add : (a b c : T) → stays a b → stays b c → stays a c) (named : List ℕ) (q k b b' : ℕ) (s t u : T)
    → Uses state stays named k b s t → Uses state stays (q ∷ []) 0 b' t u → Uses state stays named (k + 1) (b + b') s u
uses_other add named q k b b' s t u so_far call =
    uses_more named named (k + 0 + 1) (k + 1) (b + b') (b + b') s u (uses_unnamed q named (k + 0) (b + b') s u (uses_then add named (q ∷ []) k 0 b b' s t u so_far call)) (λ n is. is) (omega arith) (omega arith)

-- what was used, by greater bounds
pub uses_at_most : {T : Type 0} {state : T → PageState} {stays : T → T → Type 0} (named : List ℕ) (k b most most_bytes : ℕ) (s t : T)
    → k ≤ most → b ≤ most_bytes → Uses state stays named k b s t → Uses state stays named most most_bytes s t
uses_at_most named k b most most_bytes s t few short uses = uses_more named named k most b most_bytes s t uses (λ n is. is) few short

unknown_less : (near : Option (List ℕ)) (k most : ℕ) → k ≤ most → unknown near k + 0 ≤ unknown near most
unknown_less None k most few = omega arith
unknown_less (Some ns) k most few = omega arith

within_single : (q : ℕ) (xs : List ℕ) → among xs q ≡ true → IsWithin (q ∷ []) xs
within_single q xs there n is = elim (or_cases (n == q) false is) [
  | inl same ↦ ap (among xs) (eqb-true n q same) ∙ there
  | inr never ↦ cc
]

none_left : (others rest : List ℕ) → length others ≤ 0 → (n : ℕ) → among (others ++ rest) n ≡ true → among rest n ≡ true
none_left [] rest few n is = is
none_left (o ∷ others) rest few n is = absurd (omega arith)

-- ---- calls whose other pages may be known

-- the bound on the others is enough, whether or not they are known
pub may_reach : (near : Option (List ℕ)) (named : List ℕ) (most bytes : ℕ) (s : PageState) → length (known near) ≤ most → MayUse named most bytes s → MayReach near named most bytes s
may_reach None named most bytes s few may = may
may_reach (Some ns) named most bytes s few may = record {
  pins = rw append_assoc (omega (arith, different_append ns (named ++ s.touched), may.pins, few));
  room = may.room;
}

-- where all that is touched is pinned already
pub may_pinned : (near named : List ℕ) (most bytes : ℕ) (s : PageState) → IsWithin (near ++ named) s.touched → different s.touched ≤ max_pins → bytes ≤ s.room → MayReach (Some near) named most bytes s
may_pinned near named most bytes s within few room = record {
  pins = omega (arith, different_within ((near ++ named) ++ s.touched) s.touched (within_both (near ++ named) s.touched s.touched within (λ n is. is)), few);
  room = room;
}

-- a call inside one that may reach others
pub may_in : {T : Type 0} {state : T → PageState} {stays : T → T → Type 0} (near : Option (List ℕ)) (named n : List ℕ) (most most_bytes k b b' : ℕ) (s t : T)
    → IsWithin n named → k ≤ most → b + b' ≤ most_bytes → MayReach near named most most_bytes (state s) → Reaches state stays near named k b s t → MayUse n 0 b' (state t)
may_in near named n most most_bytes k b b' s t within few short may so_far =
    may_within (known near ++ named) n (unknown near most) most_bytes (unknown near k) b 0 b' s t (λ m is. within_right (known near) named m (within m is)) (unknown_less near k most few) short may so_far

-- what both have used, where the others may be known
pub uses_in : {T : Type 0} {state : T → PageState} {stays : T → T → Type 0} (add : (a b c : T) → stays a b → stays b c → stays a c) (near : Option (List ℕ)) (named n : List ℕ) (k b b' : ℕ) (s t u : T)
    → IsWithin n named → Reaches state stays near named k b s t → Uses state stays n 0 b' t u → Reaches state stays near named k (b + b') s u
uses_in add near named n k b b' s t u within so_far call =
    let all = known near ++ named in
    uses_more all all (unknown near k + 0) (unknown near k) (b + b') (b + b') s u
    (uses_within add all n (unknown near k) b 0 b' s t u (λ m is. within_right (known near) named m (within m is)) so_far call) (λ n is. is) (omega arith) (omega arith)

-- a page that is named or near, where it is known which are
abbrev pub IsReached : Option (List ℕ) → List ℕ → ℕ → Type 0
IsReached near named q = IfSome near (λ ns. among (ns ++ named) q ≡ true)

-- a call on such a page
pub may_near : {T : Type 0} {state : T → PageState} {stays : T → T → Type 0} (near : Option (List ℕ)) (named : List ℕ) (q most most_bytes k b b' : ℕ) (s t : T)
    → IsReached near named q → k + 1 ≤ most → b + b' ≤ most_bytes → MayReach near named most most_bytes (state s) → Reaches state stays near named k b s t → MayUse (q ∷ []) 0 b' (state t)
may_near None named q most most_bytes k b b' s t reached few short may so_far = may_other named q most most_bytes k b b' s t few short may so_far
may_near (Some ns) named q most most_bytes k b b' s t reached few short may so_far =
    may_within (ns ++ named) (q ∷ []) 0 most_bytes 0 b 0 b' s t (within_single q (ns ++ named) reached) (omega arith) short may so_far

-- what both have used, where the inner call touches a page near
pub uses_near : {T : Type 0} {state : T → PageState} {stays : T → T → Type 0} (add : (a b c : T) → stays a b → stays b c → stays a c) (near : Option (List ℕ)) (named : List ℕ) (q k b b' : ℕ) (s t u : T)
    → IsReached near named q → Reaches state stays near named k b s t → Uses state stays (q ∷ []) 0 b' t u → Reaches state stays near named (k + 1) (b + b') s u
uses_near add None named q k b b' s t u reached so_far call = uses_other add named q k b b' s t u so_far call
uses_near add (Some ns) named q k b b' s t u reached so_far call = uses_within add (ns ++ named) (q ∷ []) 0 b 0 b' s t u (within_single q (ns ++ named) reached) so_far call

-- before the first call
pub reaches_nowhere : {T : Type 0} {state : T → PageState} {stays : T → T → Type 0} (near : Option (List ℕ)) (named : List ℕ) (s : T) → stays s s → Reaches state stays near named 0 0 s s
reaches_nowhere near named s same = uses_at_most (known near ++ named) 0 0 (unknown near 0) 0 s s (omega arith) (omega arith) (uses_nowhere (known near ++ named) s same)

-- what was used, by greater bounds, where the others may be known
pub reaches_at_most : {T : Type 0} {state : T → PageState} {stays : T → T → Type 0} (near : Option (List ℕ)) (named : List ℕ) (k b most most_bytes : ℕ) (s t : T)
    → k ≤ most → b ≤ most_bytes → Reaches state stays near named k b s t → Reaches state stays near named most most_bytes s t
reaches_at_most near named k b most most_bytes s t few short uses =
    uses_at_most (known near ++ named) (unknown near k) b (unknown near most) most_bytes s t (let l = unknown_less near k most few in omega arith) short uses

-- what was touched, by the bound
pub uses_bound : {T : Type 0} {state : T → PageState} {stays : T → T → Type 0} (near : Option (List ℕ)) (named : List ℕ) (most bytes : ℕ) (s t : T)
    → length (known near) ≤ most → Reaches state stays near named most bytes s t → Uses state stays named most bytes s t
uses_bound None named most bytes s t few uses = uses
uses_bound {state = state} (Some ns) named most bytes s t few uses = record {
  count = uses.count;
  touches = record { others = ns; few = few; within = λ n is. sym (ap (λ (xs : List ℕ). among xs n) (append_assoc ns named (state s).touched)) ∙ none_left uses.touches.others ((ns ++ named) ++ (state s).touched) uses.touches.few n (uses.touches.within n is) };
  room = uses.room;
  same = uses.same;
}

-- the pages touched, where it is known which are near
pub near_within : {T : Type 0} {state : T → PageState} {stays : T → T → Type 0} (ns named : List ℕ) (most bytes : ℕ) (s t : T)
    → Reaches state stays (Some ns) named most bytes s t → IsWithin (state t).touched ((ns ++ named) ++ (state s).touched)
near_within {state = state} ns named most bytes s t uses n is = none_left uses.touches.others ((ns ++ named) ++ (state s).touched) uses.touches.few n (uses.touches.within n is)

-- the first number of a list
pub within_one : (n : ℕ) (more : List ℕ) → IsWithin (n ∷ []) (n ∷ more)
within_one n more = within_left (n ∷ []) more

-- the second number of a list
pub within_two : (m n : ℕ) (more : List ℕ) → IsWithin (n ∷ []) (m ∷ n ∷ more)
within_two m n more = λ k is. within_right (m ∷ []) (n ∷ more) k (within_one n more k is)

-- a call on told pages
pub told_step : (P : Pages → Pages → Type 0) (old new : Option Pages) (pages : Pages) → old ≡ Some pages → Told P old new → Becomes new (P pages)
told_step P old new pages is told =
    let Q : Option Pages → Type 0 = λ o. Told P o new in
    some_step P pages new (subst Q is told)
  where
    some_step : (P : Pages → Pages → Type 0) (pages : Pages) (new : Option Pages) → Told P (Some pages) new → Becomes new (P pages)
    some_step P pages None told = absurd told
    some_step P pages (Some after) told = (after, refl, told)
