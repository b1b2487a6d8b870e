-- What decides a statement of parts by what decides the parts.
use Rattle.std.proofs.Common.{◌≡◌, ◌≢◌, ◌⊎◌, ℕ, ◌≤◌, ◌==◌, ◌&&◌, ◌||◌, Bool, true, false, true≢false, not, nat_le, List, [], ◌∷◌, Option, Some, None, IfSome, is_some, zero, suc, All, Decides, refl, sym, ap, inl, inr, arith}
use Rattle.std.specs.List.{list_all}
use Rattle.std.proofs.lemmas.Bool.Decides.{Decides-eqb}
use Rattle.journal_rows.specs.Told.{is_number, is_empty, passes}

module _ {P Q : Type 0} where
  -- both parts
  pub both : (a b : Bool) → Decides a P → Decides b Q → Decides (a && b) (P × Q)
  both true b p q = ((λ e. (p.0 refl, q.0 e)), λ h. q.1 h.1)
  both false b p q = ((λ e. absurd (true≢false (sym e))), λ h. absurd (true≢false (sym (p.1 h.0))))

  -- one part or the other
  pub either : (a b : Bool) → Decides a P → Decides b Q → Decides (a || b) (P ⊎ Q)
  either true b p q = ((λ e. inl (p.0 refl)), λ h. refl)
  either false b p q = ((λ e. inr (q.0 e)), λ h. elim h [ inl x ↦ absurd (true≢false (sym (p.1 x))) | inr y ↦ q.1 y ])

module _ {P Q R : Type 0} where
  -- three parts
  pub three : (a b c : Bool) → Decides a P → Decides b Q → Decides c R → Decides (a && (b && c)) (P × Q × R)
  three a b c p q r = let d = both a (b && c) p (both b c q r) in ((λ e. let h = d.0 e in (h.0, h.1.0, h.1.1)), λ h. d.1 (h.0, (h.1, h.2)))

module _ {P Q R S : Type 0} where
  -- four
  pub four : (a b c d : Bool) → Decides a P → Decides b Q → Decides c R → Decides d S → Decides (a && (b && (c && d))) (P × Q × R × S)
  four a b c d p q r s = let t = both a (b && (c && d)) p (three b c d q r s) in ((λ e. let h = t.0 e in (h.0, h.1.0, h.1.1, h.1.2)), λ h. t.1 (h.0, (h.1, h.2, h.3)))

module _ {P Q R S T : Type 0} where
  -- five
  pub five : (a b c d e : Bool) → Decides a P → Decides b Q → Decides c R → Decides d S → Decides e T → Decides (a && (b && (c && (d && e)))) (P × Q × R × S × T)
  five a b c d e p q r s t = let u = both a (b && (c && (d && e))) p (four b c d e q r s t) in ((λ x. let h = u.0 x in (h.0, h.1.0, h.1.1, h.1.2, h.1.3)), λ h. u.1 (h.0, (h.1, h.2, h.3, h.4)))

-- what always holds
pub always : Decides true (Unit {0})
always = ((λ e. tt), λ h. refl)

-- a truth value is one
pub is_true : (b : Bool) → Decides b (b ≡ true)
is_true b = ((λ e. e), λ e. e)

-- a truth value is false
pub is_false : (b : Bool) → Decides (not b) (b ≡ false)
is_false true = ((λ e. absurd (true≢false (sym e))), λ e. absurd (true≢false e))
is_false false = ((λ e. refl), λ e. refl)

-- a number is at most another
pub at_most : (m n : ℕ) → Decides (nat_le m n) (m ≤ n)
at_most m n = ((λ e. grind (arith, e)), λ e. grind (arith, e))

-- a number isn't another
pub other : (m n : ℕ) → Decides (not (m == n)) (m ≢ n)
other m n = by_test (m == n) (Decides-eqb m n)
  where
    by_test : (b : Bool) → Decides b (m ≡ n) → Decides (not b) (m ≢ n)
    by_test true d = ((λ e. absurd (true≢false (sym e))), λ h. absurd (h (d.0 refl)))
    by_test false d = ((λ e f. true≢false (sym (d.1 f))), λ h. refl)

-- an option has this number
pub number : (n : ℕ) (x : Option ℕ) → Decides (is_number n x) (x ≡ Some n)
number n None = ((λ e. absurd (true≢false (sym e))), λ e. let no : ⊥ = cc in absurd no)
number n (Some m) = ((λ e. ap Some ((Decides-eqb m n).0 e)), λ e. (Decides-eqb m n).1 (cc))

-- an option has nothing
pub none : {A : Type 0} (x : Option A) → Decides (not (is_some x)) (x ≡ None)
none None = ((λ e. refl), λ e. refl)
none (Some a) = ((λ e. absurd (true≢false (sym e))), λ e. let no : ⊥ = cc in absurd no)

-- a list is empty
pub empty : {A : Type 0} (xs : List A) → Decides (is_empty xs) (xs ≡ [])
empty [] = ((λ e. refl), λ e. refl)
empty (x ∷ xs) = ((λ e. absurd (true≢false (sym e))), λ e. let no : ⊥ = cc in absurd no)

-- a list isn't empty
pub filled : {A : Type 0} (xs : List A) → Decides (not (is_empty xs)) (xs ≢ [])
filled [] = ((λ e. absurd (true≢false (sym e))), λ h. absurd (h refl))
filled (x ∷ xs) = ((λ e f. let no : ⊥ = cc in no), λ h. refl)

module _ {A : Type 0} (test : A → Bool) (P : A → Type 0) (each : (x : A) → Decides (test x) (P x)) where
  pub if_some : (x : Option A) → Decides (passes test x) (IfSome x P)
  if_some None = ((λ e. tt), λ h. refl)
  if_some (Some x) = each x

  -- each element
  pub all_told : (xs : List A) → list_all test xs ≡ true → All P xs
  all_told [] e k d l = absurd (omega (arith, l))
  all_told (x ∷ xs) e zero d l = (each x).0 ((both (test x) (list_all test xs) (is_true (test x)) (is_true (list_all test xs))).0 e).0
  all_told (x ∷ xs) e (suc k) d l = all_told xs ((both (test x) (list_all test xs) (is_true (test x)) (is_true (list_all test xs))).0 e).1 k d (omega (arith, l))

  all_tell : (xs : List A) → All P xs → list_all test xs ≡ true
  all_tell [] h = refl
  all_tell (x ∷ xs) h =
      (both (test x) (list_all test xs) (is_true (test x)) (is_true (list_all test xs))).1
      ((each x).1 (h 0 x (omega arith)), all_tell xs (λ k d l. h (suc k) d (omega (arith, l))))

  pub all : (xs : List A) → Decides (list_all test xs) (All P xs)
  all xs = (all_told xs, all_tell xs)
