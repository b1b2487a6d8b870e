-- How many of some spans have a byte. Spans are apart exactly where none has two, so parts of a whole are apart by arithmetic.
use Rattle.std.proofs.Common.{◌≡◌, ◌⊎◌, inl, inr, ℕ, ◌+◌, ◌<◌, ◌≤◌, ◌==◌, nat_le, nat_lt, List, [], ◌∷◌, ◌++◌, map, refl, sym, ◌∙◌, arith}
use Rattle.std.proofs.lemmas.Bool.{cases_eq, cases_lt, cond-true, cond-false, eq-eqb, ne_eqb, le-leb, lt-leb, lt-ltb, le-ltb}
use Rattle.page_model.specs.Spans.{Span, IsOff, IsOffAll, IsApart, IsApartFromAll, AreApart, ArePairwiseApart}
use Rattle.page_model.specs.Counts.{has, covers, IsIn, AreWide}

-- a byte that is in the span
pub has_in : (s : Span) (n k : ℕ) → n ≡ s.page → s.at ≤ k → k < s.at + s.size → has s n k ≡ 1
unfolding has
has_in s n k page low high =
    cond-true (n == s.page) _ 0 (eq-eqb n s.page page) ∙ cond-true (nat_le s.at k) _ 0 (le-leb s.at k low) ∙ cond-true (nat_lt k (s.at + s.size)) 1 0 (lt-ltb k (s.at + s.size) high)

-- a byte that is off the span
pub has_off : (s : Span) (n k : ℕ) → IsOff s n k → has s n k ≡ 0
unfolding has
has_off s n k off = elim (cases_eq n s.page) [
  | inr other ↦ cond-false (n == s.page) _ 0 (ne_eqb n s.page other)
  | inl same ↦ cond-true (n == s.page) _ 0 (eq-eqb n s.page same) ∙ elim (cases_lt k s.at) [
    | inl before ↦ cond-false (nat_le s.at k) _ 0 (lt-leb s.at k before)
    | inr low ↦ cond-true (nat_le s.at k) _ 0 (le-leb s.at k low) ∙ cond-false (nat_lt k (s.at + s.size)) 1 0 (le-ltb k (s.at + s.size) (behind same low off))
  ]
]
  where
    behind : n ≡ s.page → s.at ≤ k → IsOff s n k → s.at + s.size ≤ k
    behind same low (inl other) = absurd (other same)
    behind same low (inr (inl before)) = absurd (omega arith)
    behind same low (inr (inr past)) = past

-- a byte is in a span or off it
pub in_or_off : (s : Span) (n k : ℕ) → IsIn s n k ⊎ IsOff s n k
in_or_off s n k = elim (cases_eq n s.page) [
  | inr other ↦ inr (inl other)
  | inl same ↦ elim (cases_lt k s.at) [
    | inl before ↦ inr (inr (inl before))
    | inr low ↦ elim (cases_lt k (s.at + s.size)) [
      | inl high ↦ inl (same, low, high)
      | inr behind ↦ inr (inr (inr behind))
    ]
  ]
]

-- a span within another
pub has_less : (s t : Span) (n k : ℕ) → (IsIn s n k → IsIn t n k) → has s n k ≤ has t n k
has_less s t n k inside = elim (in_or_off s n k) [
  | inr off ↦ omega (arith, has_off s n k off)
  | inl is ↦ let at = inside is in omega (arith, has_in s n k is.0 is.1 is.2, has_in t n k at.0 at.1 at.2)
]

-- no span has a byte
pub covers_nil : (n k : ℕ) → covers [] n k ≡ 0
unfolding covers
covers_nil n k = refl

-- a span in front of others
pub covers_cons : (s : Span) (more : List Span) (n k : ℕ) → covers (s ∷ more) n k ≡ has s n k + covers more n k
unfolding covers
covers_cons s more n k = refl

-- spans in two lists
pub covers_append : (xs ys : List Span) (n k : ℕ) → covers (xs ++ ys) n k ≡ covers xs n k + covers ys n k
covers_append [] ys n k = omega (arith, covers_nil n k)
covers_append (x ∷ xs) ys n k = omega (arith, covers_cons x (xs ++ ys) n k, covers_cons x xs n k, covers_append xs ys n k)

-- ---- apart and covers

off_all : (xs : List Span) (t : Span) (n k : ℕ) → IsApartFromAll xs t → IsIn t n k → covers xs n k ≡ 0
off_all [] t n k apart is = covers_nil n k
off_all (x ∷ xs) t n k apart is = omega (arith, covers_cons x xs n k, has_off x n k (off x apart.0), off_all xs t n k apart.1 is)
  where
    off : (s : Span) → IsApart s t → IsOff s n k
    off s (inl other) = inl (λ e. other (sym is.0 ∙ e))
    off s (inr (inl before)) = let high = is.2 in inr (inl (omega arith))
    off s (inr (inr behind)) = let low = is.1 in inr (inr (omega arith))

-- of spans that are apart, one has the byte at most
pub covers_once : (xs : List Span) → ArePairwiseApart xs → (n k : ℕ) → covers xs n k ≤ 1
covers_once [] apart n k = omega (arith, covers_nil n k)
covers_once (x ∷ xs) apart n k = elim (in_or_off x n k) [
  | inr off ↦ omega (arith, covers_cons x xs n k, has_off x n k off, covers_once xs apart.1 n k)
  | inl is ↦ omega (arith, covers_cons x xs n k, has_in x n k is.0 is.1 is.2, off_all xs x n k apart.0 is)
]

-- two lists of spans that have bytes
pub wide_append : (xs ys : List Span) → AreWide xs → AreWide ys → AreWide (xs ++ ys)
wide_append [] ys a b = b
wide_append (x ∷ xs) ys a b = (a.0, wide_append xs ys a.1 b)

-- two spans are apart where no byte is in both
pub apart_by : (s t : Span) → 1 ≤ s.size → 1 ≤ t.size → ((n k : ℕ) → has s n k + has t n k ≤ 1) → IsApart s t
apart_by s t ws wt once = elim (cases_eq t.page s.page) [
  | inr other ↦ inl other
  | inl same ↦ elim (cases_lt s.at (t.at + t.size)) [
    | inr before ↦ inr (inl before)
    | inl low ↦ elim (cases_lt t.at (s.at + s.size)) [
      | inr behind ↦ inr (inr behind)
      | inl high ↦ absurd (both same low high)
    ]
  ]
]
  where
    both : t.page ≡ s.page → s.at < t.at + t.size → t.at < s.at + s.size → ⊥
    both same low high = elim (cases_lt s.at t.at) [
      | inl first ↦ omega (arith, once t.page t.at, has_in s t.page t.at same (omega arith) high, has_in t t.page t.at refl (omega arith) (omega arith))
      | inr first ↦ omega (arith, once t.page s.at, has_in s t.page s.at same (omega arith) (omega arith), has_in t t.page s.at refl first low)
    ]

-- a span is apart from some where no byte is in it and in one of them
pub from_all_by : (xs : List Span) (t : Span) → AreWide xs → 1 ≤ t.size → ((n k : ℕ) → covers xs n k + has t n k ≤ 1) → IsApartFromAll xs t
from_all_by [] t wide wt once = tt
from_all_by (x ∷ xs) t wide wt once = (
  apart_by x t wide.0 wt (λ n k. omega (arith, once n k, covers_cons x xs n k)),
  from_all_by xs t wide.1 wt (λ n k. omega (arith, once n k, covers_cons x xs n k)),
)

-- spans are apart from others where no byte is in one of each
pub across_by : (xs ts : List Span) → AreWide xs → AreWide ts → ((n k : ℕ) → covers xs n k + covers ts n k ≤ 1) → AreApart xs ts
across_by xs [] wide wt once = tt
across_by xs (t ∷ ts) wide wt once = (
  from_all_by xs t wide wt.0 (λ n k. omega (arith, once n k, covers_cons t ts n k)),
  across_by xs ts wide wt.1 (λ n k. omega (arith, once n k, covers_cons t ts n k)),
)

-- spans are apart from one another where no byte is in two
pub pairwise_by : (xs : List Span) → AreWide xs → ((n k : ℕ) → covers xs n k ≤ 1) → ArePairwiseApart xs
pairwise_by [] wide once = tt
pairwise_by (x ∷ xs) wide once = (
  from_all_by xs x wide.1 wide.0 (λ n k. omega (arith, once n k, covers_cons x xs n k)),
  pairwise_by xs wide.1 (λ n k. omega (arith, once n k, covers_cons x xs n k)),
)

-- ---- off and covers

-- a byte that is off all of them
pub off_covers : (xs : List Span) (n k : ℕ) → IsOffAll xs n k → covers xs n k ≡ 0
off_covers [] n k off = covers_nil n k
off_covers (x ∷ xs) n k off = omega (arith, covers_cons x xs n k, has_off x n k off.0, off_covers xs n k off.1)

-- a byte that none of them has
pub covers_off : (xs : List Span) (n k : ℕ) → covers xs n k ≡ 0 → IsOffAll xs n k
covers_off [] n k none = tt
covers_off (x ∷ xs) n k none = (
  elim (in_or_off x n k) [ inr off ↦ off | inl is ↦ absurd (omega (arith, none, covers_cons x xs n k, has_in x n k is.0 is.1 is.2)) ],
  covers_off xs n k (omega (arith, none, covers_cons x xs n k)),
)

-- ---- lists of spans of one shape

-- spans of the members of two lists
pub map_covers : {A : Type 0} (f : A → Span) (xs ys : List A) (n k : ℕ) → covers (map f (xs ++ ys)) n k ≡ covers (map f xs) n k + covers (map f ys) n k
map_covers f [] ys n k = omega (arith, covers_nil n k)
map_covers f (x ∷ xs) ys n k = omega (arith, covers_cons (f x) (map f (xs ++ ys)) n k, covers_cons (f x) (map f xs) n k, map_covers f xs ys n k)

-- spans of members, each of one byte at least
pub map_wide : {A : Type 0} (f : A → Span) (xs : List A) → ((x : A) → 1 ≤ (f x).size) → AreWide (map f xs)
map_wide f [] each = tt
map_wide f (x ∷ xs) each = (each x, map_wide f xs each)
