-- How many of some spans have a byte, and how often a number stands in a list.
--     has, covers      1 where a span has the byte; how many of the spans have it
--     IsIn, AreWide      the byte is in the span; spans of one byte at least
--     times      how often a number stands in a list
use Rattle.std.specs.Prelude.{◌≡◌, ℕ, ◌+◌, ◌<◌, ◌≤◌, ◌==◌, nat_le, nat_lt, Bool, true, false, cond, List, [], ◌∷◌}
use Rattle.page_model.specs.Spans.{Span}

-- 1 where the span has the byte, else 0
unfoldable pub has : Span → ℕ → ℕ → ℕ
has s n k = cond (n == s.page) (cond (nat_le s.at k) (cond (nat_lt k (s.at + s.size)) 1 0) 0) 0

-- how many of the spans have the byte
unfoldable pub covers : List Span → ℕ → ℕ → ℕ
covers [] n k = 0
covers (s ∷ more) n k = has s n k + covers more n k

abbrev pub IsIn : Span → ℕ → ℕ → Type 0
IsIn s n k = (n ≡ s.page) × (s.at ≤ k) × (k < s.at + s.size)

-- spans that have a byte at all
abbrev pub AreWide : List Span → Type 0
AreWide [] = Unit {0}
AreWide (s ∷ more) = (1 ≤ s.size) × AreWide more

abbrev pub one_if : Bool → ℕ
one_if true = 1
one_if false = 0

-- how often the number stands in the list
abbrev pub times : ℕ → List ℕ → ℕ
times n [] = 0
times n (m ∷ ns) = one_if (m == n) + times n ns
