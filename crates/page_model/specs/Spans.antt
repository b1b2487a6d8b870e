-- Parts of pages, and what stays where only some parts change.
--     Span, IsOff, IsApart      some bytes of one page; a byte that isn't among them; two spans
--                               without a common byte
--     SameOutside spans old new      pages as many and as long, each byte outside the spans as
--                                    before
--     SetsField, SetsAddress      what writing one field or one address leaves
use Rattle.std.specs.Prelude.{◌≡◌, ◌≢◌, ◌⊎◌, ℕ, ◌+◌, ◌<◌, ◌≤◌, List, [], ◌∷◌, length}
use Rattle.page_model.specs.Pages.{Pages, page_at, byte, field, Address, address_at, Write}

pub record Span : Type 0 where
  pub page : ℕ
  pub at : ℕ
  pub size : ℕ

abbrev pub span : ℕ → ℕ → ℕ → Span
span page at size = record { page = page; at = at; size = size }

-- the byte isn't in the span
abbrev pub IsOff : Span → ℕ → ℕ → Type 0
IsOff s page k = (page ≢ s.page) ⊎ ((k < s.at) ⊎ (s.at + s.size ≤ k))

-- the byte is in none of the spans
abbrev pub IsOffAll : List Span → ℕ → ℕ → Type 0
IsOffAll [] page k = Unit {0}
IsOffAll (s ∷ more) page k = IsOff s page k × IsOffAll more page k

-- no byte is in both
abbrev pub IsApart : Span → Span → Type 0
IsApart s t = (t.page ≢ s.page) ⊎ ((t.at + t.size ≤ s.at) ⊎ (s.at + s.size ≤ t.at))

abbrev pub IsApartFromAll : List Span → Span → Type 0
IsApartFromAll [] t = Unit {0}
IsApartFromAll (s ∷ more) t = IsApart s t × IsApartFromAll more t

abbrev pub AreApart : List Span → List Span → Type 0
AreApart changed [] = Unit {0}
AreApart changed (t ∷ more) = IsApartFromAll changed t × AreApart changed more

-- no two of them have a common byte
abbrev pub ArePairwiseApart : List Span → Type 0
ArePairwiseApart [] = Unit {0}
ArePairwiseApart (s ∷ more) = IsApartFromAll more s × ArePairwiseApart more

pub record SameOutside (spans : List Span) (old new : Pages) : Type 0 where
  pub many : length new ≡ length old
  pub sizes : (n : ℕ) → length (page_at new n) ≡ length (page_at old n)
  pub bytes : (n k : ℕ) → IsOffAll spans n k → byte new n k ≡ byte old n k

abbrev pub span_of : Write → Span
span_of w = span w.page w.at (length w.bytes)

-- a field was written and nothing else
pub record SetsField (page at width value : ℕ) (old new : Pages) : Type 0 where
  pub here : field new page at width ≡ value
  pub outside : SameOutside (span page at width ∷ []) old new

pub record SetsAddress (page at : ℕ) (value : Address) (old new : Pages) : Type 0 where
  pub here : address_at new page at ≡ value
  pub outside : SameOutside (span page at 6 ∷ []) old new
