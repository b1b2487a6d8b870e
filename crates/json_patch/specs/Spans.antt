-- Where bytes of a document were written.
--     IsOutsideOf      a place that a span doesn't have
--     DifferInSpans      two versions of a document that differ within spans at most
use Rattle.std.specs.Prelude.{◌≡◌, ◌≤◌, ◌<◌, ◌⊎◌, ℕ, List, length, slice_index, All}
use Rattle.json_patch.specs.declared.spans.Span.{Span}

abbrev pub IsOutsideOf : ℕ → Span → Type 0
IsOutsideOf i s = (i < s.at) ⊎ (s.end ≤ i)

-- the versions are as long, the spans lie within them, and a place outside all spans has one byte
-- in both
pub record DifferInSpans (old new : List ℕ) (spans : List Span) : Type 0 where
  pub long : length new ≡ length old
  pub inside : All (λ s. s.end ≤ length old) spans
  pub same : (i : ℕ) → All (IsOutsideOf i) spans → slice_index old i ≡ slice_index new i
