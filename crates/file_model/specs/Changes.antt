-- What may differ between two files: the bytes at some places, and what stands past the old end.
use Rattle.std.specs.Prelude.{◌≡◌, ℕ, ◌+◌, ◌<◌, ◌≤◌, List, length, slice_index}

-- the file is no shorter, and each byte is as before but at these places
pub record SameElsewhere (places : ℕ → Type 0) (old new : List ℕ) : Type 0 where
  pub no_shorter : length old ≤ length new
  pub each : (i : ℕ) → i < length old → ¬ (places i)
      → slice_index new i ≡ slice_index old i

-- n places from one on
abbrev pub Range : ℕ → ℕ → ℕ → Type 0
Range at n i = (at ≤ i) × (i < at + n)
