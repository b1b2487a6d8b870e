-- The bits of a byte, and those of the bytes of a map.
use Rattle.std.specs.Prelude.{◌≡◌, ◌≢◌, ℕ, ◌/◌, ◌%◌, ◌<◌, List, slice_index}
use Rattle.std.specs.Int.{bit_at}

-- this bit of a byte has this value, and each other the one that it had
pub record ChangesBit (i value old new : ℕ) : Type 0 where
  pub here : bit_at new i ≡ value
  pub others : (j : ℕ) → j < 8 → j ≢ i → bit_at new j ≡ bit_at old j

abbrev pub map_bit : List ℕ → ℕ → ℕ
map_bit map k = bit_at (slice_index map (k / 8)) (k % 8)

abbrev pub AreOnes : List ℕ → ℕ → Type 0
AreOnes map n = (k : ℕ) → k < n → map_bit map k ≡ 1

-- the lowest bit below n that is 0
pub record IsLowestZero (map : List ℕ) (n k : ℕ) : Type 0 where
  pub below : k < n
  pub zero_here : map_bit map k ≡ 0
  pub ones : AreOnes map k
