-- The bits of a byte, and of the bytes of a map one after another.
use Rattle.std.proofs.Common.{◌≡◌, inl, inr, ℕ, ◌+◌, ◌-◌, ◌*◌, ◌/◌, ◌%◌, ◌^◌, ◌<◌, ◌≤◌, List, get_or, bit_and, bit_or, w8, ap, ◌∙◌, arith}
use Rattle.std.specs.Int.{bit_at, trailing_ones}
use Rattle.std.proofs.lemmas.Bool.{cases_lt}
use Rattle.std.proofs.lemmas.Nat.Bits.{bit_at_set_same, bit_at_set_other, bit_at_clear_same, bit_at_clear_other, bit_at_ones, bit_at-trailing_ones}
use Rattle.page_space.specs.Bits.{ChangesBit, map_bit, AreOnes, IsLowestZero}

-- a byte or-ed with the mask of bit i has that bit set, and the others as they were
pub bit_set : (byte i : ℕ) → i < 8 → ChangesBit i 1 byte (bit_or byte (1 * 2 ^ i % 256))
bit_set byte i below = record { here = bit_at_set_same w8 byte i below; others = λ j low apart. bit_at_set_other w8 byte i below j apart }

-- a byte and-ed with all but that mask has the bit cleared, and the others as they were
pub bit_cleared : (byte i : ℕ) → i < 8 → ChangesBit i 0 byte (bit_and byte (255 - 1 * 2 ^ i % 256))
bit_cleared byte i below = record { here = bit_at_clear_same w8 byte i below; others = λ j low apart. bit_at_clear_other w8 byte i below j low apart }

-- a bit of the i-th byte
bit_in : (map : List ℕ) (i k : ℕ) → k / 8 ≡ i → map_bit map k ≡ bit_at (get_or map i 0) (k % 8)
bit_in map i k same = ap (λ (j : ℕ). bit_at (get_or map j 0) (k % 8)) same

-- another byte of ones
pub ones_more : (map : List ℕ) (i : ℕ) → AreOnes map (8 * i) → get_or map i 0 ≡ 255 → AreOnes map (8 * (i + 1))
ones_more map i ones full k below = elim (cases_lt k (8 * i)) [
  | inl before ↦ ones k before
  | inr here ↦ bit_in map i k (omega arith) ∙ ap (λ (b : ℕ). bit_at b (k % 8)) full ∙ bit_at_ones 8 (k % 8) (omega arith)
]

-- the ones before the lowest zero of a byte that isn't all ones
ones_below : (map : List ℕ) (i t : ℕ) → AreOnes map (8 * i) → ((j : ℕ) → j < t → bit_at (get_or map i 0) j ≡ 1) → t < 8 → AreOnes map (8 * i + t)
ones_below map i t ones lower small k below = elim (cases_lt k (8 * i)) [
  | inl before ↦ ones k before
  | inr here ↦ bit_in map i k (omega arith) ∙ lower (k % 8) (omega arith)
]

-- behind bytes of ones, the first 0 of a byte not full is the lowest zero, where it is below n
pub zero_found : (map : List ℕ) (i n : ℕ) → AreOnes map (8 * i) → get_or map i 0 < 255 → 8 * i + trailing_ones w8 (get_or map i 0) < n → IsLowestZero map n (8 * i + trailing_ones w8 (get_or map i 0))
zero_found map i n ones small below =
    let t = trailing_ones w8 (get_or map i 0) in
    let found = bit_at-trailing_ones w8 (get_or map i 0) (omega arith) in
    let t_small : t < 8 = found.0 in
    let rest : (8 * i + t) % 8 ≡ t = omega arith in
    record {
      below = below;
      zero_here = bit_in map i (8 * i + t) (omega arith) ∙ ap (λ (j : ℕ). bit_at (get_or map i 0) j) rest ∙ found.1;
      ones = ones_below map i t ones found.2 t_small;
    }

-- where that first 0 isn't below n, all bits below n are ones
pub zero_beyond : (map : List ℕ) (i n : ℕ) → AreOnes map (8 * i) → get_or map i 0 < 255 → n ≤ 8 * i + trailing_ones w8 (get_or map i 0) → AreOnes map n
zero_beyond map i n ones small above k below =
    let found = bit_at-trailing_ones w8 (get_or map i 0) (omega arith) in
    ones_below map i (trailing_ones w8 (get_or map i 0)) ones found.2 found.0 k (omega arith)
