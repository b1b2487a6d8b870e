-- A number's bytes are those that it was read from.
use Rattle.std.proofs.Common.{◌≡◌, ℕ, zero, suc, ◌+◌, ◌-◌, ◌*◌, ◌/◌, ◌%◌, ◌^◌, ◌≤◌, ◌<◌, List, ◌∷◌, length, take, drop, slice_index, refl, sym, ap, subst, ◌∙◌, arith, drop-cons}
use Rattle.std.proofs.Math.Nat.{pow-succ', div-div-eq-div-mul, div-one}
use Rattle.std.specs.Int.{byte_at, bytes_low_first}
use Rattle.byteorder.specs.Endian.{little_from}
use Rattle.binary_model.specs.Layout.{number_at}
use Rattle.binary_model.specs.Canonical.{low_bytes}
use Rattle.binary_model.specs.Stands.{IsBytes}
use Rattle.binary_model.specs.Place.{Holds}
use Rattle.json_splice.proofs.HeldLemmas.{slice_held}

byte_pow : (k x : ℕ) → byte_at k x ≡ x / 256 ^ k % 256
byte_pow zero x = ap (λ y. y % 256) (sym (div-one x))
byte_pow (suc k) x = refl

shifted : (j b m : ℕ) → b < 256 → byte_at (suc j) (b + 256 * m) ≡ byte_at j m
shifted j b m low =
    let e : (b + 256 * m) / 256 ≡ m = omega (arith, low) in
    ap (λ p. (b + 256 * m) / p % 256) (pow-succ' 256 j) ∙ ap (λ q. q % 256) (sym (div-div-eq-div-mul (b + 256 * m) 256 (256 ^ j)) ∙ ap (λ q. q / 256 ^ j) e) ∙ sym (byte_pow j m)

all_shifted : (k j b m : ℕ) → b < 256 → bytes_low_first (suc j) k (b + 256 * m) ≡ bytes_low_first j k m
all_shifted zero j b m low = refl
all_shifted (suc k) j b m low =
    let first = shifted j b m low in
    let rest = all_shifted k (suc j) b m low in
    λ i. first i ∷ rest i

read_again : (w at : ℕ) (bytes : List ℕ) → IsBytes bytes → at + w ≤ length bytes → bytes_low_first 0 w (little_from at w bytes) ≡ take w (drop at bytes)
read_again zero at bytes all low = refl
read_again (suc w) at bytes all low =
    let b = slice_index bytes at in
    let first : (b + 256 * little_from (suc at) w bytes) % 256 ≡ b = (let h = all at in omega (arith, h)) in
    let rest = all_shifted w 0 b (little_from (suc at) w bytes) (all at) ∙ read_again w (suc at) bytes all (omega (arith, low)) in
    (λ i. first i ∷ rest i) ∙ sym (ap (take (suc w)) (drop-cons bytes at 0 (omega (arith, low))))

pub number_holds : (bytes : List ℕ) (w at : ℕ) → IsBytes bytes → at + w ≤ length bytes → Holds bytes at (low_bytes w (number_at bytes w at))
unfolding number_at
number_holds bytes w at all low =
    let h = slice_held bytes at (at + w) (omega arith) low in
    let e : at + w - at ≡ w = omega arith in
    subst (Holds bytes at) (ap (λ n. take n (drop at bytes)) e ∙ sym (read_again w at bytes all low)) h
