-- The bytes that a number was read from are the number's bytes.
use Rattle.std.proofs.Common.{◌≡◌, inl, inr, ℕ, zero, suc, ◌+◌, ◌*◌, ◌^◌, ◌<◌, ◌≤◌, List, [], ◌∷◌, length, take, slice_index, refl, sym, ap, ap₂, ◌∙◌, arith}
use Rattle.std.proofs.Math.Nat.{add-mul, mod-lt, mul-le-mul_right}
use Rattle.std.proofs.lemmas.Bool.{cases_lt}
use Rattle.std.proofs.lemmas.List.{append-nil, get_or-take, get_or_past, length-take-le}
use Rattle.std.specs.Int.{byte_at}
use Rattle.byteorder.specs.Endian.{big_number, big_bytes}
use Rattle.byteorder.specs.Numbers.{big_from-cons, big_from-lt, big_from-take, big_number-reads_back, length-bytes_high_first}

-- each number of the list is a byte
abbrev pub AreBytes : List ℕ → Type 0
AreBytes xs = (k : ℕ) → slice_index xs k < 256

-- bytes behind the first
pub bytes_tail : (x : ℕ) (xs : List ℕ) → AreBytes (x ∷ xs) → AreBytes xs
bytes_tail x xs small k = small (suc k)

-- the first of some bytes
pub bytes_take : (n : ℕ) (xs : List ℕ) → AreBytes xs → AreBytes (take n xs)
bytes_take n xs small k = elim (cases_lt k n) [
  | inl low ↦ rw (get_or-take n xs k 0 low) (small k)
  | inr high ↦ rw (get_or_past (take n xs) k 0 (omega (arith, length-take-min n xs))) (lit)
]
  where
    length-take-min : (n : ℕ) (xs : List ℕ) → length (take n xs) ≤ n
    length-take-min zero xs = omega arith
    length-take-min (suc n) [] = omega arith
    length-take-min (suc n) (x ∷ xs) = omega (arith, length-take-min n xs)

    lit : 0 < 256
    lit = omega arith

byte_small : (k x : ℕ) → byte_at k x < 256
byte_small zero x = mod-lt x (omega arith)
byte_small (suc k) x = mod-lt _ (omega arith)

bytes_small : (n x : ℕ) → AreBytes (big_bytes n x)
bytes_small zero x k = omega arith
bytes_small (suc n) x zero = byte_small n x
bytes_small (suc n) x (suc k) = bytes_small n x k

-- the high digits and the low ones are each the same
same_digits : (a b p x y : ℕ) → x < p → y < p → a * p + x ≡ b * p + y → (a ≡ b) × (x ≡ y)
same_digits a b p x y low low' same = elim (cases_lt a b) [
  | inl less ↦ absurd (let m = mul-le-mul_right p (let h : a + 1 ≤ b = omega arith in h) in let e = add-mul a 1 p in omega (arith, m, e, same, low))
  | inr le ↦ elim (cases_lt b a) [
    | inl more ↦ absurd (let m = mul-le-mul_right p (let h : b + 1 ≤ a = omega arith in h) in let e = add-mul b 1 p in omega (arith, m, e, same, low'))
    | inr le' ↦ let e : a ≡ b = omega arith in (e, let f = ap (λ (n : ℕ). n * p) e in omega (arith, f, same))
  ]
]

-- two lists of as many bytes with the same number
same_bytes : (xs ys : List ℕ) → length xs ≡ length ys → AreBytes xs → AreBytes ys → big_number (length xs) xs ≡ big_number (length xs) ys → xs ≡ ys
same_bytes [] [] many small small' same = refl
same_bytes [] (y ∷ ys) many small small' same = absurd (omega arith)
same_bytes (x ∷ xs) [] many small small' same = absurd (omega arith)
same_bytes (x ∷ xs) (y ∷ ys) many small small' same =
    let n = length xs in
    let lows = big_from-cons 0 n x xs in
    let lows' = big_from-cons 0 n y ys in
    let both = same_digits x y (256 ^ n) (big_number n xs) (big_number n ys)
    (big_from-lt 0 n xs (bytes_tail x xs small)) (big_from-lt 0 n ys (bytes_tail y ys small'))
    (ap (λ (r : ℕ). x * 256 ^ n + r) (sym lows) ∙ same ∙ ap (λ (r : ℕ). y * 256 ^ n + r) lows') in
    ap₂ (λ (z : ℕ) (zs : List ℕ). z ∷ zs) both.0 (same_bytes xs ys (omega arith) (bytes_tail x xs small) (bytes_tail y ys small') both.1)

-- the bytes that a number was read from are its bytes
pub bytes_of_number : (n : ℕ) (xs : List ℕ) → n ≤ length xs → AreBytes xs → big_bytes n (big_number n xs) ≡ take n xs
bytes_of_number n xs long small =
    let v = big_number n xs in
    let len : length (big_bytes n v) ≡ n = length-bytes_high_first n v in
    let read : big_number n (big_bytes n v) ≡ v = ap (big_number n) (sym (append-nil (big_bytes n v))) ∙ big_number-reads_back n v [] (big_from-lt 0 n xs small) in
    same_bytes (big_bytes n v) (take n xs) (len ∙ sym (length-take-le n xs long)) (bytes_small n v) (bytes_take n xs small)
    (ap (λ (m : ℕ). big_number m (big_bytes n v)) len ∙ read ∙ sym (big_from-take 0 n n xs (omega arith)) ∙ ap (λ (m : ℕ). big_number m (take n xs)) (sym len))
