-- Canonical encodings stand for their trees, wherever they stand.
use Rattle.std.proofs.Common.{◌≡◌, ℕ, zero, suc, ◌+◌, ◌-◌, ◌*◌, ◌≤◌, ◌<◌, ◌^◌, ◌/◌, ◌%◌, ℤ, pos, negsuc, Bool, true, false, List, [], ◌∷◌, ◌++◌, length, take, drop, get_or, slice_index, slice_range, T, Some, None, refl, sym, ap, subst, ◌∙◌, arith, nat_lt, cond, IsSomeAnd}
use Rattle.std.specs.Option.{option_and_then, option_map}
use Rattle.std.proofs.Math.Seq.{take-append_seam, take-append-add, drop-append_seam, get_or-append_seam}
use Rattle.std.proofs.lemmas.List.{length-append, append_assoc}
use Rattle.std.proofs.lemmas.Bool.{leb-true, ltb-true, lt-ltb, le-ltb, le-leb}
use Rattle.byteorder.specs.Endian.{little_from}
use Rattle.byteorder.specs.Numbers.{little_from-cons, little_number-reads_back}
use Rattle.tree_model.specs.Tree.{number, text, IsWhole}
use Rattle.binary_model.specs.Layout.{Kind, signed, unsigned, string, Spot, kind_at, number_at, grouped, range_in, text_range}
use Rattle.binary_model.specs.Stands.{signed_of, IsNumberAs, IsValue}
use Rattle.binary_model.specs.Canonical.{low_bytes, number_kind, width_of, number_bytes, groups, text_bytes}
use Rattle.binary_model.specs.Place.{Holds}
use Rattle.std.specs.Int.Signed.{◌≤ℤ◌, ◌<ℤ◌}
use Rattle.std.specs.Prelude.{neg_ℤ}
use Rattle.std.specs.Cmp.Derive.{both_true}
use Rattle.std.proofs.Math.Nat.{pow-succ'}

-- ---- bytes at a place

-- where two lists stand one behind the other, the first stands
pub first_held : {bytes : List ℕ} {at : ℕ} (xs ys : List ℕ) → Holds bytes at (xs ++ ys) → Holds bytes at xs
first_held xs ys h = record { pre = h.pre; post = ys ++ h.post; whole = h.whole ∙ ap (λ r. h.pre ++ r) (append_assoc xs ys h.post); place = h.place }

-- and the second behind it
pub second_held : {bytes : List ℕ} {at : ℕ} (xs ys : List ℕ) → Holds bytes at (xs ++ ys) → Holds bytes (at + length xs) ys
second_held xs ys h = record { pre = h.pre ++ xs; post = h.post; whole = h.whole ∙ ap (λ r. h.pre ++ r) (append_assoc xs ys h.post) ∙ sym (append_assoc h.pre xs (ys ++ h.post)); place = length-append h.pre xs ∙ ap (λ n. n + length xs) h.place }

-- the first of bytes that stand at a place is the one there
pub byte_held : (bytes : List ℕ) (at b : ℕ) (xs : List ℕ) → Holds bytes at (b ∷ xs) → slice_index bytes at ≡ b
byte_held bytes at b xs h = ap (λ r. get_or r at 0) h.whole ∙ ap (λ n. get_or (h.pre ++ (b ∷ (xs ++ h.post))) n 0) (sym h.place) ∙ get_or-append_seam h.pre b (xs ++ h.post) 0

little_behind : (pre xs : List ℕ) (i w : ℕ) → little_from (length pre + i) w (pre ++ xs) ≡ little_from i w xs
little_behind [] xs i w = let e : 0 + i ≡ i = omega arith in ap (λ n. little_from n w xs) e
little_behind (p ∷ pre) xs i w =
    let e : suc (length pre) + i ≡ suc (length pre + i) = omega arith in
    ap (λ n. little_from n w (p ∷ (pre ++ xs))) e ∙ little_from-cons (length pre + i) w p (pre ++ xs) ∙ little_behind pre xs i w

-- a number's low bytes are read as that number
pub number_held : (bytes : List ℕ) (at w n : ℕ) → n < 256 ^ w → Holds bytes at (low_bytes w n) → number_at bytes w at ≡ n
unfolding number_at
number_held bytes at w n low h =
    let e : at ≡ length h.pre + 0 = let p = h.place in omega (arith, p) in
    ap (λ r. little_from at w r) h.whole ∙ ap (λ m. little_from m w (h.pre ++ (low_bytes w n ++ h.post))) e ∙ little_behind h.pre (low_bytes w n ++ h.post) 0 w ∙ little_number-reads_back w n h.post low

-- what stands at a place is the range from there on
pub range_held : (bytes : List ℕ) (at : ℕ) (xs : List ℕ) → Holds bytes at xs → slice_range bytes at (at + length xs) ≡ xs
range_held bytes at xs h =
    let e : at + length xs - at ≡ length xs = omega arith in
    ap (λ n. take n (drop at bytes)) e ∙ ap (λ r. take (length xs) (drop at r)) h.whole ∙ ap (λ n. take (length xs) (drop n (h.pre ++ (xs ++ h.post)))) (sym h.place)
    ∙ ap (take (length xs)) (drop-append_seam h.pre (xs ++ h.post)) ∙ take-append_seam xs h.post

-- what a limit that reaches past the bytes begins with
window_held : (bytes : List ℕ) (at limit : ℕ) (xs : List ℕ) → Holds bytes at xs → at + length xs ≤ limit → (more : List ℕ) × (slice_range bytes at limit ≡ xs ++ more)
window_held bytes at limit xs h low =
    let e : limit - at ≡ length xs + (limit - at - length xs) = omega (arith, low) in (
      take (limit - at - length xs) h.post,
      ap (λ r. take (limit - at) (drop at r)) h.whole ∙ ap (λ n. take (limit - at) (drop n (h.pre ++ (xs ++ h.post)))) (sym h.place)
          ∙ ap (take (limit - at)) (drop-append_seam h.pre (xs ++ h.post)) ∙ ap (λ n. take n (xs ++ h.post)) e ∙ take-append-add xs h.post (limit - at - length xs),
    )

-- the same at an equal place
pub moved : {bytes : List ℕ} {at place : ℕ} {xs : List ℕ} → at ≡ place → Holds bytes at xs → Holds bytes place xs
moved {bytes} {at} {place} {xs} e h = subst (λ n. Holds bytes n xs) e h

-- ---- scalars

signed_again_pos : (bits n : ℕ) → n < 2 ^ (bits - 1) → signed_of bits n ≡ pos n
signed_again_pos bits n h = ap (λ b. cond b (pos n) (negsuc (2 ^ bits - 1 - n))) (lt-ltb n (2 ^ (bits - 1)) h)

not_below : (m n : ℕ) → n ≤ m → nat_lt m n ≡ false
not_below m n h = le-ltb m n h

signed_again_neg : (top half n : ℕ) → n < half → half + half ≡ top → cond (nat_lt (top - 1 - n) half) (pos (top - 1 - n)) (negsuc (top - 1 - (top - 1 - n))) ≡ negsuc n
signed_again_neg top half n h e =
    let big : half ≤ top - 1 - n = omega (arith, h, e) in
    let back : top - 1 - (top - 1 - n) ≡ n = omega (arith, h, e) in
    ap (λ b. cond b (pos (top - 1 - n)) (negsuc (top - 1 - (top - 1 - n)))) (not_below (top - 1 - n) half big) ∙ ap negsuc back

abbrev FitsAs : Kind → List ℕ → ℕ → Spot → Type 0
FitsAs kind bytes n s = (s.at + width_of kind ≤ s.limit) × Holds bytes s.at (low_bytes (width_of kind) n)

pos_stands : (bytes : List ℕ) (n : ℕ) (s : Spot) (a b c : Bool) → nat_lt n (2 ^ 63) ≡ a → nat_lt n (2 ^ 15) ≡ b → nat_lt n (2 ^ 31) ≡ c → n < 2 ^ 64
    → FitsAs (cond a (cond b (signed 2) (cond c (signed 4) (signed 8))) (unsigned 8)) bytes n s
    → IsNumberAs (cond a (cond b (signed 2) (cond c (signed 4) (signed 8))) (unsigned 8)) bytes (pos n) s
pos_stands bytes n s true true c ea eb ec h f =
    let low = ltb-true n (2 ^ 15) eb in
    (f.0, ap (signed_of 16) (number_held bytes s.at 2 n (omega (arith, low)) f.1) ∙ signed_again_pos 16 n low)
pos_stands bytes n s true false true ea eb ec h f =
    let low = ltb-true n (2 ^ 31) ec in
    (f.0, ap (signed_of 32) (number_held bytes s.at 4 n (omega (arith, low)) f.1) ∙ signed_again_pos 32 n low)
pos_stands bytes n s true false false ea eb ec h f =
    let low = ltb-true n (2 ^ 63) ea in
    (f.0, ap (signed_of 64) (number_held bytes s.at 8 n (omega (arith, low)) f.1) ∙ signed_again_pos 64 n low)
pos_stands bytes n s false b c ea eb ec h f = (f.0, ap pos (number_held bytes s.at 8 n (omega (arith, h)) f.1))

abbrev turned : Kind → ℕ → ℕ
turned kind n = 2 ^ (8 * width_of kind) - 1 - n

negsuc_stands : (bytes : List ℕ) (n : ℕ) (s : Spot) (b c : Bool) → nat_lt n (2 ^ 15) ≡ b → nat_lt n (2 ^ 31) ≡ c → n < 2 ^ 63
    → FitsAs (cond b (signed 2) (cond c (signed 4) (signed 8))) bytes (turned (cond b (signed 2) (cond c (signed 4) (signed 8))) n) s
    → IsNumberAs (cond b (signed 2) (cond c (signed 4) (signed 8))) bytes (negsuc n) s
negsuc_stands bytes n s true c eb ec h f =
    let low = ltb-true n (2 ^ 15) eb in
    (f.0, ap (signed_of 16) (number_held bytes s.at 2 (2 ^ 16 - 1 - n) (omega arith) f.1) ∙ signed_again_neg (2 ^ 16) (2 ^ 15) n low refl)
negsuc_stands bytes n s false true eb ec h f =
    let low = ltb-true n (2 ^ 31) ec in
    (f.0, ap (signed_of 32) (number_held bytes s.at 4 (2 ^ 32 - 1 - n) (omega arith) f.1) ∙ signed_again_neg (2 ^ 32) (2 ^ 31) n low refl)
negsuc_stands bytes n s false false eb ec h f = (f.0, ap (signed_of 64) (number_held bytes s.at 8 (2 ^ 64 - 1 - n) (omega arith) f.1) ∙ signed_again_neg (2 ^ 64) (2 ^ 63) n h refl)

true_from_T : (b : Bool) → T b → b ≡ true
true_from_T true h = refl
true_from_T false h = absurd h

pos_below : (n : ℕ) → pos n <ℤ pos (2 ^ 64) → n < 2 ^ 64
pos_below n h = ltb-true n (2 ^ 64) (true_from_T _ h.lt)

negsuc_below : (n : ℕ) → neg_ℤ (pos (2 ^ 63)) ≤ℤ negsuc n → n < 2 ^ 63
negsuc_below n h = let low = leb-true n (2 ^ 63 - 1) (true_from_T _ h.le) in omega (arith, low)

number_as : (bytes : List ℕ) (z : ℤ) (s : Spot) → IsWhole z → s.at + width_of (number_kind z) ≤ s.limit → Holds bytes s.at (number_bytes z) → IsNumberAs (number_kind z) bytes z s
number_as bytes (pos n) s w low h = pos_stands bytes n s (nat_lt n (2 ^ 63)) (nat_lt n (2 ^ 15)) (nat_lt n (2 ^ 31)) refl refl refl (pos_below n w.1) (low, h)
number_as bytes (negsuc n) s w low h = negsuc_stands bytes n s (nat_lt n (2 ^ 15)) (nat_lt n (2 ^ 31)) refl refl (negsuc_below n w.0) (low, h)

-- a canonical number stands wherever its bytes do
pub number_stands : (bytes : List ℕ) (z : ℤ) (s : Spot) → IsWhole z → kind_at bytes s.type_at ≡ number_kind z → s.at + width_of (number_kind z) ≤ s.limit → Holds bytes s.at (number_bytes z) → IsValue bytes (number z) s
number_stands bytes z s w e low h = subst (λ k. IsNumberAs k bytes z s) (sym e) (number_as bytes z s w low h)

-- ---- texts

grouped_next : (f n : ℕ) (more : List ℕ) → n < 128 ^ suc f → (b : Bool) → nat_lt n 128 ≡ b → (n / 128 < 128 ^ f → grouped f (groups f (n / 128) ++ more) ≡ Some (n / 128, length (groups f (n / 128))))
    → grouped (suc f) (cond b (n ∷ []) ((128 + n % 128) ∷ groups f (n / 128)) ++ more) ≡ Some (n, length (cond b (n ∷ []) ((128 + n % 128) ∷ groups f (n / 128))))
grouped_next f n more h true e ih = ap (λ b. cond b (Some (n, 1)) (option_map (λ r. (n - 128 + 128 * r.0, suc r.1)) (grouped f more))) e
grouped_next f n more h false e ih =
    let power = pow-succ' 128 f in
    let below : n / 128 < 128 ^ f = omega (arith, h, power) in
    let first : 128 + n % 128 - 128 + 128 * (n / 128) ≡ n = omega arith in
    ap (λ b. cond b (Some (128 + n % 128, 1)) (option_map (λ r. (128 + n % 128 - 128 + 128 * r.0, suc r.1)) (grouped f (groups f (n / 128) ++ more)))) (not_below (128 + n % 128) 128 (omega arith))
    ∙ ap (option_map (λ r. (128 + n % 128 - 128 + 128 * r.0, suc r.1))) (ih below)
    ∙ ap (λ m. Some (m, suc (length (groups f (n / 128))))) first

one_group : (n : ℕ) (more : List ℕ) → n < 128 → grouped 1 (groups 1 n ++ more) ≡ Some (n, length (groups 1 n))
one_group n more h =
    let e = lt-ltb n 128 h in
    subst (λ b. grouped 1 (cond b (n ∷ []) ((128 + n % 128) ∷ []) ++ more) ≡ Some (n, length (cond b (n ∷ []) ((128 + n % 128) ∷ [])))) (sym e)
    (ap (λ b. cond b (Some (n, 1)) None) e)

grouped_again : (f n : ℕ) (more : List ℕ) → n < 128 ^ suc f → grouped (suc f) (groups (suc f) n ++ more) ≡ Some (n, length (groups (suc f) n))
grouped_again zero n more h = one_group n more (omega (arith, h))
grouped_again (suc f) n more h = grouped_next (suc f) n more h (nat_lt n 128) refl (grouped_again f (n / 128) more)

-- a canonical text's letters stand behind its groups
pub text_ranged : (bytes letters : List ℕ) (s : Spot) → length letters < 2 ^ 32 → s.at + length (text_bytes letters) ≤ s.limit → Holds bytes s.at (text_bytes letters)
    → text_range bytes s.at s.limit ≡ Some (s.at + length (groups 5 (length letters)), s.at + length (groups 5 (length letters)) + length letters)
unfolding text_range
text_ranged bytes letters s short low h =
    let (more, begins) = window_held bytes s.at s.limit (text_bytes letters) h low in
    let size = length-append (groups 5 (length letters)) letters in
    let fits : s.at + length (groups 5 (length letters)) + length letters ≤ s.limit = omega (arith, low, size) in
    ap (λ r. option_and_then (range_in s.at s.limit) (grouped 5 r)) (begins ∙ append_assoc (groups 5 (length letters)) letters more)
    ∙ ap (option_and_then (range_in s.at s.limit)) (grouped_again 4 (length letters) (letters ++ more) (omega (arith, short)))
    ∙ ap (λ b. cond b (Some (s.at + length (groups 5 (length letters)), s.at + length (groups 5 (length letters)) + length letters)) None)
    (both_true (lt-ltb (length letters) (2 ^ 32) short) (le-leb (s.at + length (groups 5 (length letters)) + length letters) s.limit fits))

-- a canonical text stands wherever its bytes do
pub text_stands : (bytes letters : List ℕ) (s : Spot) → length letters < 2 ^ 32 → kind_at bytes s.type_at ≡ string → s.at + length (text_bytes letters) ≤ s.limit → Holds bytes s.at (text_bytes letters) → IsValue bytes (text letters) s
text_stands bytes letters s short e low h = (
  e,
  subst (λ o. IsSomeAnd o (λ r. slice_range bytes r.0 r.1 ≡ letters)) (sym (text_ranged bytes letters s short low h))
      (range_held bytes (s.at + length (groups 5 (length letters))) letters (second_held (groups 5 (length letters)) letters h)),
)
