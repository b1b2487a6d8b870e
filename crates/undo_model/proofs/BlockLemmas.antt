-- Numbers and blocks of bytes at their places in longer lists.
use Rattle.std.proofs.Common.{◌≡◌, ℕ, ◌+◌, ◌*◌, ◌^◌, ◌<◌, List, [], ◌++◌, length, drop, slice_index, sym, ap, ◌∙◌, arith}
use Rattle.std.proofs.lemmas.List.{append-nil, drop_at, drop-drop}
use Rattle.byteorder.specs.Endian.{big_number, big_bytes}
use Rattle.byteorder.specs.Numbers.{big_number-reads_back, length-bytes_high_first}

-- a list cut behind a block
pub drop_block : (xs ys : List ℕ) (n j k : ℕ) → length xs ≡ n → k ≡ n + j → drop k (xs ++ ys) ≡ drop j ys
drop_block xs ys n j k len is =
    ap (λ (m : ℕ). drop m (xs ++ ys)) is ∙ sym (drop-drop j n (xs ++ ys)) ∙ ap (drop j) (drop_at xs ys n len)

pub drop_number : (w x j k : ℕ) (ys : List ℕ) → k ≡ w + j → drop k (big_bytes w x ++ ys) ≡ drop j ys
drop_number w x j k ys is = drop_block (big_bytes w x) ys w j k (length-bytes_high_first w x) is

-- a number's bytes in front of others are read as the number
pub number_first : (w x : ℕ) (ys : List ℕ) → x < 256 ^ w → big_number w (big_bytes w x ++ ys) ≡ x
number_first = big_number-reads_back

-- so are they alone
pub number_alone : (w x : ℕ) → x < 256 ^ w → big_number w (big_bytes w x) ≡ x
number_alone w x small = ap (big_number w) (sym (append-nil (big_bytes w x))) ∙ big_number-reads_back w x [] small

-- a byte in front of others is read as the number that it was made of
pub byte_first : (x : ℕ) (ys : List ℕ) → x < 256 → slice_index (big_bytes 1 x ++ ys) 0 ≡ x
byte_first x ys small =
    let e : slice_index (big_bytes 1 x ++ ys) 0 * 256 ^ 0 + 0 ≡ x = big_number-reads_back 1 x ys (omega arith) in
    omega (arith, e)
