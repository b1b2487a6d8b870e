-- The entries of a container move together over the one that is removed.
use Rattle.std.proofs.Common.{◌≡◌, ℕ, suc, ◌+◌, ◌-◌, ◌*◌, ◌≤◌, ◌<◌, Bool, true, false, List, [], ◌++◌, length, drop, get_or, slice_index, slice_range, refl, sym, ap, ◌∙◌, arith, cond, mul-le-mul_right}
use Rattle.std.proofs.lemmas.List.{length-append, length-drop, length-take-le, get_or-take, get_or-drop, get_or_append_left, get_or-append-add}
use Rattle.byteorder.specs.Numbers.{length-bytes_low_first}
use Rattle.binary_model.specs.Layout.{word, Container, count, end, header_end, key_entry, values_at, entries_end, value_entry, key_width, value_width}
use Rattle.binary_model.specs.Stands.{IsBytes}
use Rattle.binary_model.specs.Place.{Holds}
use Rattle.binary_model.specs.Canonical.{low_bytes}
use Rattle.binary_model.specs.Change.{written, other_keys, other_values}
use Rattle.binary_model.proofs.in_place.AgreeLemmas.{Agree, Same, same_agree, number_agrees}
use Rattle.binary_model.proofs.canonical.CanonicalLemmas.{first_held, second_held, number_held, moved}
use Rattle.binary_model.proofs.in_place.WrittenLemmas.{written_length, written_below, written_behind, written_holds, bytes_append, bytes_take, bytes_drop, bytes_written}
use Rattle.binary_model.proofs.ByteLemmas.{low_are_bytes}
use Rattle.binary_model.proofs.in_place.AgainLemmas.{values_first}
use Rattle.binary_model.proofs.in_place.ReplaceLemmas.{number_low}

held_index : (ys : List ℕ) (at : ℕ) (zs : List ℕ) (i : ℕ) → Holds ys at zs → i < length zs → slice_index ys (at + i) ≡ get_or zs i 0
held_index ys at zs i h low =
    let e : at + i ≡ length h.pre + i = let p = h.place in omega (arith, p) in
    ap (λ r. get_or r (at + i) 0) h.whole ∙ ap (λ n. get_or (h.pre ++ (zs ++ h.post)) n 0) e ∙ get_or-append-add h.pre (zs ++ h.post) i 0 ∙ get_or_append_left zs h.post 0 i low

range_whole : (xs : List ℕ) (a b : ℕ) → a ≤ b → b ≤ length xs → length (slice_range xs a b) ≡ b - a
range_whole xs a b low high = let e = length-drop a xs in length-take-le (b - a) (drop a xs) (omega (arith, e, high))

range_moved : (xs ys : List ℕ) (a b at : ℕ) → a ≤ b → b ≤ length xs → Holds ys at (slice_range xs a b) → Agree xs a ys at (b - a)
range_moved xs ys a b at low high h = λ i below.
    let e = range_whole xs a b low high in
    sym (held_index ys at (slice_range xs a b) i h (omega (arith, e, below)) ∙ get_or-take (b - a) (drop a xs) i 0 below ∙ get_or-drop a xs i 0)

range_bytes : (xs : List ℕ) (a b : ℕ) → IsBytes xs → IsBytes (slice_range xs a b)
range_bytes xs a b h = bytes_take (b - a) (drop a xs) (bytes_drop a xs h)

-- what the removal of the k-th entry leaves
pub record Shrunk (xs ys : List ℕ) (c : Container) (k : ℕ) : Type 0 where
  pub len : length xs ≡ length ys
  pub octets : IsBytes ys
  pub fewer : count ys c ≡ count xs c - 1
  pub ends : end ys c ≡ end xs c
  pub below : Same xs ys 0 c.at
  pub behind : (i : ℕ) → entries_end xs c ≤ i → slice_index xs i ≡ slice_index ys i
  pub lower : values_at ys c ≤ values_at xs c
  pub keys_before : c.is_object ≡ true → Agree xs (header_end c) ys (header_end c) (k * key_width c.form)
  pub keys_behind : c.is_object ≡ true → Agree xs (key_entry c (suc k)) ys (key_entry c k) (key_entry c (count xs c) - key_entry c (suc k))
  pub values_before : Agree xs (values_at xs c) ys (values_at ys c) (k * value_width c.form)
  pub values_behind : Agree xs (value_entry xs c (suc k)) ys (value_entry ys c k) (entries_end xs c - value_entry xs c (suc k))

abbrev KeyRanges : List ℕ → Container → ℕ → Bool → List ℕ
KeyRanges xs c k b = cond b (slice_range xs (header_end c) (key_entry c k) ++ slice_range xs (key_entry c (suc k)) (values_at xs c)) []

abbrev KeysMoved : List ℕ → List ℕ → Container → ℕ → Bool → Type 0
KeysMoved xs ys c k b = (values_at ys c ≡ header_end c + length (KeyRanges xs c k b)) × (values_at ys c ≤ values_at xs c)
    × (b ≡ true → Agree xs (header_end c) ys (header_end c) (k * key_width c.form))
    × (b ≡ true → Agree xs (key_entry c (suc k)) ys (key_entry c k) (key_entry c (count xs c) - key_entry c (suc k)))

keys_moved : (xs ys vs : List ℕ) (c : Container) (k p : ℕ) → k < count xs c → count xs c ≡ suc p → count ys c ≡ p → values_at xs c ≤ length xs
    → (b : Bool) → c.is_object ≡ b → Holds ys (header_end c) (KeyRanges xs c k b ++ vs) → KeysMoved xs ys c k b
keys_moved xs ys vs c k p low many fewer inside false e held =
    let at : values_at ys c ≡ header_end c = ap (λ b. cond b (key_entry c (count ys c)) (header_end c)) e in
    let from : values_at xs c ≡ header_end c = ap (λ b. cond b (key_entry c (count xs c)) (header_end c)) e in
    (omega (arith, at), omega (arith, at, from), (λ f. let no : ⊥ = cc in absurd no), (λ f. let no : ⊥ = cc in absurd no))
keys_moved xs ys vs c k p low many fewer inside true e held =
    let w = key_width c.form in
    let at : values_at ys c ≡ key_entry c (count ys c) = ap (λ b. cond b (key_entry c (count ys c)) (header_end c)) e in
    let from : values_at xs c ≡ key_entry c (count xs c) = ap (λ b. cond b (key_entry c (count xs c)) (header_end c)) e in
    let old_size : count xs c * w ≡ p * w + w = ap (λ m. m * w) many ∙ omega arith in
    let new_size : count ys c * w ≡ p * w = ap (λ m. m * w) fewer in
    let step : suc k * w ≡ k * w + w = omega arith in
    let most : suc k * w ≤ count xs c * w = mul-le-mul_right w low in
    let first = slice_range xs (header_end c) (key_entry c k) in
    let later = slice_range xs (key_entry c (suc k)) (values_at xs c) in
    let first_length = range_whole xs (header_end c) (key_entry c k) (omega arith) (omega (arith, inside, from, most, step)) in
    let later_length = range_whole xs (key_entry c (suc k)) (values_at xs c) (omega (arith, from, most)) inside in
    let both = length-append first later in
    let keys = first_held (first ++ later) vs held in
    let one = range_moved xs ys (header_end c) (key_entry c k) (header_end c) (omega arith) (omega (arith, inside, from, most, step)) (first_held first later keys) in
    let two = range_moved xs ys (key_entry c (suc k)) (values_at xs c) (key_entry c k) (omega (arith, from, most)) inside (moved (omega (arith, first_length)) (second_held first later keys)) in (
      omega (arith, at, new_size, both, first_length, later_length, from, old_size, most, step),
      omega (arith, at, new_size, from, old_size),
      (λ f. λ i below. one i (omega (arith, below))),
      (λ f. λ i below. two i (omega (arith, below, from))),
    )

-- what a removed entry leaves: one less is counted, and the others have moved together
pub shrunk : (xs : List ℕ) (c : Container) (k : ℕ) → IsBytes xs → k < count xs c → entries_end xs c ≤ length xs
    → Shrunk xs (written (written xs c.at (low_bytes (word c.form) (count xs c - 1))) (header_end c) (other_keys xs c k ++ other_values xs c k)) c k
shrunk xs c k octets low inside =
    let p = count xs c - 1 in
    let many : count xs c ≡ suc p = omega (arith, low) in
    let less = low_bytes (word c.form) p in
    let keys = other_keys xs c k in
    let first = slice_range xs (values_at xs c) (value_entry xs c k) in
    let later = slice_range xs (value_entry xs c (suc k)) (entries_end xs c) in
    let values = other_values xs c k in
    let mid = written xs c.at less in
    let ys = written mid (header_end c) (keys ++ values) in
    let w = value_width c.form in
    let wide = length-bytes_low_first 0 (word c.form) p in
    let start = values_first xs c in
    let most : suc k * w ≤ count xs c * w = mul-le-mul_right w low in
    let step : suc k * w ≡ k * w + w = omega arith in
    let whole : entries_end xs c ≡ values_at xs c + count xs c * w = refl in
    let values_inside : values_at xs c ≤ length xs = omega (arith, inside, whole) in
    let mid_fits : c.at + length less ≤ length xs = omega (arith, wide, start, values_inside) in
    let mid_low : c.at ≤ length xs = omega (arith, mid_fits) in
    let mid_length = written_length xs c.at less mid_fits in
    let mid_below = written_below xs c.at less mid_low in
    let mid_behind = written_behind xs c.at less mid_low in
    let mid_held = written_holds xs c.at less mid_low in
    let head_low : header_end c ≤ length mid = omega (arith, mid_length, start, values_inside) in
    let below_head = written_below mid (header_end c) (keys ++ values) head_low in
    let behind_head = written_behind mid (header_end c) (keys ++ values) head_low in
    let held = written_holds mid (header_end c) (keys ++ values) head_low in
    let limit = number_low xs (word c.form) c.at octets in
    let count_eq : count ys c ≡ p =
    sym (number_agrees mid ys c.at c.at (word c.form) (same_agree mid ys 0 (header_end c) c.at (word c.form) below_head (omega arith) (omega arith)))
    ∙ number_held mid c.at (word c.form) p (omega (arith, limit, many)) mid_held in
    let size : Same xs ys (c.at + word c.form) (header_end c) = λ i first below. mid_behind i (omega (arith, first, wide)) ∙ below_head i (omega arith) below in
    let ends : end ys c ≡ end xs c = ap (λ n. c.at + n) (sym (number_agrees xs ys (c.at + word c.form) (c.at + word c.form) (word c.form) (same_agree xs ys (c.at + word c.form) (header_end c) (c.at + word c.form) (word c.form) size (omega arith) (omega arith)))) in
    let moves = keys_moved xs ys values c k p low many count_eq values_inside c.is_object refl held in
    let at = moves.0 in
    let lower = moves.1 in
    let values_held : Holds ys (values_at ys c) values = moved (sym at) (second_held keys values held) in
    let first_length = range_whole xs (values_at xs c) (value_entry xs c k) (omega arith) (omega (arith, inside, whole, most, step)) in
    let later_length = range_whole xs (value_entry xs c (suc k)) (entries_end xs c) (omega (arith, most)) inside in
    let both = length-append first later in
    let all = length-append keys values in
    let old_size : count xs c * w ≡ p * w + w = ap (λ m. m * w) many ∙ omega arith in
    let new_fits : header_end c + length (keys ++ values) ≤ entries_end xs c = omega (arith, at, lower, both, all, first_length, later_length, most, step) in
    let one = range_moved xs ys (values_at xs c) (value_entry xs c k) (values_at ys c) (omega arith) (omega (arith, inside, whole, most, step)) (first_held first later values_held) in
    let two = range_moved xs ys (value_entry xs c (suc k)) (entries_end xs c) (value_entry ys c k) (omega (arith, most)) inside (moved (omega (arith, first_length)) (second_held first later values_held)) in
    record {
      len = sym (written_length mid (header_end c) (keys ++ values) (omega (arith, new_fits, inside, mid_length)) ∙ mid_length);
      octets = bytes_written mid (header_end c) (keys ++ values) (bytes_written xs c.at less octets (low_are_bytes 0 (word c.form) p)) (bytes_append keys values (key_bytes c.is_object) (bytes_append first later (range_bytes xs (values_at xs c) (value_entry xs c k) octets) (range_bytes xs (value_entry xs c (suc k)) (entries_end xs c) octets)));
      fewer = count_eq;
      ends = ends;
      below = λ i first below. mid_below i first below ∙ below_head i first (omega (arith, below));
      behind = λ i first. mid_behind i (omega (arith, first, wide, start, whole)) ∙ behind_head i (omega (arith, first, new_fits));
      lower = lower;
      keys_before = moves.2;
      keys_behind = moves.3;
      values_before = λ i below. one i (omega (arith, below));
      values_behind = two;
    }
  where
    key_bytes : (b : Bool) → IsBytes (KeyRanges xs c k b)
    key_bytes true = bytes_append (slice_range xs (header_end c) (key_entry c k)) (slice_range xs (key_entry c (suc k)) (values_at xs c))
        (range_bytes xs (header_end c) (key_entry c k) octets) (range_bytes xs (key_entry c (suc k)) (values_at xs c) octets)
    key_bytes false = λ i. omega arith
