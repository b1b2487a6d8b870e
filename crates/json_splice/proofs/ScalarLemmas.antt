-- Numbers and texts that stand canonically.
use Rattle.std.proofs.Common.{◌≡◌, ℕ, zero, suc, ◌+◌, ◌-◌, ◌*◌, ◌/◌, ◌%◌, ◌^◌, ◌≤◌, ◌<◌, ℤ, pos, negsuc, Bool, true, false, List, [], ◌∷◌, ◌++◌, length, drop, slice_range, refl, sym, ap, subst, ◌∙◌, arith, cond, nat_lt}
use Rattle.std.proofs.lemmas.Bool.{lt-ltb, le-ltb}
use Rattle.std.proofs.lemmas.List.{length-append, length-take-le, length-drop}
use Rattle.binary_model.specs.Layout.{Kind, signed, unsigned, number_at}
use Rattle.binary_model.specs.Stands.{IsBytes, signed_of}
use Rattle.binary_model.specs.Canonical.{low_bytes, signed_for, number_kind, width_of, number_bytes, groups, text_bytes}
use Rattle.binary_model.specs.Place.{Holds}
use Rattle.binary_model.proofs.canonical.LengthLemmas.{length-number}
use Rattle.binary_model.proofs.in_place.ReplaceLemmas.{number_low}
use Rattle.json_binary.specs.View as view
use Rattle.json_binary.specs.declared.cursor.layout.Width.{Width}
use Rattle.json_binary.specs.declared.cursor.layout.Width.TheVariants.{Two, Four, Eight}
use Rattle.json_splice.specs.Spelled.{IsNumberAt, IsTextAt}
use Rattle.json_splice.proofs.HeldLemmas.{joined_held, slice_held}
use Rattle.json_splice.proofs.WordLemmas.{number_holds}

-- ---- numbers

again : (n b : ℕ) → n < b → b - 1 - (b - 1 - n) ≡ n
again n b low = omega (arith, low)

-- a number in two's complement has the bytes that it was read from
signed_bytes : (w n : ℕ) (b : Bool) → n < 2 ^ (8 * w) → number_kind (cond b (pos n) (negsuc (2 ^ (8 * w) - 1 - n))) ≡ signed w → number_bytes (cond b (pos n) (negsuc (2 ^ (8 * w) - 1 - n))) ≡ low_bytes w n
signed_bytes w n true low kind = ap (λ k. low_bytes (width_of k) n) kind
signed_bytes w n false low kind = ap (λ k. low_bytes (width_of k) (2 ^ (8 * width_of k) - 1 - (2 ^ (8 * w) - 1 - n))) kind ∙ ap (low_bytes w) (again n (2 ^ (8 * w)) low)

number_at_in : (bytes : List ℕ) (k : Kind) (z : ℤ) (w at : ℕ) → number_kind z ≡ k → width_of k ≡ w → number_bytes z ≡ low_bytes w (number_at bytes w at) → IsBytes bytes → at + w ≤ length bytes → IsNumberAt bytes k z at w
number_at_in bytes k z w at kind width is octets inside = record {
  kind = kind;
  size = length-number z ∙ ap width_of kind ∙ width;
  held = subst (Holds bytes at) (sym is) (number_holds bytes w at octets inside);
}

below : (bytes : List ℕ) (w : Width) (at : ℕ) → IsBytes bytes → number_at bytes (view.width_of w) at < 2 ^ (8 * view.width_of w)
below bytes Two at octets = let low = number_low bytes 2 at octets in omega (arith, low)
below bytes Four at octets = let low = number_low bytes 4 at octets in omega (arith, low)
below bytes Eight at octets = let low = number_low bytes 8 at octets in omega (arith, low)

-- one that needs its width stands canonically
pub signed_held : (bytes : List ℕ) (w : Width) (z : ℤ) (at n : ℕ) → IsBytes bytes → at + n ≤ length bytes → n ≡ view.width_of w → number_kind (signed_of (8 * view.width_of w) (number_at bytes (view.width_of w) at)) ≡ signed (view.width_of w)
    → signed_of (8 * view.width_of w) (number_at bytes (view.width_of w) at) ≡ z → IsNumberAt bytes (signed (view.width_of w)) z at n
signed_held bytes w z at n octets inside size kind is =
    let x = view.width_of w in
    let m = number_at bytes x at in
    subst (λ z. IsNumberAt bytes (signed x) z at n) is (subst (IsNumberAt bytes (signed x) (signed_of (8 * x) m) at) (sym size)
    (number_at_in bytes (signed x) (signed_of (8 * x) m) x at kind refl (signed_bytes x m (nat_lt m (2 ^ (8 * x - 1))) (below bytes w at octets) kind) octets (subst (λ n. at + n ≤ length bytes) size inside)))

-- and so does one without a sign that needs the highest bit
pub unsigned_held : (bytes : List ℕ) (z : ℤ) (at m : ℕ) → IsBytes bytes → at + 8 ≤ length bytes → m ≡ number_at bytes 8 at → 2 ^ 63 ≤ m → pos (number_at bytes 8 at) ≡ z → IsNumberAt bytes (unsigned 8) z at 8
unsigned_held bytes z at m octets inside same high is =
    let n = number_at bytes 8 at in
    let kind : number_kind (pos n) ≡ unsigned 8 = ap (λ b. cond b (signed_for n) (unsigned 8)) (le-ltb n (2 ^ 63) (omega (arith, same, high))) in
    subst (λ z. IsNumberAt bytes (unsigned 8) z at 8) is (number_at_in bytes (unsigned 8) (pos n) 8 at kind refl (ap (λ k. low_bytes (width_of k) n) kind) octets inside)

-- ---- texts

-- a length below 128 is the last group
pub groups_last : (g n : ℕ) → (g ≡ 0 → ⊥) → n < 128 → groups g n ≡ n ∷ []
groups_last zero n some low = absurd (some refl)
groups_last (suc g) n some low = ap (λ b. cond b (n ∷ []) ((128 + n % 128) ∷ groups g (n / 128))) (lt-ltb n 128 low)

-- letters behind their canonical groups
pub text_held : (bytes letters : List ℕ) (at start end : ℕ) → start ≤ end → end ≤ length bytes → slice_range bytes start end ≡ letters
    → Holds bytes at (groups 5 (end - start)) → start ≡ at + length (groups 5 (end - start)) → IsTextAt bytes letters at (end - at)
text_held bytes letters at start end rising inside is h place =
    let many : length letters ≡ end - start = ap length (sym is) ∙ length-take-le (end - start) (drop start bytes) (let d = length-drop start bytes in omega (arith, d, rising, inside)) in
    let g = groups 5 (end - start) in
    let whole : Holds bytes at (g ++ letters) = joined_held bytes at g letters h (subst (λ p. Holds bytes p letters) place (subst (Holds bytes start) is (slice_held bytes start end rising inside))) in
    let same : g ++ letters ≡ text_bytes letters = ap (λ n. groups 5 n ++ letters) (sym many) in
    record {
      size = sym (ap length same) ∙ (let a = length-append g letters in omega (arith, a, many, place, rising));
      held = subst (Holds bytes at) same whole;
    }
