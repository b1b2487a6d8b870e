-- Bytes written over others at a place.
use Rattle.std.proofs.Common.{◌≡◌, ℕ, zero, suc, ◌+◌, ◌-◌, ◌≤◌, ◌<◌, List, [], ◌∷◌, ◌++◌, length, take, drop, slice_index, refl, sym, ap, subst, ◌∙◌, arith, inl, inr}
use Rattle.std.proofs.lemmas.List.{length-append, length-drop, length-take-le, get_or-take, get_or-drop, get_or_append_left, get_or-append_right}
use Rattle.std.proofs.lemmas.Bool.{cases_lt}
use Rattle.binary_model.specs.Stands.{IsBytes}
use Rattle.binary_model.specs.Place.{Holds}
use Rattle.binary_model.specs.Change.{written}
use Rattle.binary_model.proofs.in_place.AgreeLemmas.{Same}

-- bytes written within others leave as many
pub written_length : (bytes : List ℕ) (at : ℕ) (new : List ℕ) → at + length new ≤ length bytes → length (written bytes at new) ≡ length bytes
unfolding written
written_length bytes at new low =
    let a = length-append (take at bytes) (new ++ drop (at + length new) bytes) in
    let b = length-append new (drop (at + length new) bytes) in
    let c = length-take-le at bytes (omega (arith, low)) in
    let d = length-drop (at + length new) bytes in
    omega (arith, a, b, c, d, low)

-- and the bytes before them
pub written_below : (bytes : List ℕ) (at : ℕ) (new : List ℕ) → at ≤ length bytes → Same bytes (written bytes at new) 0 at
unfolding written
written_below bytes at new low = λ i first below.
    let c = length-take-le at bytes low in
    sym (get_or_append_left (take at bytes) (new ++ drop (at + length new) bytes) 0 i (omega (arith, c, below)) ∙ get_or-take at bytes i 0 below)

-- and those behind them
pub written_behind : (bytes : List ℕ) (at : ℕ) (new : List ℕ) → at ≤ length bytes → (i : ℕ) → at + length new ≤ i → slice_index bytes i ≡ slice_index (written bytes at new) i
unfolding written
written_behind bytes at new low i above =
    let c = length-take-le at bytes low in
    let e : at + length new + (i - at - length new) ≡ i = omega (arith, above) in
    sym (get_or-append_right (take at bytes) (new ++ drop (at + length new) bytes) at i 0 c (omega (arith, above))
    ∙ get_or-append_right new (drop (at + length new) bytes) (length new) (i - at) 0 refl (omega (arith, above))
    ∙ get_or-drop (at + length new) bytes (i - at - length new) 0 ∙ ap (slice_index bytes) e)

-- bytes that are written stand at their place
pub written_holds : (bytes : List ℕ) (at : ℕ) (new : List ℕ) → at ≤ length bytes → Holds (written bytes at new) at new
unfolding written
written_holds bytes at new low = record { pre = take at bytes; post = drop (at + length new) bytes; whole = refl; place = length-take-le at bytes low }

-- ---- bytes are below 256

-- two lists of bytes joined are bytes
pub bytes_append : (xs ys : List ℕ) → IsBytes xs → IsBytes ys → IsBytes (xs ++ ys)
bytes_append xs ys a b i = elim (cases_lt i (length xs)) [
  | inl low ↦ subst (λ n. n < 256) (sym (get_or_append_left xs ys 0 i low)) (a i)
  | inr high ↦ subst (λ n. n < 256) (sym (get_or-append_right xs ys (length xs) i 0 refl high)) (b (i - length xs))
]

-- and so is what is left of one
pub bytes_drop : (n : ℕ) (xs : List ℕ) → IsBytes xs → IsBytes (drop n xs)
bytes_drop n xs a i = subst (λ m. m < 256) (sym (get_or-drop n xs i 0)) (a (n + i))

-- a front of one
pub bytes_take : (n : ℕ) (xs : List ℕ) → IsBytes xs → IsBytes (take n xs)
bytes_take zero xs a i = omega arith
bytes_take (suc n) [] a i = omega arith
bytes_take (suc n) (x ∷ xs) a zero = a 0
bytes_take (suc n) (x ∷ xs) a (suc i) = bytes_take n xs (λ j. a (suc j)) i

-- a byte before one
pub bytes_cons : (x : ℕ) (xs : List ℕ) → x < 256 → IsBytes xs → IsBytes (x ∷ xs)
bytes_cons x xs low a zero = low
bytes_cons x xs low a (suc i) = a i

pub bytes_behind : (x : ℕ) (xs : List ℕ) → IsBytes (x ∷ xs) → IsBytes xs
bytes_behind x xs a = λ i. a (suc i)

-- and bytes written within bytes
pub bytes_written : (bytes : List ℕ) (at : ℕ) (new : List ℕ) → IsBytes bytes → IsBytes new → IsBytes (written bytes at new)
unfolding written
bytes_written bytes at new a b =
    bytes_append (take at bytes) (new ++ drop (at + length new) bytes) (bytes_take at bytes a) (bytes_append new (drop (at + length new) bytes) b (bytes_drop (at + length new) bytes a))
