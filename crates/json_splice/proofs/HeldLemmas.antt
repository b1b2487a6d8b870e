-- What is found in bytes, put together to what stands at a place.
use Rattle.std.proofs.Common.{◌≡◌, ℕ, zero, suc, ◌+◌, ◌-◌, ◌≤◌, ◌<◌, List, [], ◌∷◌, ◌++◌, length, take, drop, replicate, slice_index, slice_range, Option, Some, None, IfSome, refl, sym, ap, subst, ◌∙◌, arith, drop-drop, drop-cons}
use Rattle.std.proofs.Math.Seq.{drop-append_seam}
use Rattle.std.proofs.lemmas.List.{length-append, append_assoc, length-take-le}
use Rattle.binary_model.specs.Place.{Holds}

split_at : (n : ℕ) (xs : List ℕ) → xs ≡ take n xs ++ drop n xs
split_at zero xs = refl
split_at (suc n) [] = refl
split_at (suc n) (x ∷ xs) = ap (λ l. x ∷ l) (split_at n xs)

-- two neighbours are one
pub joined_held : (bytes : List ℕ) (at : ℕ) (xs ys : List ℕ) → Holds bytes at xs → Holds bytes (at + length xs) ys → Holds bytes at (xs ++ ys)
joined_held bytes at xs ys h k =
    let size = length-append h.pre xs in
    let hp = h.place in
    let kp = k.place in
    let same : length (h.pre ++ xs) ≡ length k.pre = omega (arith, size, hp, kp) in
    let rest : h.post ≡ ys ++ k.post =
    sym (drop-append_seam (h.pre ++ xs) h.post) ∙ ap (drop (length (h.pre ++ xs))) (append_assoc h.pre xs h.post ∙ sym h.whole) ∙ ap (λ n. drop n bytes) same
    ∙ ap (drop (length k.pre)) k.whole ∙ drop-append_seam k.pre (ys ++ k.post) in
    record {
      pre = h.pre;
      post = k.post;
      whole = h.whole ∙ ap (λ r. h.pre ++ (xs ++ r)) rest ∙ ap (λ r. h.pre ++ r) (sym (append_assoc xs ys k.post));
      place = h.place;
    }

-- what stands between two places
pub slice_held : (bytes : List ℕ) (a b : ℕ) → a ≤ b → b ≤ length bytes → Holds bytes a (slice_range bytes a b)
slice_held bytes a b h k =
    let behind : drop (b - a) (drop a bytes) ≡ drop b bytes = drop-drop (b - a) a bytes ∙ (let e : a + (b - a) ≡ b = omega (arith, h) in ap (λ n. drop n bytes) e) in
    record {
      pre = take a bytes;
      post = drop b bytes;
      whole = split_at a bytes ∙ ap (λ r. take a bytes ++ r) (split_at (b - a) (drop a bytes) ∙ ap (λ r. take (b - a) (drop a bytes) ++ r) behind);
      place = length-take-le a bytes (omega (arith, h, k));
    }

-- nothing stands at each place
pub empty_held : (bytes : List ℕ) (at : ℕ) → at ≤ length bytes → Holds bytes at []
empty_held bytes at h = let e : at - at ≡ 0 = omega arith in subst (Holds bytes at) (ap (λ n. take n (drop at bytes)) e) (slice_held bytes at at (omega arith) h)

-- the byte at a place stands there
pub one_held : (bytes : List ℕ) (at b : ℕ) → at < length bytes → slice_index bytes at ≡ b → Holds bytes at (b ∷ [])
one_held bytes at b low is =
    let e : suc at - at ≡ 1 = omega arith in
    subst (Holds bytes at) (ap (λ n. take n (drop at bytes)) e ∙ ap (take 1) (drop-cons bytes at 0 low) ∙ ap (λ x. x ∷ []) is) (slice_held bytes at (suc at) (omega arith) (omega (arith, low)))

-- a byte, and what is behind it
pub first_held : (bytes : List ℕ) (at b : ℕ) (xs : List ℕ) → at < length bytes → slice_index bytes at ≡ b → Holds bytes (at + 1) xs → Holds bytes at (b ∷ xs)
first_held bytes at b xs low is h = joined_held bytes at (b ∷ []) xs (one_held bytes at b low is) h

-- a range that ends where it begins is filled
pub none_filled : (bytes : List ℕ) (from end byte : ℕ) → end ≤ from → from ≤ length bytes → Holds bytes from (replicate (end - from) byte)
none_filled bytes from end byte low inside = let e : end - from ≡ 0 = omega (arith, low) in subst (λ n. Holds bytes from (replicate n byte)) (sym e) (empty_held bytes from inside)

-- a byte more is
pub more_filled : (bytes : List ℕ) (from end byte : ℕ) → from < end → end ≤ length bytes → slice_index bytes from ≡ byte → Holds bytes (from + 1) (replicate (end - (from + 1)) byte) → Holds bytes from (replicate (end - from) byte)
more_filled bytes from end byte low inside is h =
    let e : end - from ≡ suc (end - (from + 1)) = omega (arith, low) in
    subst (λ n. Holds bytes from (replicate n byte)) (sym e) (first_held bytes from byte (replicate (end - (from + 1)) byte) (omega (arith, low, inside)) is h)

-- what holds of what there is
pub on_some : {A : Type 0} (P Q : A → Type 0) (o : Option A) → ((x : A) → P x → Q x) → IfSome o P → IfSome o Q
on_some P Q None f h = tt
on_some P Q (Some x) f h = f x h
