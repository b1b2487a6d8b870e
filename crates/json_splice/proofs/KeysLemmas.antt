-- The keys of a container, one after another.
use Rattle.std.proofs.Common.{◌≡◌, ℕ, zero, suc, ◌+◌, ◌-◌, ◌*◌, ◌≤◌, ◌<◌, true, List, [], ◌∷◌, ◌++◌, length, drop, refl, sym, ap, subst, ◌∙◌, arith, cond}
use Rattle.std.proofs.lemmas.List.{length-append, append_assoc, length-take-le, length-drop}
use Rattle.byteorder.specs.Numbers.{length-bytes_low_first}
use Rattle.binary_model.specs.Layout.{word, key_width, value_width, number_at, Container, count, end, header_end, entries_end, key_entry, key_at, key_end, key_of}
use Rattle.binary_model.specs.Stands.{IsBytes, IsFrame, AreKeys}
use Rattle.binary_model.specs.Canonical.{low_bytes, key_entries, joined}
use Rattle.binary_model.specs.Place.{Holds}
use Rattle.binary_model.proofs.canonical.CanonicalLemmas.{moved}
use Rattle.binary_model.proofs.in_place.AgainLemmas.{key_within}
use Rattle.json_splice.specs.Spelled.{AreKeysAt}
use Rattle.json_splice.proofs.HeldLemmas.{joined_held, empty_held, slice_held}
use Rattle.json_splice.proofs.WordLemmas.{number_holds}

-- the canonical entries of the keys from the k-th on, and these keys from the offset on
abbrev pub AreKeysFrom : List ℕ → Container → ℕ → ℕ → List (List ℕ) → Type 0
AreKeysFrom bytes c k offset [] = Unit {0}
AreKeysFrom bytes c k offset (key ∷ keys) =
    Holds bytes (key_entry c k) (low_bytes (word c.form) offset ++ low_bytes 2 (length key)) × Holds bytes (c.at + offset) key × AreKeysFrom bytes c (suc k) (offset + length key) keys

-- ---- one key

-- the k-th key is the first of those from the k-th on
pub nth_key : (bytes : List ℕ) (c : Container) (j floor k : ℕ) (ks : List (List ℕ)) → AreKeys bytes c j floor ks → k < length ks → (drop k ks ≡ key_of bytes c (j + k) ∷ drop (suc k) ks) × (key_end bytes c (j + k) ≤ end bytes c)
nth_key bytes c j floor k [] a lt = absurd (omega (arith, lt))
nth_key bytes c j floor zero (key ∷ ks) a lt =
    let e : j ≡ j + 0 = omega arith in (
      ap (λ l. l ∷ ks) (sym a.2 ∙ ap (key_of bytes c) e),
      subst (λ i. key_end bytes c i ≤ end bytes c) e a.1,
    )
nth_key bytes c j floor (suc k) (key ∷ ks) a lt =
    let e : suc j + k ≡ j + suc k = omega arith in
    let rest = nth_key bytes c (suc j) (key_end bytes c j) k ks a.3 (omega (arith, lt)) in (
      rest.0 ∙ ap (λ i. key_of bytes c i ∷ drop (suc k) ks) e,
      subst (λ i. key_end bytes c i ≤ end bytes c) e rest.1,
    )

-- none is left from the end on
pub no_keys_left : (k : ℕ) (ks : List (List ℕ)) → length ks ≤ k → drop k ks ≡ []
no_keys_left zero [] h = refl
no_keys_left (suc k) [] h = refl
no_keys_left zero (key ∷ ks) h = absurd (omega (arith, h))
no_keys_left (suc k) (key ∷ ks) h = no_keys_left k ks (omega (arith, h))

-- one key more, at the end of what was found
module _ (bytes : List ℕ) (c : Container) (k offset start floor : ℕ) (ks : List (List ℕ)) (a : AreKeys bytes c 0 floor ks) (low : k < length ks) (inside : end bytes c ≤ length bytes) (here : key_at bytes c k - c.at ≡ offset) where
  first_key : (drop k ks ≡ key_of bytes c k ∷ drop (k + 1) ks) × (key_end bytes c k ≤ end bytes c)
  first_key =
      let z : 0 + k ≡ k = omega arith in
      let one : suc k ≡ k + 1 = omega arith in
      let n = nth_key bytes c 0 floor k ks a low in (
        n.0 ∙ ap (λ i. key_of bytes c i ∷ drop (suc k) ks) z ∙ ap (λ i. key_of bytes c k ∷ drop i ks) one,
        subst (λ i. key_end bytes c i ≤ end bytes c) z n.1,
      )

  key_length : length (key_of bytes c k) ≡ number_at bytes 2 (key_entry c k + word c.form)
  key_length =
      let top = first_key.1 in
      let e : key_end bytes c k - key_at bytes c k ≡ number_at bytes 2 (key_entry c k + word c.form) = omega arith in
      let d = length-drop (key_at bytes c k) bytes in
      length-take-le (key_end bytes c k - key_at bytes c k) _ (omega (arith, d, top, inside, e)) ∙ e

  pub keys_more : (next : ℕ) → IsBytes bytes → key_entry c k + key_width c.form ≤ length bytes → next ≡ key_end bytes c k - c.at
      → (AreKeysFrom bytes c k offset (drop k ks) → AreKeysFrom bytes c 0 start ks) → AreKeysFrom bytes c (k + 1) next (drop (k + 1) ks) → AreKeysFrom bytes c 0 start ks
  keys_more next octets entry e so_far rest =
      let key = key_of bytes c k in
      let long = key_length in
      let one : k + 1 ≡ suc k = omega arith in
      let word_is : number_at bytes (word c.form) (key_entry c k) ≡ offset = omega (arith, here) in
      let after : next ≡ offset + length key = omega (arith, e, long, word_is) in
      let first = subst (λ n. Holds bytes (key_entry c k) (low_bytes (word c.form) n)) word_is (number_holds bytes (word c.form) (key_entry c k) octets (omega (arith, entry))) in
      let second = subst (λ n. Holds bytes (key_entry c k + word c.form) (low_bytes 2 n)) (sym long) (number_holds bytes 2 (key_entry c k + word c.form) octets (omega (arith, entry))) in
      let width = length-bytes_low_first 0 (word c.form) offset in
      let held = joined_held bytes (key_entry c k) (low_bytes (word c.form) offset) (low_bytes 2 (length key)) first (moved (omega (arith, width)) second) in
      let top = first_key.1 in
      let letters : Holds bytes (c.at + offset) key = moved (omega (arith, word_is)) (slice_held bytes (key_at bytes c k) (key_end bytes c k) (omega arith) (omega (arith, top, inside))) in
      so_far (subst (AreKeysFrom bytes c k offset) (sym first_key.0) (held, letters, subst (λ i. AreKeysFrom bytes c i (offset + length key) (drop (k + 1) ks)) one (subst (λ n. AreKeysFrom bytes c (k + 1) n (drop (k + 1) ks)) after rest)))

  pub keys_longer : (next total : ℕ) → next ≡ key_end bytes c k - c.at → offset + length (joined (drop k ks)) ≡ total → next + length (joined (drop (k + 1) ks)) ≡ total
  keys_longer next total e so_far =
      let long = key_length in
      let all : length (joined (drop k ks)) ≡ length (key_of bytes c k) + length (joined (drop (k + 1) ks)) = ap (λ l. length (joined l)) first_key.0 ∙ length-append (key_of bytes c k) (joined (drop (k + 1) ks)) in
      omega (arith, e, long, here, all, so_far)

  pub keys_inside : (next : ℕ) → next ≡ key_end bytes c k - c.at → c.at + next ≤ end bytes c
  keys_inside next e = let top = first_key.1 in omega (arith, e, top)

-- ---- all keys

-- their entries stand one behind another
pub key_entries_held : (bytes : List ℕ) (c : Container) (k offset : ℕ) (ks : List (List ℕ)) → key_entry c (k + length ks) ≤ length bytes → AreKeysFrom bytes c k offset ks → Holds bytes (key_entry c k) (key_entries c.form offset ks)
key_entries_held bytes c k offset [] inside h = let z : k + 0 ≡ k = omega arith in empty_held bytes (key_entry c k) (subst (λ i. key_entry c i ≤ length bytes) z inside)
key_entries_held bytes c k offset (key ∷ ks) inside h =
    let e : k + suc (length ks) ≡ suc k + length ks = omega arith in
    let rest = key_entries_held bytes c (suc k) (offset + length key) ks (subst (λ i. key_entry c i ≤ length bytes) e inside) h.2 in
    let first = low_bytes (word c.form) offset in
    let second = low_bytes 2 (length key) in
    let a = length-bytes_low_first 0 (word c.form) offset in
    let b = length-bytes_low_first 0 2 (length key) in
    let both = length-append first second in
    let place : key_entry c (suc k) ≡ key_entry c k + length (first ++ second) = omega (arith, a, b, both) in
    subst (Holds bytes (key_entry c k)) (append_assoc first second (key_entries c.form (offset + length key) ks)) (joined_held bytes (key_entry c k) (first ++ second) (key_entries c.form (offset + length key) ks) h.0 (moved place rest))

-- and so do they
pub letters_held : (bytes : List ℕ) (c : Container) (k offset : ℕ) (ks : List (List ℕ)) → c.at + (offset + length (joined ks)) ≤ length bytes → AreKeysFrom bytes c k offset ks → Holds bytes (c.at + offset) (joined ks)
letters_held bytes c k offset [] inside h = empty_held bytes (c.at + offset) (omega (arith, inside))
letters_held bytes c k offset (key ∷ ks) inside h =
    let size = length-append key (joined ks) in
    let rest = letters_held bytes c (suc k) (offset + length key) ks (omega (arith, inside, size)) h.2 in
    joined_held bytes (c.at + offset) key (joined ks) h.1 (moved (omega arith) rest)

-- a key's entry lies within the entries
pub key_entry_inside : (bytes : List ℕ) (c : Container) (k : ℕ) → c.is_object ≡ true → IsFrame bytes c (length bytes) → k < count bytes c → key_entry c k + key_width c.form ≤ length bytes
key_entry_inside bytes c k object framed low =
    let first = key_within c k (count bytes c) low in
    let all : entries_end bytes c ≡ key_entry c (count bytes c) + count bytes c * value_width c.form = ap (λ b. cond b (key_entry c (count bytes c)) (header_end c) + count bytes c * value_width c.form) object in
    let a = framed.1 in
    let b = framed.2 in
    omega (arith, first, all, a, b)

-- and so do those of all keys
pub key_entries_inside : (bytes : List ℕ) (c : Container) → c.is_object ≡ true → IsFrame bytes c (length bytes) → key_entry c (0 + count bytes c) ≤ length bytes
key_entries_inside bytes c object framed =
    let all : entries_end bytes c ≡ key_entry c (count bytes c) + count bytes c * value_width c.form = ap (λ b. cond b (key_entry c (count bytes c)) (header_end c) + count bytes c * value_width c.form) object in
    let z : 0 + count bytes c ≡ count bytes c = omega arith in
    let a = framed.1 in
    let b = framed.2 in
    subst (λ n. key_entry c n ≤ length bytes) (sym z) (omega (arith, all, a, b))

-- a container's keys, where all are looked at
pub keys_found : (bytes : List ℕ) (c : Container) (k offset at : ℕ) (ks : List (List ℕ)) → c.is_object ≡ true → IsFrame bytes c (length bytes) → length ks ≡ count bytes c → length ks ≤ k
    → (AreKeysFrom bytes c k at (drop k ks) → AreKeysFrom bytes c 0 offset ks) → at + length (joined (drop k ks)) ≡ offset + length (joined ks) → c.at + at ≤ end bytes c → AreKeysAt bytes c offset ks (at - offset)
keys_found bytes c k offset at ks object framed n past so_far total inside =
    let none = no_keys_left k ks past in
    let all = so_far (subst (AreKeysFrom bytes c k at) (sym none) tt) in
    let sum : at + 0 ≡ offset + length (joined ks) = subst (λ l. at + length (joined l) ≡ offset + length (joined ks)) none total in
    let top = framed.1 in
    record {
      entries = key_entries_held bytes c 0 offset ks (subst (λ m. key_entry c (0 + m) ≤ length bytes) (sym n) (key_entries_inside bytes c object framed)) all;
      letters = letters_held bytes c 0 offset ks (omega (arith, sum, inside, top)) all;
      size = omega (arith, sum);
    }

-- no keys stand anywhere within
pub no_keys_found : (bytes : List ℕ) (c : Container) (offset : ℕ) (ks : List (List ℕ)) → ks ≡ [] → IsFrame bytes c (length bytes) → c.at + offset ≤ end bytes c → AreKeysAt bytes c offset ks 0
no_keys_found bytes c offset ks none framed inside =
    let head = framed.0 in
    let top = framed.1 in
    subst (λ ks. AreKeysAt bytes c offset ks 0) (sym none) (record {
      entries = empty_held bytes (key_entry c 0) (omega (arith, head));
      letters = empty_held bytes (c.at + offset) (omega (arith, inside, top));
      size = refl;
    })
