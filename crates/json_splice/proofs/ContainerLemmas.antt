-- A container that stands canonically, from its parts.
use Rattle.std.proofs.Common.{◌≡◌, ℕ, ◌+◌, ◌-◌, ◌*◌, ◌^◌, ◌≤◌, ◌<◌, Bool, true, false, ℤ, List, [], ◌∷◌, ◌++◌, length, map, Some, None, IsSomeAnd, refl, sym, ap, subst, ◌∙◌, arith, cond}
use Rattle.std.proofs.lemmas.Bool.{le-leb, lt-leb}
use Rattle.std.proofs.lemmas.List.{length-map}
use Rattle.byteorder.specs.Numbers.{length-bytes_low_first}
use Rattle.tree_model.specs.Tree.{Tree, null, boolean, number, text, array, object, Trees, tree_list, Members, no_members, member, member_list, depth}
use Rattle.binary_model.specs.Layout.{Form, small, large, word, Kind, literal, signed, unsigned, string, other, object_in, array_in, key_width, value_width, number_at, Spot, kind_at, Container, container_as, container_at, count, header_end, key_entry, value_entry, entries_end, values_floor}
use Rattle.binary_model.specs.Stands.{truth_byte, IsBytes, IsFrame, IsLiteral, IsNumberAs, IsText, IsValue, AreKeys, AreElements, HoldValues}
use Rattle.binary_model.specs.Canonical.{Spelling, low_bytes, measured, all_behind, value_entries, values_behind, key_entries, joined, entries_size, size_in, form_for, header, array_bytes, spelling, spellings, member_spellings, keys}
use Rattle.binary_model.specs.Place.{Holds}
use Rattle.binary_model.proofs.canonical.LengthLemmas.{length-header, length-value_entries, length-key_entries, length-array_bytes, length-object_bytes, fit_trees}
use Rattle.binary_model.proofs.canonical.CanonicalLemmas.{moved}
use Rattle.binary_model.proofs.reading.StandLemmas.{values, values_depth, values_stand, values_length}
use Rattle.binary_model.proofs.in_place.ReplaceLemmas.{number_low}
use Rattle.binary_model.proofs.in_place.AgreeLemmas.{some_is}
use Rattle.json_splice.specs.Spelled.{IsSpelledAt, IsNumberAt, IsTextAt, AreValuesAt, AreKeysAt, HasKeys, NamesKeys, HoldsTrees, container_bytes, container_in, container_spelling, IsContainerAt}
use Rattle.json_splice.specs.declared.canonical.Behind.{Behind}
use Rattle.json_splice.proofs.HeldLemmas.{joined_held, one_held}
use Rattle.json_splice.proofs.WordLemmas.{number_holds}
use Rattle.json_splice.proofs.ValuesLemmas.{spellings_length}

-- ---- lengths

-- what the entries of an object's keys take
keys_wide : (bytes : List ℕ) (c : Container) (offset : ℕ) (ks : List (List ℕ)) (b : Bool) → HasKeys bytes c ks b → length (key_entries c.form offset ks) ≡ cond b (count bytes c * key_width c.form) 0
keys_wide bytes c offset ks true h = length-key_entries c.form offset ks ∙ ap (λ n. n * key_width c.form) h.0
keys_wide bytes c offset ks false h = ap (λ ks. length (key_entries c.form offset ks)) h

values_wide : (bytes : List ℕ) (c : Container) (b : Bool) → cond b (key_entry c (count bytes c)) (header_end c) ≡ header_end c + cond b (count bytes c * key_width c.form) 0
values_wide bytes c true = refl
values_wide bytes c false = omega arith

-- ---- the form

-- the form that a container has to have is the one that it is in
form_is : (b : Bool) (n : ℕ) (vs : List Spelling) (f : Form) → (f ≡ small → size_in b n (map measured vs) small ≤ 65535) → (f ≡ large → 65535 < size_in b n (map measured vs) small) → f ≡ form_for b n (map measured vs)
form_is b n vs small low high = sym (ap (λ c. cond c small large) (le-leb (size_in b n (map measured vs) small) 65535 (low refl)))
form_is b n vs large low high = sym (ap (λ c. cond c small large) (lt-leb (size_in b n (map measured vs) small) 65535 (high refl)))

-- ---- the whole

module _ (bytes : List ℕ) (c : Container) (ks : List (List ℕ)) (ts : Trees) (nesting E K : ℕ) (b : Behind) where
  pub container_held : IsBytes bytes → IsFrame bytes c (length bytes) → NamesKeys bytes c ks → HoldsTrees bytes c nesting ts
      → E ≡ entries_size c.form c.is_object (count bytes c) → AreKeysAt bytes c E ks K → AreValuesAt bytes c (E + K) (spellings ts) b
      → (c.form ≡ large → 65535 < entries_size small c.is_object (count bytes c) + K + b.small) → IsContainerAt bytes c ks (spellings ts) b.end
  container_held octets framed names holds entries key_side value_side wide =
      let f = c.form in
      let o = c.is_object in
      let vs = spellings ts in
      let ms = map measured vs in
      let n : length vs ≡ count bytes c = spellings_length ts ∙ holds.number in
      let m : length ms ≡ count bytes c = length-map vs measured ∙ n in
      let joined_is = key_side.size in
      let value_end = value_side.end in
      let size_is : size_in o (length (joined ks)) ms f ≡ b.end = (λ i. entries_size f o (m i) + joined_is i + all_behind f ms) ∙ ap (λ e. e + K + all_behind f ms) (sym entries) ∙ value_end in
      let small_is : size_in o (length (joined ks)) ms small ≡ entries_size small o (count bytes c) + K + b.small = (λ i. entries_size small o (m i) + joined_is i + all_behind small ms) ∙ ap (λ x. entries_size small o (count bytes c) + K + x) value_side.small in
      let number_is : number_at bytes (word f) (c.at + word f) ≡ b.end = (let whole = value_side.whole in omega (arith, whole)) in
      let head = framed.0 in
      let a = number_holds bytes (word f) c.at octets (omega (arith, head)) in
      let z = number_holds bytes (word f) (c.at + word f) octets (omega (arith, head)) in
      let first : Holds bytes c.at (low_bytes (word f) (length vs)) = subst (λ x. Holds bytes c.at (low_bytes (word f) x)) (sym n) a in
      let second : Holds bytes (c.at + word f) (low_bytes (word f) (size_in o (length (joined ks)) ms f)) = subst (λ x. Holds bytes (c.at + word f) (low_bytes (word f) x)) (number_is ∙ sym size_is) z in
      let w = length-bytes_low_first 0 (word f) (length vs) in
      let head_is : Holds bytes c.at (header f (length vs) (size_in o (length (joined ks)) ms f)) = joined_held bytes c.at (low_bytes (word f) (length vs)) (low_bytes (word f) (size_in o (length (joined ks)) ms f)) first (moved (omega (arith, w)) second) in
      let hl = length-header f (length vs) (size_in o (length (joined ks)) ms f) in
      let E' = entries_size f o (length vs) in
      let same : E ≡ E' = entries ∙ ap (entries_size f o) (sym n) in
      let same_offset : E + K ≡ E' + length (joined ks) = (λ i. same i + sym joined_is i) in
      let key_held : Holds bytes (key_entry c 0) (key_entries f E' ks) = subst (λ e. Holds bytes (key_entry c 0) (key_entries f e ks)) same key_side.entries in
      let value_held : Holds bytes (value_entry bytes c 0) (value_entries f (E' + length (joined ks)) vs) = subst (λ e. Holds bytes (value_entry bytes c 0) (value_entries f e vs)) same_offset value_side.entries in
      let kl = keys_wide bytes c E' ks o names in
      let vl : length (value_entries f (E' + length (joined ks)) vs) ≡ count bytes c * value_width f = length-value_entries f (E' + length (joined ks)) vs (fit_trees ts) ∙ ap (λ x. x * value_width f) n in
      let vw = values_wide bytes c o in
      let letters_and : Holds bytes (c.at + E) (joined ks ++ values_behind f vs) = joined_held bytes (c.at + E) (joined ks) (values_behind f vs) key_side.letters (moved (omega (arith, joined_is)) value_side.values) in
      let from_values = joined_held bytes (value_entry bytes c 0) (value_entries f (E' + length (joined ks)) vs) (joined ks ++ values_behind f vs) value_held (moved (omega (arith, vl, vw, entries)) letters_and) in
      let from_keys = joined_held bytes (key_entry c 0) (key_entries f E' ks) (value_entries f (E' + length (joined ks)) vs ++ (joined ks ++ values_behind f vs)) key_held (moved (omega (arith, kl, vw)) from_values) in
      record {
        form = form_is o (length (joined ks)) vs f
            (λ e. let low = number_low bytes (word f) (c.at + word f) octets in let top : 256 ^ word f ≡ 65536 = ap (λ f. 256 ^ word f) e in let s : size_in o (length (joined ks)) ms small ≡ b.end = ap (size_in o (length (joined ks)) ms) (sym e) ∙ size_is in omega (arith, low, top, s, number_is))
            (λ e. let h = wide e in omega (arith, h, small_is));
        size = size_is;
        held = joined_held bytes c.at (header f (length vs) (size_in o (length (joined ks)) ms f)) _ head_is (moved (omega (arith, hl)) from_keys);
      }

-- ---- values at a spot

module _ (bytes : List ℕ) (s : Spot) where
  no_array : (ts : Trees) (kind : Kind) → kind_at bytes s.type_at ≡ kind → container_as kind s.at ≡ None → IsValue bytes (array ts) s → ⊥
  no_array ts kind e n v = subst (λ o. IsSomeAnd o (λ c. (c.is_object ≡ false) × IsFrame bytes c s.limit × (count bytes c ≡ length (tree_list ts)) × AreElements bytes c 0 (entries_end bytes c) ts)) (ap (λ k. container_as k s.at) e ∙ n) v

  no_object : (ms : Members) (kind : Kind) → kind_at bytes s.type_at ≡ kind → container_as kind s.at ≡ None → IsValue bytes (object ms) s → ⊥
  no_object ms kind e n v = subst (λ o. IsSomeAnd o (λ c. (c.is_object ≡ true) × IsFrame bytes c s.limit × (count bytes c ≡ length (member_list ms)) × AreKeys bytes c 0 (entries_end bytes c) (map (λ m. m.0) (member_list ms))
      × HoldValues bytes c 0 (values_floor bytes c) ms)) (ap (λ k. container_as k s.at) e ∙ n) v

  literal_at : (t : Tree) (b : ℕ) → spelling t ≡ (literal, b ∷ []) → IsLiteral bytes b s → s.limit ≤ length bytes → IsSpelledAt bytes t s 1
  literal_at t b e v inside =
      let low = v.1 in
      let at : s.at < length bytes = omega (arith, low, inside) in
      record {
        kind = v.0 ∙ sym (ap (λ x. x.0) e);
        size = ap (λ x. length x.1) e;
        held = subst (λ x. Holds bytes s.at x.1) (sym e) (one_held bytes s.at b at v.2);
      }

  -- a literal that stands is canonical
  pub literal_spelled : (t : Tree) → kind_at bytes s.type_at ≡ literal → IsValue bytes t s → s.limit ≤ length bytes → IsSpelledAt bytes t s 1
  literal_spelled null e v inside = literal_at null 0 refl v inside
  literal_spelled (boolean b) e v inside = literal_at (boolean b) (truth_byte b) refl v inside
  literal_spelled (number z) e v inside = absurd (subst (λ k. IsNumberAs k bytes z s) e v)
  literal_spelled (text letters) e v inside = let k = v.0 in let no : ⊥ = cc in absurd no
  literal_spelled (array ts) e v inside = absurd (no_array ts literal e refl v)
  literal_spelled (object ms) e v inside = absurd (no_object ms literal e refl v)

  -- what is a number is canonical where its bytes are
  pub number_spelled : (k : Kind) (t : Tree) (n : ℕ) → kind_at bytes s.type_at ≡ k → container_as k s.at ≡ None → (k ≡ literal → ⊥) → (k ≡ string → ⊥) → IsValue bytes t s → ((z : ℤ) → IsNumberAs k bytes z s → IsNumberAt bytes k z s.at n) → IsSpelledAt bytes t s n
  number_spelled k null n e alone apart words v found = absurd (apart (sym e ∙ v.0))
  number_spelled k (boolean b) n e alone apart words v found = absurd (apart (sym e ∙ v.0))
  number_spelled k (number z) n e alone apart words v found = let h = found z (subst (λ k. IsNumberAs k bytes z s) e v) in record { kind = e ∙ sym h.kind; size = h.size; held = h.held }
  number_spelled k (text letters) n e alone apart words v found = absurd (words (sym e ∙ v.0))
  number_spelled k (array ts) n e alone apart words v found = absurd (no_array ts k e alone v)
  number_spelled k (object ms) n e alone apart words v found = absurd (no_object ms k e alone v)

  -- and what is a text
  pub text_spelled : (t : Tree) (n : ℕ) → kind_at bytes s.type_at ≡ string → IsValue bytes t s → ((letters : List ℕ) → IsText bytes letters s → IsTextAt bytes letters s.at n) → IsSpelledAt bytes t s n
  text_spelled null n e v found = let k = v.0 in let no : ⊥ = cc in absurd no
  text_spelled (boolean b) n e v found = let k = v.0 in let no : ⊥ = cc in absurd no
  text_spelled (number z) n e v found = absurd (subst (λ k. IsNumberAs k bytes z s) e v)
  text_spelled (text letters) n e v found = let h = found letters v in record { kind = e; size = h.size; held = h.held }
  text_spelled (array ts) n e v found = absurd (no_array ts string e refl v)
  text_spelled (object ms) n e v found = absurd (no_object ms string e refl v)

-- ---- a container at a spot

kind_of_container : (k : Kind) (at : ℕ) (c : Container) → container_as k at ≡ Some c → (k ≡ container_in c.is_object c.form) × (c.at ≡ at)
kind_of_container (object_in f) at c e = let is = some_is e in (ap (λ d. container_in d.is_object d.form) is, sym (ap (λ d. d.at) is))
kind_of_container (array_in f) at c e = let is = some_is e in (ap (λ d. container_in d.is_object d.form) is, sym (ap (λ d. d.at) is))
kind_of_container literal at c e = let no : ⊥ = cc in absurd no
kind_of_container (signed w) at c e = let no : ⊥ = cc in absurd no
kind_of_container (unsigned w) at c e = let no : ⊥ = cc in absurd no
kind_of_container string at c e = let no : ⊥ = cc in absurd no
kind_of_container other at c e = let no : ⊥ = cc in absurd no

-- a value that is a container is no literal
pub no_literal : (bytes : List ℕ) (s : Spot) (c : Container) (b : ℕ) → container_at bytes s ≡ Some c → IsLiteral bytes b s → ⊥
no_literal bytes s c b e v = let k = sym e ∙ ap (λ k. container_as k s.at) v.0 in let no : ⊥ = cc in no

-- and no number
pub no_number : (k : Kind) (bytes : List ℕ) (z : ℤ) (s : Spot) (c : Container) → container_as k s.at ≡ Some c → IsNumberAs k bytes z s → ⊥
no_number (signed w) bytes z s c e v = let no : ⊥ = cc in no
no_number (unsigned w) bytes z s c e v = let no : ⊥ = cc in no
no_number kind bytes z s c e v = v

-- an object has as many keys as values, an array none
abbrev HasMany : Bool → List (List ℕ) → Trees → Type 0
HasMany true ks ts = length ks ≡ length (tree_list ts)
HasMany false ks ts = ks ≡ []

-- ---- spellings of containers

pub spelled_values : (ms : Members) → spellings (values ms) ≡ member_spellings ms
spelled_values no_members = refl
spelled_values (member l t ms) = ap (λ vs. spelling t ∷ vs) (spelled_values ms)

keys_are : (ms : Members) → map (λ m. m.0) (member_list ms) ≡ keys ms
keys_are no_members = refl
keys_are (member l t ms) = ap (λ ks. l ∷ ks) (keys_are ms)

-- an array's bytes are a container's without keys
array_is : (form : Form) (vs : List Spelling) → container_bytes false form [] vs ≡ array_bytes form vs
array_is form vs =
    let e : entries_size form false (length vs) + 0 ≡ entries_size form false (length vs) = omega arith in
    ap (λ o. header form (length vs) (size_in false 0 (map measured vs) form) ++ (value_entries form o vs ++ values_behind form vs)) e

-- an array's spelling is a container's without keys
pub array_spelled : (ts : Trees) → spelling (array ts) ≡ container_spelling false [] (spellings ts)
array_spelled ts = let f = form_for false 0 (map measured (spellings ts)) in ap (λ xs. (array_in f, xs)) (sym (array_is f (spellings ts)))

-- and an object's one with its keys
pub object_spelled : (ms : Members) → spelling (object ms) ≡ container_spelling true (map (λ m. m.0) (member_list ms)) (spellings (values ms))
object_spelled ms = (λ i. container_spelling true (sym (keys_are ms) i) (sym (spelled_values ms) i))

container_length : (b : Bool) (form : Form) (ks : List (List ℕ)) (ts : Trees) → HasMany b ks ts → length (container_bytes b form ks (spellings ts)) ≡ size_in b (length (joined ks)) (map measured (spellings ts)) form
container_length true form ks ts h = length-object_bytes form ks (spellings ts) (h ∙ sym (spellings_length ts)) (fit_trees ts)
container_length false form ks ts h =
    subst (λ ks. length (container_bytes false form ks (spellings ts)) ≡ size_in false (length (joined ks)) (map measured (spellings ts)) form) (sym h) (ap length (array_is form (spellings ts)) ∙ length-array_bytes form (spellings ts) (fit_trees ts))

-- a container that stands canonically is the spelling of its tree
spelled_at : (bytes : List ℕ) (s : Spot) (c : Container) (t : Tree) (ks : List (List ℕ)) (ts : Trees) (n : ℕ) → container_at bytes s ≡ Some c → HasMany c.is_object ks ts
    → spelling t ≡ container_spelling c.is_object ks (spellings ts) → IsContainerAt bytes c ks (spellings ts) n → IsSpelledAt bytes t s n
spelled_at bytes s c t ks ts n e many is h =
    let k = kind_of_container (kind_at bytes s.type_at) s.at c e in
    let form = h.form in
    let whole : spelling t ≡ (container_in c.is_object c.form, container_bytes c.is_object c.form ks (spellings ts)) = is ∙ ap (λ f. (container_in c.is_object f, container_bytes c.is_object f ks (spellings ts))) (sym form) in
    record {
      kind = k.0 ∙ sym (ap (λ v. v.0) whole);
      size = ap (λ v. length v.1) whole ∙ container_length c.is_object c.form ks ts many ∙ h.size;
      held = subst (λ v. Holds bytes s.at v.1) (sym whole) (moved k.1 h.held);
    }

-- what is found of a container's keys and values is found of the value at its spot
pub container_spelled : (bytes : List ℕ) (s : Spot) (c : Container) (t : Tree) (nesting n : ℕ) → container_at bytes s ≡ Some c → IsValue bytes t s → depth t ≤ nesting
    → ((ks : List (List ℕ)) (ts : Trees) → NamesKeys bytes c ks → HoldsTrees bytes c (nesting - 1) ts → IsContainerAt bytes c ks (spellings ts) n) → IsSpelledAt bytes t s n
container_spelled bytes s c null nesting n e v deep found = absurd (no_literal bytes s c 0 e v)
container_spelled bytes s c (boolean b) nesting n e v deep found = absurd (no_literal bytes s c (truth_byte b) e v)
container_spelled bytes s c (number z) nesting n e v deep found = absurd (no_number (kind_at bytes s.type_at) bytes z s c e v)
container_spelled bytes s c (text letters) nesting n e v deep found = let k = v.0 in let no = sym e ∙ ap (λ k. container_as k s.at) k in let bad : ⊥ = cc in absurd bad
container_spelled bytes s c (array ts) nesting n e v deep found =
    let p = subst (λ o. IsSomeAnd o (λ c. (c.is_object ≡ false) × IsFrame bytes c s.limit × (count bytes c ≡ length (tree_list ts)) × AreElements bytes c 0 (entries_end bytes c) ts)) e v in
    let h = found [] ts (subst (HasKeys bytes c []) (sym p.0) refl) (record { floor = entries_end bytes c; elements = p.3; number = sym p.2; shallow = omega (arith, deep) }) in
    spelled_at bytes s c (array ts) [] ts n e (subst (λ b. HasMany b [] ts) (sym p.0) refl) (array_spelled ts ∙ ap (λ b. container_spelling b [] (spellings ts)) (sym p.0)) h
container_spelled bytes s c (object ms) nesting n e v deep found =
    let p = subst (λ o. IsSomeAnd o (λ c. (c.is_object ≡ true) × IsFrame bytes c s.limit × (count bytes c ≡ length (member_list ms)) × AreKeys bytes c 0 (entries_end bytes c) (map (λ m. m.0) (member_list ms))
    × HoldValues bytes c 0 (values_floor bytes c) ms)) e v in
    let ks = map (λ m. m.0) (member_list ms) in
    let low = values_depth ms in
    let many = length-map (member_list ms) (λ m. m.0) in
    let number : length (tree_list (values ms)) ≡ count bytes c = sym (values_length ms) ∙ sym p.2 in
    let h = found ks (values ms) (subst (HasKeys bytes c ks) (sym p.0) (many ∙ sym p.2, (entries_end bytes c, p.3)))
    (record { floor = values_floor bytes c; elements = values_stand bytes c 0 (values_floor bytes c) ms p.4; number = number; shallow = omega (arith, deep, low) }) in
    spelled_at bytes s c (object ms) ks (values ms) n e (subst (λ b. HasMany b ks (values ms)) (sym p.0) (many ∙ values_length ms)) (object_spelled ms ∙ ap (λ b. container_spelling b ks (spellings (values ms))) (sym p.0)) h
