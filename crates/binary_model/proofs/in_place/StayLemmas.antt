-- A value that stands in place stands in other bytes too, where these agree on its type byte and on its own bytes.
use Rattle.std.proofs.Common.{◌≡◌, ℕ, suc, ◌+◌, ◌*◌, ◌≤◌, ◌<◌, ℤ, Bool, true, false, List, length, slice_index, slice_range, Option, Some, None, refl, sym, ap, subst, ◌∙◌, arith, cond, IsSomeAnd}
use Rattle.std.specs.Option.{option_map}
use Rattle.std.specs.Prelude.{unwrap_or}
use Rattle.std.proofs.lemmas.Bool.{leb-true}
use Rattle.tree_model.specs.Tree.{Tree, null, boolean, number, text, array, object, Trees, no_trees, tree}
use Rattle.binary_model.specs.Layout.{Form, small, large, word, Kind, signed, unsigned, string, object_in, array_in, kind_of, is_inlined, Spot, kind_at, number_at, text_range, Container, container_as, count, end, header_end, key_entry, entries_end, value_entry, inlined, child, value_end, end_as, value_width}
use Rattle.binary_model.specs.Stands.{truth_byte, signed_of, IsLiteral, IsNumberAs, IsText, IsFrame, IsValue}
use Rattle.binary_model.proofs.in_place.AgreeLemmas.{Agree, Same, same_part, same_agree, agree_first, number_agrees, range_same, text_again}

-- ---- where a value ends

abbrev pub Bounds : List ℕ → Kind → Spot → Type 0
Bounds bytes kind s = (s.at ≤ end_as bytes kind s) × (end_as bytes kind s ≤ s.limit)

number_bounds : (bytes : List ℕ) (z : ℤ) (s : Spot) (kind : Kind) → IsNumberAs kind bytes z s → Bounds bytes kind s
number_bounds bytes z s (signed width) h = (omega arith, h.0)
number_bounds bytes z s (unsigned width) h = (omega arith, h.0)
number_bounds bytes z s kind h = absurd h

literal_bounds : (bytes : List ℕ) (b : ℕ) (s : Spot) → IsLiteral bytes b s → Bounds bytes (kind_at bytes s.type_at) s
literal_bounds bytes b s h = subst (λ k. Bounds bytes k s) (sym h.0) (omega arith, h.1)

letters_bounds : (bytes letters : List ℕ) (s : Spot) (o : Option (ℕ × ℕ)) → text_range bytes s.at s.limit ≡ o → IsSomeAnd o (λ r. slice_range bytes r.0 r.1 ≡ letters)
    → (s.at ≤ unwrap_or (option_map (λ r. r.1) o) s.at) × (unwrap_or (option_map (λ r. r.1) o) s.at ≤ s.limit)
letters_bounds bytes letters s None e h = absurd h
letters_bounds bytes letters s (Some r) e h = let b = text_again bytes bytes s.at s.limit r e refl (λ i low high. refl) in (b.1, b.2)

text_bounds : (bytes letters : List ℕ) (s : Spot) → IsText bytes letters s → Bounds bytes (kind_at bytes s.type_at) s
text_bounds bytes letters s h = subst (λ k. Bounds bytes k s) (sym h.0) (letters_bounds bytes letters s (text_range bytes s.at s.limit) refl h.1)

pub header_first : (bytes : List ℕ) (c : Container) → header_end c ≤ entries_end bytes c
header_first bytes c = go c.is_object
  where
    go : (b : Bool) → header_end c ≤ cond b (key_entry c (count bytes c)) (header_end c) + count bytes c * value_width c.form
    go true = omega arith
    go false = omega arith

container_bounds : (bytes : List ℕ) (P : Container → Type 0) (s : Spot) (kind : Kind) → ((c : Container) → P c → IsFrame bytes c s.limit) → IsSomeAnd (container_as kind s.at) P → Bounds bytes kind s
container_bounds bytes P s (array_in form) f h = let p = f (record { form = form; is_object = false; at = s.at }) h in (omega arith, p.1)
container_bounds bytes P s (object_in form) f h = let p = f (record { form = form; is_object = true; at = s.at }) h in (omega arith, p.1)
container_bounds bytes P s kind f h = absurd h

-- a value ends at or behind its place, within its limit
pub bounds : (bytes : List ℕ) (t : Tree) (s : Spot) → IsValue bytes t s → Bounds bytes (kind_at bytes s.type_at) s
bounds bytes null s h = literal_bounds bytes 0 s h
bounds bytes (boolean b) s h = literal_bounds bytes (truth_byte b) s h
bounds bytes (number z) s h = number_bounds bytes z s (kind_at bytes s.type_at) h
bounds bytes (text letters) s h = text_bounds bytes letters s h
bounds bytes (array ts) s h = container_bounds bytes _ s (kind_at bytes s.type_at) (λ c p. p.1) h
bounds bytes (object ms) s h = container_bounds bytes _ s (kind_at bytes s.type_at) (λ c p. p.1) h

-- ---- scalars

-- a value in place whose type byte stands elsewhere
abbrev pub typed_at : Spot → ℕ → Spot
typed_at s type_at = record { type_at = type_at; at = s.at; limit = s.limit }

-- a tree stays where the bytes agree on its extent, whatever the place of its type byte
abbrev pub Stays : Tree → Type 0
Stays t = (xs ys : List ℕ) (s : Spot) (type_at : ℕ) → length xs ≡ length ys → kind_at ys type_at ≡ kind_at xs s.type_at → Same xs ys s.at (value_end xs s) → IsValue xs t s
    → IsValue ys t (typed_at s type_at) × (value_end ys (typed_at s type_at) ≡ value_end xs s)

-- each of several values stands in bytes that agree on its own
abbrev pub AllStay : Trees → Type 0
AllStay no_trees = Unit {0}
AllStay (tree t ts) = Stays t × AllStay ts

-- a literal does
pub literal_stays : (b : ℕ) (xs ys : List ℕ) (s : Spot) (type_at : ℕ) → kind_at ys type_at ≡ kind_at xs s.type_at → Same xs ys s.at (value_end xs s) → IsLiteral xs b s
    → IsLiteral ys b (typed_at s type_at) × (value_end ys (typed_at s type_at) ≡ value_end xs s)
literal_stays b xs ys s type_at k same h =
    let ends : value_end xs s ≡ suc s.at = ap (λ k. end_as xs k s) h.0 in
    ((k ∙ h.0, h.1, sym (same s.at (omega arith) (omega (arith, ends))) ∙ h.2), ap (λ k. end_as ys k (typed_at s type_at)) (k ∙ h.0) ∙ sym ends)

-- a number
pub number_stays : (xs ys : List ℕ) (z : ℤ) (s : Spot) (type_at : ℕ) (kind : Kind) → Same xs ys s.at (end_as xs kind s) → IsNumberAs kind xs z s
    → IsNumberAs kind ys z (typed_at s type_at) × (end_as ys kind (typed_at s type_at) ≡ end_as xs kind s)
number_stays xs ys z s type_at (signed width) same h =
    ((h.0, ap (signed_of (8 * width)) (sym (number_agrees xs ys s.at s.at width (same_agree xs ys s.at (s.at + width) s.at width same (omega arith) (omega arith)))) ∙ h.1), refl)
number_stays xs ys z s type_at (unsigned width) same h =
    ((h.0, ap ℤ.pos (sym (number_agrees xs ys s.at s.at width (same_agree xs ys s.at (s.at + width) s.at width same (omega arith) (omega arith)))) ∙ h.1), refl)
number_stays xs ys z s type_at kind same h = absurd h

letters_stay : (xs ys letters : List ℕ) (s : Spot) (o : Option (ℕ × ℕ)) → text_range xs s.at s.limit ≡ o → length xs ≡ length ys → Same xs ys s.at (unwrap_or (option_map (λ r. r.1) o) s.at)
    → IsSomeAnd o (λ r. slice_range xs r.0 r.1 ≡ letters)
    → IsSomeAnd (text_range ys s.at s.limit) (λ r. slice_range ys r.0 r.1 ≡ letters) × (text_range ys s.at s.limit ≡ o)
letters_stay xs ys letters s None e l same h = absurd h
letters_stay xs ys letters s (Some r) e l same h =
    let again = text_again xs ys s.at s.limit r e l same in
    let above = again.3 in
    let there : slice_range ys r.0 r.1 ≡ letters = sym (range_same xs ys r.0 r.1 l (same_part xs ys s.at r.1 r.0 r.1 same above (omega arith))) ∙ h in
    (subst (λ o. IsSomeAnd o (λ r. slice_range ys r.0 r.1 ≡ letters)) (sym again.0) there, again.0)

-- and a text
pub text_stays : (letters : List ℕ) → Stays (text letters)
text_stays letters xs ys s type_at l k same h =
    let ends : value_end xs s ≡ unwrap_or (option_map (λ r. r.1) (text_range xs s.at s.limit)) s.at = ap (λ k. end_as xs k s) h.0 in
    let there = letters_stay xs ys letters s (text_range xs s.at s.limit) refl l (subst (Same xs ys s.at) ends same) h.1 in
    ((k ∙ h.0, there.0), ap (λ k. end_as ys k (typed_at s type_at)) (k ∙ h.0) ∙ ap (λ o. unwrap_or (option_map (λ r. r.1) o) s.at) there.1 ∙ sym ends)

-- ---- an entry that moved, with the bytes of an inlined value

-- the j-th entry stands as the l-th in other bytes
abbrev pub EntryMoved : List ℕ → List ℕ → Container → ℕ → ℕ → Type 0
EntryMoved xs ys c j l = (value_entry ys c l ≤ value_entry xs c j) × Agree xs (value_entry xs c j) ys (value_entry ys c l) (value_width c.form)

-- then its type is the same
pub kind_moved : (xs ys : List ℕ) (c : Container) (j l : ℕ) → EntryMoved xs ys c j l → kind_at ys (value_entry ys c l) ≡ kind_at xs (value_entry xs c j)
kind_moved xs ys c j l e = ap kind_of (sym (agree_first xs ys (value_entry xs c j) (value_entry ys c l) (value_width c.form) e.1 (omega arith)))

number_moves : (xs ys : List ℕ) (form : Form) (z : ℤ) (s u : Spot) (kind : Kind) → is_inlined form kind ≡ true → u.at ≤ s.at → u.limit ≡ s.limit → Agree xs s.at ys u.at (word form) → IsNumberAs kind xs z s → IsNumberAs kind ys z u
number_moves xs ys form z s u (signed width) e low w a h =
    let fits = leb-true width (word form) e in
    let inside = h.0 in
    (omega (arith, low, w, inside), ap (signed_of (8 * width)) (sym (number_agrees xs ys s.at u.at width (λ i below. a i (omega (arith, fits, below))))) ∙ h.1)
number_moves xs ys form z s u (unsigned width) e low w a h =
    let fits = leb-true width (word form) e in
    let inside = h.0 in
    (omega (arith, low, w, inside), ap ℤ.pos (sym (number_agrees xs ys s.at u.at width (λ i below. a i (omega (arith, fits, below))))) ∙ h.1)
number_moves xs ys form z s u kind e low w a h = absurd h

literal_moves : (xs ys : List ℕ) (form : Form) (b : ℕ) (s u : Spot) → kind_at ys u.type_at ≡ kind_at xs s.type_at → u.at ≤ s.at → u.limit ≡ s.limit → Agree xs s.at ys u.at (word form) → IsLiteral xs b s → IsLiteral ys b u
literal_moves xs ys form b s u k low w a h =
    let inside = h.1 in
    (k ∙ h.0, omega (arith, low, w, inside), sym (agree_first xs ys s.at u.at (word form) a (some_word form)) ∙ h.2)
  where
    some_word : (form : Form) → 0 < word form
    some_word small = omega arith
    some_word large = omega arith

not_inlined : (form : Form) (kind : Kind) (at : ℕ) (P : Container → Type 0) → is_inlined form kind ≡ true → IsSomeAnd (container_as kind at) P → ⊥
not_inlined form (array_in f) at P e h = cc
not_inlined form (object_in f) at P e h = cc
not_inlined form kind at P e h = absurd h

not_text : (form : Form) (kind : Kind) → is_inlined form kind ≡ true → kind ≡ string → ⊥
not_text form kind e h = let f : is_inlined form string ≡ true = ap (is_inlined form) (sym h) ∙ e in cc

-- an inlined value moves with its entry
scalar_moves : (t : Tree) (xs ys : List ℕ) (form : Form) (s u : Spot) → is_inlined form (kind_at xs s.type_at) ≡ true → kind_at ys u.type_at ≡ kind_at xs s.type_at → u.at ≤ s.at → u.limit ≡ s.limit
    → Agree xs s.at ys u.at (word form) → IsValue xs t s → IsValue ys t u
scalar_moves null xs ys form s u e k low w a h = literal_moves xs ys form 0 s u k low w a h
scalar_moves (boolean b) xs ys form s u e k low w a h = literal_moves xs ys form (truth_byte b) s u k low w a h
scalar_moves (number z) xs ys form s u e k low w a h = subst (λ k. IsNumberAs k ys z u) (sym k) (number_moves xs ys form z s u (kind_at xs s.type_at) e low w a h)
scalar_moves (text letters) xs ys form s u e k low w a h = absurd (not_text form (kind_at xs s.type_at) e h.0)
scalar_moves (array ts) xs ys form s u e k low w a h = absurd (not_inlined form (kind_at xs s.type_at) s.at _ e h)
scalar_moves (object ms) xs ys form s u e k low w a h = absurd (not_inlined form (kind_at xs s.type_at) s.at _ e h)

-- ---- one value of a container, in other bytes at another number

-- a value in its entry
abbrev pub inlined_spot : List ℕ → Container → ℕ → Spot
inlined_spot bytes c k = record { type_at = value_entry bytes c k; at = suc (value_entry bytes c k); limit = end bytes c }

abbrev pub outside_spot : List ℕ → Container → ℕ → Spot
outside_spot bytes c k = record { type_at = value_entry bytes c k; at = c.at + number_at bytes (word c.form) (suc (value_entry bytes c k)); limit = end bytes c }

-- an inlined child is one
pub child_inlined : (bytes : List ℕ) (c : Container) (k : ℕ) → inlined bytes c k ≡ true → child bytes c k ≡ inlined_spot bytes c k
child_inlined bytes c k e = ap (λ b. record { type_at = value_entry bytes c k; at = cond b (suc (value_entry bytes c k)) (c.at + number_at bytes (word c.form) (suc (value_entry bytes c k))); limit = end bytes c }) e

-- and each other stands at its offset
pub child_outside : (bytes : List ℕ) (c : Container) (k : ℕ) → inlined bytes c k ≡ false → child bytes c k ≡ outside_spot bytes c k
child_outside bytes c k e = ap (λ b. record { type_at = value_entry bytes c k; at = cond b (suc (value_entry bytes c k)) (c.at + number_at bytes (word c.form) (suc (value_entry bytes c k))); limit = end bytes c }) e

-- a value stands in other bytes, and those that bear on it are the same
abbrev pub StandsAgain : List ℕ → List ℕ → Tree → Container → ℕ → ℕ → Bool → Type 0
StandsAgain xs ys t c j l b = (inlined ys c l ≡ b) × IsValue ys t (child ys c l)
    × (b ≡ false → ((child ys c l).at ≡ (child xs c j).at) × (value_end ys (child ys c l) ≡ value_end xs (child xs c j)))

-- what stands behind its type byte agrees
pub behind_tag : (xs ys : List ℕ) (c : Container) (j l : ℕ) → EntryMoved xs ys c j l → Agree xs (suc (value_entry xs c j)) ys (suc (value_entry ys c l)) (word c.form)
behind_tag xs ys c j l e = λ i below.
    let left : suc (value_entry xs c j) + i ≡ value_entry xs c j + suc i = omega arith in
    let right : value_entry ys c l + suc i ≡ suc (value_entry ys c l) + i = omega arith in
    ap (slice_index xs) left ∙ e.1 (suc i) (omega (arith, below)) ∙ ap (slice_index ys) right

-- one value whose entry moved stands again
pub one_again : (t : Tree) → Stays t → (xs ys : List ℕ) (c : Container) (j l : ℕ) → length xs ≡ length ys → EntryMoved xs ys c j l → end ys c ≡ end xs c → IsValue xs t (child xs c j)
    → (b : Bool) → inlined xs c j ≡ b → (b ≡ false → Same xs ys (child xs c j).at (value_end xs (child xs c j))) → StandsAgain xs ys t c j l b
one_again t stays xs ys c j l len entry ends v true e same =
    let k = kind_moved xs ys c j l entry in
    let there : inlined ys c l ≡ true = ap (is_inlined c.form) k ∙ e in
    let low = entry.0 in
    let here : IsValue xs t (inlined_spot xs c j) = subst (IsValue xs t) (child_inlined xs c j e) v in (
      there,
      subst (IsValue ys t) (sym (child_inlined ys c l there))
          (scalar_moves t xs ys c.form (inlined_spot xs c j) (inlined_spot ys c l) e k (omega (arith, low)) ends (behind_tag xs ys c j l entry) here),
      (λ f. let no : ⊥ = cc in absurd no),
    )
one_again t stays xs ys c j l len entry ends v false e same =
    let k = kind_moved xs ys c j l entry in
    let there : inlined ys c l ≡ false = ap (is_inlined c.form) k ∙ e in
    let out = outside_spot xs c j in
    let place = child_outside xs c j e in
    let number : number_at ys (word c.form) (suc (value_entry ys c l)) ≡ number_at xs (word c.form) (suc (value_entry xs c j)) =
    sym (number_agrees xs ys (suc (value_entry xs c j)) (suc (value_entry ys c l)) (word c.form) (behind_tag xs ys c j l entry)) in
    let moved : child ys c l ≡ typed_at out (value_entry ys c l) = child_outside ys c l there
    ∙ ap (λ n. record { type_at = value_entry ys c l; at = c.at + n; limit = end ys c }) number
    ∙ ap (λ w. record { type_at = value_entry ys c l; at = out.at; limit = w }) ends in
    let here : IsValue xs t out = subst (IsValue xs t) place v in
    let still : Same xs ys out.at (value_end xs out) = subst (λ s. Same xs ys s.at (value_end xs s)) place (same refl) in
    let again = stays xs ys out (value_entry ys c l) len k still here in (
      there,
      subst (IsValue ys t) (sym moved) again.0,
      (λ f. (ap (λ s. s.at) moved ∙ ap (λ s. s.at) (sym place), ap (value_end ys) moved ∙ again.1 ∙ ap (value_end xs) (sym place))),
    )
