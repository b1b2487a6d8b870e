-- Canonical encodings of containers stand for their trees, wherever they stand.
use Rattle.std.proofs.Common.{◌≡◌, ℕ, suc, ◌+◌, ◌-◌, ◌*◌, ◌≤◌, ◌<◌, ◌^◌, ℤ, pos, negsuc, Bool, true, false, List, [], ◌∷◌, ◌++◌, length, map, slice_range, refl, sym, ap, ap₂, subst, ◌∙◌, arith, nat_le, nat_lt, cond, IsSomeAnd, lit≤}
use Rattle.std.specs.Option.{option_map}
use Rattle.std.specs.Prelude.{unwrap_or}
use Rattle.std.proofs.lemmas.List.{length-append, length-map, append-nil, nil_from_length}
use Rattle.std.proofs.lemmas.Bool.{leb-true}
use Rattle.byteorder.specs.Numbers.{length-bytes_low_first}
use Rattle.tree_model.specs.Tree.{Tree, max_key_bytes, null, boolean, number, text, array, object, Trees, no_trees, tree, tree_list, Members, no_members, member, member_list, depth, IsTree, AreTrees, HoldTrees, AreMembers}
use Rattle.binary_model.specs.Layout.{Form, small, large, word, literal, signed, unsigned, object_in, array_in, kind_of, code_of, is_inlined, Spot, root, kind_at, number_at, Container, container_as, count, end, key_entry, entries_end, value_entry, key_at, key_end, keys_end, key_of, values_floor, inlined, child, value_end, end_as, floor_after, key_width, value_width}
use Rattle.binary_model.specs.Stands.{truth_byte, IsLiteral, IsFrame, AreKeys, IsPlaced, IsValue, AreElements, HoldValues, Stands, max_nested, used_in, elements_used, members_used, used}
use Rattle.binary_model.specs.Canonical.{low_bytes, number_kind, width_of, groups, measured, inlined_bytes, behind, all_behind, value_entries, values_behind, key_entries, joined, entries_size, size_in, form_for, header, keys, spelling, spellings, member_spellings, canonical, canonical_length, number_bytes, text_bytes}
use Rattle.binary_model.proofs.canonical.LengthLemmas.{length-inlined, length-value_entries, length-key_entries, length-header, length-array_bytes, length-object_bytes, length-number, fits_tree, fit_trees, fit_members, length-keys, measured_length}
use Rattle.binary_model.specs.Place.{Holds}
use Rattle.binary_model.proofs.reading.StandLemmas.{values}
use Rattle.binary_model.proofs.canonical.CanonicalLemmas.{first_held, second_held, byte_held, number_held, range_held, moved, number_stands, text_stands, text_ranged}

-- ---- codes

array_code : (form : Form) → kind_of (code_of (array_in form)) ≡ array_in form
unfolding kind_of
array_code small = refl
array_code large = refl

object_code : (form : Form) → kind_of (code_of (object_in form)) ≡ object_in form
unfolding kind_of
object_code small = refl
object_code large = refl

signed_code_again : (b c : Bool) → kind_of (code_of (cond b (signed 2) (cond c (signed 4) (signed 8)))) ≡ cond b (signed 2) (cond c (signed 4) (signed 8))
unfolding kind_of
signed_code_again true c = refl
signed_code_again false true = refl
signed_code_again false false = refl

pos_code : (a b c : Bool) → kind_of (code_of (cond a (cond b (signed 2) (cond c (signed 4) (signed 8))) (unsigned 8))) ≡ cond a (cond b (signed 2) (cond c (signed 4) (signed 8))) (unsigned 8)
unfolding kind_of
pos_code true b c = signed_code_again b c
pos_code false b c = refl

number_code : (z : ℤ) → kind_of (code_of (number_kind z)) ≡ number_kind z
number_code (pos n) = pos_code (nat_lt n (2 ^ 63)) (nat_lt n (2 ^ 15)) (nat_lt n (2 ^ 31))
number_code (negsuc n) = signed_code_again (nat_lt n (2 ^ 15)) (nat_lt n (2 ^ 31))

-- a spelling's type byte says its kind
pub code_again : (t : Tree) → kind_of (code_of (spelling t).0) ≡ (spelling t).0
unfolding kind_of
code_again null = refl
code_again (boolean b) = refl
code_again (number z) = number_code z
code_again (text s) = refl
code_again (array ts) = array_code (form_for false 0 (map measured (spellings ts)))
code_again (object ms) = object_code (form_for true (length (joined (keys ms))) (map measured (member_spellings ms)))

-- ---- values of a container

abbrev pub StandsAt : Tree → Type 0
StandsAt t = (bytes : List ℕ) (s : Spot) → kind_at bytes s.type_at ≡ (spelling t).0 → s.at + length (spelling t).1 ≤ s.limit → length (spelling t).1 < 2 ^ 32 → Holds bytes s.at (spelling t).1
    → IsValue bytes t s × (value_end bytes s ≡ s.at + length (spelling t).1) × (used_in bytes t s ≡ length (spelling t).1)

abbrev AllStand : Trees → Type 0
AllStand no_trees = Unit {0}
AllStand (tree t ts) = StandsAt t × AllStand ts

-- what a walk over the values keeps: the size has its bound, and entries and values lie within it
record Walk (bytes : List ℕ) (c : Container) (size : ℕ) (ts : Trees) (k offset floor : ℕ) : Type 0 where
  pub short : size < 256 ^ word c.form
  pub small : size < 2 ^ 32
  pub ends : end bytes c ≡ c.at + size
  pub entries : Holds bytes (value_entry bytes c k) (value_entries c.form offset (spellings ts))
  pub behind : Holds bytes (c.at + offset) (values_behind c.form (spellings ts))
  pub inside : value_entry bytes c k + length (spellings ts) * value_width c.form ≤ c.at + size
  pub within : offset + all_behind c.form (map measured (spellings ts)) ≤ size
  pub above : floor ≤ c.at + offset

pub next_entry : (bytes : List ℕ) (c : Container) (k : ℕ) → value_entry bytes c k + 1 + word c.form ≡ value_entry bytes c (suc k)
next_entry bytes c k = omega arith

-- a word has at most four bytes
pub w4 : (form : Form) → word form ≤ 4
w4 small = lit≤ tt
w4 large = lit≤ tt

-- one value, inlined or not, and what is kept for those behind it
one_value : (bytes : List ℕ) (c : Container) (size : ℕ) (t : Tree) (ts : Trees) (k offset floor : ℕ) → StandsAt t → Walk bytes c size (tree t ts) k offset floor
    → (b : Bool) → is_inlined c.form (spelling t).0 ≡ b → kind_at bytes (value_entry bytes c k) ≡ (spelling t).0
    → IsPlaced bytes c k floor × IsValue bytes t (child bytes c k) × Walk bytes c size ts (suc k) (offset + behind c.form (measured (spelling t))) (floor_after bytes c k floor)
    × (cond (inlined bytes c k) 0 (used_in bytes t (child bytes c k)) ≡ behind c.form (measured (spelling t)))
one_value bytes c size t ts k offset floor stand w true e kind =
    let v = spelling t in
    let entry = value_entry bytes c k in
    let rest = value_entries c.form (offset + behind c.form (measured v)) (spellings ts) in
    let spot : Spot = record { type_at = entry; at = suc entry; limit = end bytes c } in
    let inl : inlined bytes c k ≡ true = ap (is_inlined c.form) kind ∙ e in
    let same : child bytes c k ≡ spot = ap (λ b. record { type_at = entry; at = cond b (suc entry) (c.at + number_at bytes (word c.form) (suc entry)); limit = end bytes c }) inl in
    let none : behind c.form (measured v) ≡ 0 = ap (λ b. cond b 0 (length v.1)) e in
    let held : Holds bytes entry (code_of v.0 ∷ (inlined_bytes c.form v ++ rest)) = subst (λ b. Holds bytes entry (code_of v.0 ∷ (cond b (inlined_bytes c.form v) (low_bytes (word c.form) offset) ++ rest))) e w.entries in
    let tail : Holds bytes (suc entry) (inlined_bytes c.form v ++ rest) = moved (omega arith) (second_held (code_of v.0 ∷ []) (inlined_bytes c.form v ++ rest) held) in
    let short = fits_tree t c.form e in
    let wide = length-inlined c.form v short in
    let next = next_entry bytes c k in
    let ends = w.ends in
    let inside = w.inside in
    let bound = w.small in
    let within = w.within in
    let above = w.above in
    let fits : suc entry + length v.1 ≤ end bytes c = omega (arith, ends, inside, short) in
    let few : length v.1 < 2 ^ 32 = omega (arith, short, w4 c.form) in
    let stands = stand bytes spot kind fits few (first_held v.1 _ (first_held (inlined_bytes c.form v) rest tail)) in (
      (λ f. let no : ⊥ = cc in absurd no),
      subst (IsValue bytes t) (sym same) stands.0,
      record {
        short = w.short;
        small = w.small;
        ends = w.ends;
        entries = moved (omega (arith, wide, next)) (second_held (inlined_bytes c.form v) rest tail);
        behind = moved (omega (arith, none)) (subst (λ b. Holds bytes (c.at + offset) (cond b [] v.1 ++ values_behind c.form (spellings ts))) e w.behind);
        inside = omega (arith, inside, next);
        within = omega (arith, within);
        above = subst (λ b. cond b floor (value_end bytes (child bytes c k)) ≤ c.at + (offset + behind c.form (measured v))) (sym inl) (omega (arith, above));
      },
      ap (λ b. cond b 0 (used_in bytes t (child bytes c k))) inl ∙ sym none,
    )
one_value bytes c size t ts k offset floor stand w false e kind =
    let v = spelling t in
    let entry = value_entry bytes c k in
    let rest = value_entries c.form (offset + behind c.form (measured v)) (spellings ts) in
    let spot : Spot = record { type_at = entry; at = c.at + offset; limit = end bytes c } in
    let inl : inlined bytes c k ≡ false = ap (is_inlined c.form) kind ∙ e in
    let all : behind c.form (measured v) ≡ length v.1 = ap (λ b. cond b 0 (length v.1)) e in
    let held : Holds bytes entry (code_of v.0 ∷ (low_bytes (word c.form) offset ++ rest)) = subst (λ b. Holds bytes entry (code_of v.0 ∷ (cond b (inlined_bytes c.form v) (low_bytes (word c.form) offset) ++ rest))) e w.entries in
    let tail : Holds bytes (suc entry) (low_bytes (word c.form) offset ++ rest) = moved (omega arith) (second_held (code_of v.0 ∷ []) (low_bytes (word c.form) offset ++ rest) held) in
    let within = w.within in
    let short = w.short in
    let number = number_held bytes (suc entry) (word c.form) offset (omega (arith, within, short)) (first_held (low_bytes (word c.form) offset) rest tail) in
    let same : child bytes c k ≡ spot = ap (λ b. record { type_at = entry; at = cond b (suc entry) (c.at + number_at bytes (word c.form) (suc entry)); limit = end bytes c }) inl ∙ ap (λ n. record { type_at = entry; at = c.at + n; limit = end bytes c }) number in
    let wide = length-bytes_low_first 0 (word c.form) offset in
    let next = next_entry bytes c k in
    let ends = w.ends in
    let inside = w.inside in
    let bound = w.small in
    let above = w.above in
    let values : Holds bytes (c.at + offset) (v.1 ++ values_behind c.form (spellings ts)) = subst (λ b. Holds bytes (c.at + offset) (cond b [] v.1 ++ values_behind c.form (spellings ts))) e w.behind in
    let fits : c.at + offset + length v.1 ≤ end bytes c = omega (arith, ends, within, all) in
    let few : length v.1 < 2 ^ 32 = omega (arith, within, all, bound) in
    let stands = stand bytes spot kind fits few (first_held v.1 (values_behind c.form (spellings ts)) values) in
    let last = stands.1 in (
      (λ f. subst (λ s. floor ≤ s.at) (sym same) above),
      subst (IsValue bytes t) (sym same) stands.0,
      record {
        short = w.short;
        small = w.small;
        ends = w.ends;
        entries = moved (omega (arith, wide, next)) (second_held (low_bytes (word c.form) offset) rest tail);
        behind = moved (omega (arith, all)) (second_held v.1 (values_behind c.form (spellings ts)) values);
        inside = omega (arith, inside, next);
        within = omega (arith, within);
        above = subst (λ b. cond b floor (value_end bytes (child bytes c k)) ≤ c.at + (offset + behind c.form (measured v))) (sym inl)
            (subst (λ s. value_end bytes s ≤ c.at + (offset + behind c.form (measured v))) (sym same) (omega (arith, last, all)));
      },
      ap (λ b. cond b 0 (used_in bytes t (child bytes c k))) inl ∙ ap (used_in bytes t) same ∙ stands.2 ∙ sym all,
    )

walked : (bytes : List ℕ) (c : Container) (size : ℕ) (ts : Trees) (k offset floor : ℕ) → AllStand ts → Walk bytes c size ts k offset floor → AreElements bytes c k floor ts
walked bytes c size no_trees k offset floor a w = tt
walked bytes c size (tree t ts) k offset floor a w =
    let kind = ap kind_of (byte_held bytes (value_entry bytes c k) (code_of (spelling t).0) _ w.entries) ∙ code_again t in
    let one = one_value bytes c size t ts k offset floor a.0 w (is_inlined c.form (spelling t).0) refl kind in
    (one.0, one.1, walked bytes c size ts (suc k) (offset + behind c.form (measured (spelling t))) (floor_after bytes c k floor) a.1 one.2)

used_walked : (bytes : List ℕ) (c : Container) (size : ℕ) (ts : Trees) (k offset floor : ℕ) → AllStand ts → Walk bytes c size ts k offset floor → elements_used bytes c k ts ≡ all_behind c.form (map measured (spellings ts))
used_walked bytes c size no_trees k offset floor a w = refl
used_walked bytes c size (tree t ts) k offset floor a w =
    let kind = ap kind_of (byte_held bytes (value_entry bytes c k) (code_of (spelling t).0) _ w.entries) ∙ code_again t in
    let one = one_value bytes c size t ts k offset floor a.0 w (is_inlined c.form (spelling t).0) refl kind in
    ap₂ (λ m n. m + n) one.3 (used_walked bytes c size ts (suc k) (offset + behind c.form (measured (spelling t))) (floor_after bytes c k floor) a.1 one.2)

-- ---- arrays

form_bound : (f : Form → ℕ) (b : Bool) → nat_le (f small) 65535 ≡ b → f (cond b small large) < 2 ^ 32 → f (cond b small large) < 256 ^ word (cond b small large)
form_bound f true e h = let low = leb-true (f small) 65535 e in omega (arith, low)
form_bound f false e h = h

spelled_length : (ts : Trees) → length (spellings ts) ≡ length (tree_list ts)
spelled_length no_trees = refl
spelled_length (tree t ts) = ap suc (spelled_length ts)

array_stands : (ts : Trees) → AllStand ts → StandsAt (array ts)
array_stands ts all bytes s kind fits few held =
    let vs = spellings ts in
    let form = form_for false 0 (map measured vs) in
    let size = size_in false 0 (map measured vs) form in
    let c : Container = record { form = form; is_object = false; at = s.at } in
    let entries = value_entries form (entries_size form false (length vs)) vs in
    let later = values_behind form vs in
    let n = length vs in
    let len = length-array_bytes form vs (fit_trees ts) in
    let mapped = length-map vs measured in
    let below : size < 2 ^ 32 = omega (arith, few, len) in
    let bound : size < 256 ^ word form = form_bound (size_in false 0 (map measured vs)) (nat_le (size_in false 0 (map measured vs) small) 65535) refl below in
    let head_length = length-header form n size in
    let entries_length = length-value_entries form (entries_size form false n) vs (fit_trees ts) in
    let head = first_held (header form n size) (entries ++ later) held in
    let word_length = length-bytes_low_first 0 (word form) n in
    let many : count bytes c ≡ n = number_held bytes s.at (word form) n (omega (arith, bound, mapped)) (first_held (low_bytes (word form) n) (low_bytes (word form) size) head) in
    let total = number_held bytes (s.at + word form) (word form) size bound (moved (omega (arith, word_length)) (second_held (low_bytes (word form) n) (low_bytes (word form) size) head)) in
    let ends : end bytes c ≡ s.at + size = ap (λ m. s.at + m) total in
    let body = second_held (header form n size) (entries ++ later) held in
    let width = ap (λ m. m * value_width form) many in
    let sized : size ≡ entries_size form false n + 0 + all_behind form (map measured vs) = ap (λ m. entries_size form false m + 0 + all_behind form (map measured vs)) mapped in
    let walk : Walk bytes c size ts 0 (entries_size form false n) (entries_end bytes c) = record {
      short = bound;
      small = below;
      ends = ends;
      entries = moved (omega (arith, head_length)) (first_held entries later body);
      behind = moved (omega (arith, head_length, entries_length)) (second_held entries later body);
      inside = omega (arith, sized);
      within = omega (arith, sized);
      above = omega (arith, width);
    } in
    let frame : IsFrame bytes c s.limit = (omega (arith, fits, len, sized), omega (arith, fits, len, ends), omega (arith, ends, width, sized)) in (
      subst (λ o. IsSomeAnd o (λ c. (c.is_object ≡ false) × IsFrame bytes c s.limit × (count bytes c ≡ length (tree_list ts)) × AreElements bytes c 0 (entries_end bytes c) ts)) (sym (ap (λ k. container_as k s.at) kind))
          (refl, frame, many ∙ spelled_length ts, walked bytes c size ts 0 (entries_size form false n) (entries_end bytes c) all walk),
      ap (λ k. end_as bytes k s) kind ∙ ends ∙ ap (λ m. s.at + m) (sym len),
      ap (λ k. unwrap_or (option_map (λ c. entries_end bytes c - c.at + elements_used bytes c 0 ts) (container_as k s.at)) 0) kind
          ∙ ap (λ m. entries_end bytes c - s.at + m) (used_walked bytes c size ts 0 (entries_size form false n) (entries_end bytes c) all walk) ∙ omega (arith, width, sized, len),
    )

-- ---- keys

abbrev AllShort : List (List ℕ) → Type 0
AllShort [] = Unit {0}
AllShort (k ∷ ks) = (length k ≤ max_key_bytes) × AllShort ks

record KeyWalk (bytes : List ℕ) (c : Container) (size : ℕ) (ks : List (List ℕ)) (k offset floor : ℕ) : Type 0 where
  pub short : size < 256 ^ word c.form
  pub ends : end bytes c ≡ c.at + size
  pub entries : Holds bytes (key_entry c k) (key_entries c.form offset ks)
  pub letters : Holds bytes (c.at + offset) (joined ks)
  pub within : offset + length (joined ks) ≤ size
  pub above : floor ≤ c.at + offset
  pub keys_short : AllShort ks

one_key : (bytes : List ℕ) (c : Container) (size : ℕ) (key : List ℕ) (ks : List (List ℕ)) (k offset floor : ℕ) → KeyWalk bytes c size (key ∷ ks) k offset floor
    → (key_at bytes c k ≡ c.at + offset) × (key_end bytes c k ≡ c.at + offset + length key) × (key_of bytes c k ≡ key) × KeyWalk bytes c size ks (suc k) (offset + length key) (key_end bytes c k)
one_key bytes c size key ks k offset floor w =
    let rest = key_entries c.form (offset + length key) ks in
    let within = w.within in
    let short = w.short in
    let size_of = length-append key (joined ks) in
    let first = number_held bytes (key_entry c k) (word c.form) offset (omega (arith, within, short)) (first_held (low_bytes (word c.form) offset) (low_bytes 2 (length key) ++ rest) w.entries) in
    let a = length-bytes_low_first 0 (word c.form) offset in
    let b = length-bytes_low_first 0 2 (length key) in
    let behind_offset = second_held (low_bytes (word c.form) offset) (low_bytes 2 (length key) ++ rest) w.entries in
    let long = w.keys_short.0 in
    let second = number_held bytes (key_entry c k + word c.form) 2 (length key) (omega (arith, long)) (moved (omega (arith, a)) (first_held (low_bytes 2 (length key)) rest behind_offset)) in
    let start : key_at bytes c k ≡ c.at + offset = ap (λ m. c.at + m) first in
    let stop : key_end bytes c k ≡ c.at + offset + length key = ap (λ m. key_at bytes c k + m) second ∙ ap (λ m. m + length key) start in
    let text_held = first_held key (joined ks) w.letters in (
      start,
      stop,
      ap (λ m. slice_range bytes m (key_end bytes c k)) start ∙ ap (λ m. slice_range bytes (c.at + offset) m) stop ∙ range_held bytes (c.at + offset) key text_held,
      record {
        short = w.short;
        ends = w.ends;
        entries = moved (omega (arith, a, b)) (second_held (low_bytes 2 (length key)) rest behind_offset);
        letters = moved (omega arith) (second_held key (joined ks) w.letters);
        within = omega (arith, within, size_of);
        above = omega (arith, stop);
        keys_short = w.keys_short.1;
      },
    )

keys_walked : (bytes : List ℕ) (c : Container) (size : ℕ) (ks : List (List ℕ)) (k offset floor : ℕ) → KeyWalk bytes c size ks k offset floor → AreKeys bytes c k floor ks
keys_walked bytes c size [] k offset floor w = tt
keys_walked bytes c size (key ∷ ks) k offset floor w =
    let one = one_key bytes c size key ks k offset floor w in
    let start = one.0 in
    let stop = one.1 in
    let above = w.above in
    let ends = w.ends in
    let within = w.within in
    let size_of = length-append key (joined ks) in
    (omega (arith, start, above), omega (arith, stop, ends, within, size_of), one.2, keys_walked bytes c size ks (suc k) (offset + length key) (key_end bytes c k) one.3)

keys_last : (bytes : List ℕ) (c : Container) (size : ℕ) (ks : List (List ℕ)) (k offset floor : ℕ) → KeyWalk bytes c size ks k offset floor → keys_end bytes c k ≡ c.at + offset
    → keys_end bytes c (k + length ks) ≡ c.at + offset + length (joined ks)
keys_last bytes c size [] k offset floor w e = let z : k + 0 ≡ k = omega arith in ap (keys_end bytes c) z ∙ e ∙ omega arith
keys_last bytes c size (key ∷ ks) k offset floor w e =
    let one = one_key bytes c size key ks k offset floor w in
    let z : k + suc (length ks) ≡ suc k + length ks = omega arith in
    let stop : keys_end bytes c (suc k) ≡ c.at + (offset + length key) = let t = one.1 in omega (arith, t) in
    let rest = keys_last bytes c size ks (suc k) (offset + length key) (key_end bytes c k) one.3 stop in
    let size_of = length-append key (joined ks) in
    ap (keys_end bytes c) z ∙ rest ∙ omega (arith, size_of)

-- ---- objects

spelled_values : (ms : Members) → spellings (values ms) ≡ member_spellings ms
spelled_values no_members = refl
spelled_values (member k t ms) = ap (λ vs. spelling t ∷ vs) (spelled_values ms)

keys_same : (ms : Members) → keys ms ≡ map (λ m. m.0) (member_list ms)
keys_same no_members = refl
keys_same (member k t ms) = ap (λ ks. k ∷ ks) (keys_same ms)

spelled_members : (ms : Members) → length (spellings (values ms)) ≡ length (member_list ms)
spelled_members no_members = refl
spelled_members (member k t ms) = ap suc (spelled_members ms)

-- values that stand as an array's elements stand as an object's
pub hold_back : (bytes : List ℕ) (c : Container) (k floor : ℕ) (ms : Members) → AreElements bytes c k floor (values ms) → HoldValues bytes c k floor ms
hold_back bytes c k floor no_members a = tt
hold_back bytes c k floor (member l t ms) a = (a.0, a.1, hold_back bytes c (suc k) (floor_after bytes c k floor) ms a.2)

keys_are_short : (ms : List (List ℕ × Tree)) → AreMembers ms → AllShort (map (λ m. m.0) ms)
keys_are_short [] a = tt
keys_are_short (m ∷ []) a = (a.0, tt)
keys_are_short (m ∷ n ∷ ms) a = (a.0.0, keys_are_short (n ∷ ms) a.2)

used_apart : (bytes : List ℕ) (c : Container) (k : ℕ) (ms : Members) → members_used bytes c k ms ≡ length (joined (keys ms)) + elements_used bytes c k (values ms)
used_apart bytes c k no_members = omega arith
used_apart bytes c k (member l t ms) =
    let rest = used_apart bytes c (suc k) ms in
    let size = length-append l (joined (keys ms)) in
    omega (arith, rest, size)

object_stands : (ms : Members) → AllStand (values ms) → AllShort (keys ms) → StandsAt (object ms)
object_stands ms all short bytes s kind fits few held =
    let vs = member_spellings ms in
    let ks = keys ms in
    let J = length (joined ks) in
    let form = form_for true J (map measured vs) in
    let size = size_in true J (map measured vs) form in
    let c : Container = record { form = form; is_object = true; at = s.at } in
    let n = length vs in
    let off = entries_size form true n in
    let key_part = key_entries form off ks in
    let entries = value_entries form (off + J) vs in
    let later = values_behind form vs in
    let same = length-keys ms in
    let len = length-object_bytes form ks vs same (fit_members ms) in
    let mapped = length-map vs measured in
    let sized : size ≡ entries_size form true n + J + all_behind form (map measured vs) = ap (λ m. entries_size form true m + J + all_behind form (map measured vs)) mapped in
    let below : size < 2 ^ 32 = omega (arith, few, len) in
    let bound : size < 256 ^ word form = form_bound (size_in true J (map measured vs)) (nat_le (size_in true J (map measured vs) small) 65535) refl below in
    let head_length = length-header form n size in
    let keys_part_length = length-key_entries form off ks in
    let entries_length = length-value_entries form (off + J) vs (fit_members ms) in
    let head = first_held (header form n size) (key_part ++ (entries ++ (joined ks ++ later))) held in
    let word_length = length-bytes_low_first 0 (word form) n in
    let many : count bytes c ≡ n = number_held bytes s.at (word form) n (omega (arith, bound, sized)) (first_held (low_bytes (word form) n) (low_bytes (word form) size) head) in
    let total = number_held bytes (s.at + word form) (word form) size bound (moved (omega (arith, word_length)) (second_held (low_bytes (word form) n) (low_bytes (word form) size) head)) in
    let ends : end bytes c ≡ s.at + size = ap (λ m. s.at + m) total in
    let body = second_held (header form n size) (key_part ++ (entries ++ (joined ks ++ later))) held in
    let third = second_held key_part (entries ++ (joined ks ++ later)) body in
    let fourth = second_held entries (joined ks ++ later) third in
    let width = ap (λ m. m * value_width form) many in
    let key_widths = ap (λ m. m * key_width form) many in
    let key_sizes = ap (λ m. m * key_width form) same in
    let key_walk : KeyWalk bytes c size ks 0 off (entries_end bytes c) = record {
      short = bound;
      ends = ends;
      entries = moved (omega (arith, head_length)) (first_held key_part (entries ++ (joined ks ++ later)) body);
      letters = moved (omega (arith, head_length, keys_part_length, key_sizes, entries_length)) (first_held (joined ks) later fourth);
      within = omega (arith, sized);
      above = omega (arith, width, key_widths);
      keys_short = short;
    } in
    let start : keys_end bytes c 0 ≡ c.at + off = omega (arith, width, key_widths) in
    let last = keys_last bytes c size ks 0 off (entries_end bytes c) key_walk start in
    let all_keys : count bytes c ≡ 0 + length ks = omega (arith, many, same) in
    let floor : values_floor bytes c ≡ c.at + off + J = ap (keys_end bytes c) all_keys ∙ last in
    let back = sym (spelled_values ms) in
    let walk : Walk bytes c size (values ms) 0 (off + J) (values_floor bytes c) = record {
      short = bound;
      small = below;
      ends = ends;
      entries = subst (λ us. Holds bytes (value_entry bytes c 0) (value_entries form (off + J) us)) back
          (moved (omega (arith, head_length, keys_part_length, key_sizes, key_widths)) (first_held entries (joined ks ++ later) third));
      behind = subst (λ us. Holds bytes (c.at + (off + J)) (values_behind form us)) back
          (moved (omega (arith, head_length, keys_part_length, key_sizes, entries_length)) (second_held (joined ks) later fourth));
      inside = subst (λ us. value_entry bytes c 0 + length us * value_width form ≤ c.at + size) back (omega (arith, sized, key_widths));
      within = subst (λ us. off + J + all_behind form (map measured us) ≤ size) back (omega (arith, sized));
      above = omega (arith, floor);
    } in
    let frame : IsFrame bytes c s.limit = (omega (arith, fits, len, sized), omega (arith, fits, len, ends), omega (arith, ends, width, key_widths, sized)) in (
      subst (λ o. IsSomeAnd o (λ c. (c.is_object ≡ true) × IsFrame bytes c s.limit × (count bytes c ≡ length (member_list ms))
          × AreKeys bytes c 0 (entries_end bytes c) (map (λ m. m.0) (member_list ms)) × HoldValues bytes c 0 (values_floor bytes c) ms)) (sym (ap (λ k. container_as k s.at) kind)) (
            refl,
            frame,
            many ∙ sym (ap length (spelled_values ms)) ∙ spelled_members ms,
            subst (AreKeys bytes c 0 (entries_end bytes c)) (keys_same ms) (keys_walked bytes c size ks 0 off (entries_end bytes c) key_walk),
            hold_back bytes c 0 (values_floor bytes c) ms (walked bytes c size (values ms) 0 (off + J) (values_floor bytes c) all walk),
          ),
      ap (λ k. end_as bytes k s) kind ∙ ends ∙ ap (λ m. s.at + m) (sym len),
      ap (λ k. unwrap_or (option_map (λ c. entries_end bytes c - c.at + members_used bytes c 0 ms) (container_as k s.at)) 0) kind
          ∙ ap (λ m. entries_end bytes c - s.at + m) (used_apart bytes c 0 ms) ∙ ap (λ m. entries_end bytes c - s.at + (J + m)) (used_walked bytes c size (values ms) 0 (off + J) (values_floor bytes c) all walk)
          ∙ ap (λ us. entries_end bytes c - s.at + (J + all_behind form (map measured us))) (spelled_values ms) ∙ omega (arith, width, key_widths, sized, len),
    )

-- ---- all trees

literal_stands : (b : ℕ) (bytes : List ℕ) (s : Spot) → kind_at bytes s.type_at ≡ literal → s.at + 1 ≤ s.limit → Holds bytes s.at (b ∷ []) → IsLiteral bytes b s × (value_end bytes s ≡ s.at + 1) × (value_end bytes s - s.at ≡ 1)
literal_stands b bytes s kind fits held =
    let last : value_end bytes s ≡ s.at + 1 = ap (λ k. end_as bytes k s) kind ∙ omega arith in
    ((kind, omega (arith, fits), byte_held bytes s.at b [] held), last, omega (arith, last))

signed_end : (bytes : List ℕ) (s : Spot) (b c : Bool) → end_as bytes (cond b (signed 2) (cond c (signed 4) (signed 8))) s ≡ s.at + width_of (cond b (signed 2) (cond c (signed 4) (signed 8)))
signed_end bytes s true c = refl
signed_end bytes s false true = refl
signed_end bytes s false false = refl

pos_end : (bytes : List ℕ) (s : Spot) (a b c : Bool) → end_as bytes (cond a (cond b (signed 2) (cond c (signed 4) (signed 8))) (unsigned 8)) s ≡ s.at + width_of (cond a (cond b (signed 2) (cond c (signed 4) (signed 8))) (unsigned 8))
pos_end bytes s true b c = signed_end bytes s b c
pos_end bytes s false b c = refl

number_end : (bytes : List ℕ) (s : Spot) (z : ℤ) → kind_at bytes s.type_at ≡ number_kind z → value_end bytes s ≡ s.at + width_of (number_kind z)
number_end bytes s (pos n) kind = ap (λ k. end_as bytes k s) kind ∙ pos_end bytes s (nat_lt n (2 ^ 63)) (nat_lt n (2 ^ 15)) (nat_lt n (2 ^ 31))
number_end bytes s (negsuc n) kind = ap (λ k. end_as bytes k s) kind ∙ signed_end bytes s (nat_lt n (2 ^ 15)) (nat_lt n (2 ^ 31))

mutual
  -- a spelling stands for its tree wherever its bytes do
  pub stand_tree : (t : Tree) → IsTree t → StandsAt t
  stand_tree null a = λ bytes s kind fits few held. literal_stands 0 bytes s kind fits held
  stand_tree (boolean b) a = λ bytes s kind fits few held. literal_stands (truth_byte b) bytes s kind fits held
  stand_tree (number z) a = λ bytes s kind fits few held.
      let len = length-number z in
      let last : value_end bytes s ≡ s.at + length (number_bytes z) = number_end bytes s z kind ∙ ap (λ m. s.at + m) (sym len) in
      (number_stands bytes z s a kind (omega (arith, fits, len)) held, last, omega (arith, last))
  stand_tree (text letters) a = λ bytes s kind fits few held.
      let len = length-append (groups 5 (length letters)) letters in
      let last : value_end bytes s ≡ s.at + length (text_bytes letters) =
      ap (λ k. end_as bytes k s) kind ∙ ap (λ o. unwrap_or (option_map (λ r. r.1) o) s.at) (text_ranged bytes letters s (omega (arith, few, len)) fits held) ∙ omega (arith, len) in (
        text_stands bytes letters s (omega (arith, few, len)) kind fits held,
        last,
        omega (arith, last),
      )
  stand_tree (array ts) a = array_stands ts (stand_trees ts a)
  stand_tree (object ms) a = object_stands ms (stand_members ms a.1) (subst AllShort (sym (keys_same ms)) (keys_are_short (member_list ms) a.0))

  stand_trees : (ts : Trees) → AreTrees ts → AllStand ts
  stand_trees no_trees a = tt
  stand_trees (tree t ts) a = (stand_tree t a.0, stand_trees ts a.1)

  stand_members : (ms : Members) → HoldTrees ms → AllStand (values ms)
  stand_members no_members a = tt
  stand_members (member k t ms) a = (stand_tree t a.0, stand_members ms a.1)

-- a canonical encoding stands for its tree
pub canonical_stands : (t : Tree) → IsTree t → depth t ≤ max_nested → length (canonical t) < 2 ^ 32 → Stands (canonical t) t
canonical_stands t a d few =
    let bytes = canonical t in
    let xs = (spelling t).1 in
    let held : Holds bytes 1 xs = record { pre = code_of (spelling t).0 ∷ []; post = []; whole = ap (λ ys. code_of (spelling t).0 ∷ ys) (sym (append-nil xs)); place = refl } in
    let stands = stand_tree t a bytes (root bytes) (code_again t) (omega arith) (omega (arith, few)) held in
    let last = stands.1 in
    record { «tree» = a; nested = d; some = omega arith; value = stands.0; whole = last ∙ omega arith }

-- no canonical encoding is a proper prefix of another
pub no_prefix : (t u : Tree) (more : List ℕ) → IsTree t → IsTree u → length (canonical u) < 2 ^ 32 → canonical t ++ more ≡ canonical u → more ≡ []
no_prefix t u more a b few e =
    let size = ap length e in
    let whole = length-append (canonical t) more in
    let xs = (spelling t).1 in
    let bytes = canonical u in
    let low : length (spelling t).1 < 2 ^ 32 = omega (arith, size, whole, few) in
    let held : Holds bytes 1 xs = record { pre = code_of (spelling t).0 ∷ []; post = more; whole = sym e; place = refl } in
    let kind : kind_at bytes 0 ≡ (spelling t).0 = ap (λ ys. kind_at ys 0) (sym e) ∙ code_again t in
    let first = stand_tree t a bytes (root bytes) kind (omega (arith, size, whole)) low held in
    let whole_u : Holds bytes 1 (spelling u).1 = record { pre = code_of (spelling u).0 ∷ []; post = []; whole = ap (λ ys. code_of (spelling u).0 ∷ ys) (sym (append-nil (spelling u).1)); place = refl } in
    let second = stand_tree u b bytes (root bytes) (code_again u) (omega arith) (omega (arith, few)) whole_u in
    let ends_t = first.1 in
    let ends_u = second.1 in
    nil_from_length more (omega (arith, size, whole, ends_t, ends_u))

-- a canonical encoding uses its whole length
pub canonical_used : (t : Tree) → IsTree t → length (canonical t) < 2 ^ 32 → used (canonical t) t ≡ canonical_length t
canonical_used t a few =
    let bytes = canonical t in
    let xs = (spelling t).1 in
    let held : Holds bytes 1 xs = record { pre = code_of (spelling t).0 ∷ []; post = []; whole = ap (λ ys. code_of (spelling t).0 ∷ ys) (sym (append-nil xs)); place = refl } in
    let stands = stand_tree t a bytes (root bytes) (code_again t) (omega arith) (omega (arith, few)) held in
    ap (λ n. 1 + n) stands.2 ∙ (let e : 1 + length xs ≡ length (canonical t) = omega arith in e) ∙ measured_length t
