-- What reading finds stands in the bytes.
use Rattle.std.proofs.Common.{◌≡◌, ℕ, zero, suc, ◌+◌, ◌-◌, ◌*◌, ◌≤◌, ◌<◌, ◌^◌, max, pos, negsuc, Bool, true, false, ◌&&◌, ◌||◌, ◌==◌, List, [], ◌∷◌, length, map, drop, slice_index, slice_range, Option, Some, None, Result, Ok, Err, refl, sym, ap, subst, ◌∙◌, arith, nat_le, nat_lt, cond, ◌⊎◌, inl, inr, IsSomeAnd, lit≤}
use Rattle.std.specs.Str.{is_utf8}
use Rattle.std.specs.Cmp.{first_so, second_so}
use Rattle.std.specs.declared.cmp.Ordering.{Ordering}
use Rattle.std.specs.declared.cmp.Ordering.TheVariants.{Less, Equal, Greater}
use Rattle.std.specs.Ordering.{match_ordering}
use Rattle.std.proofs.lemmas.Bool.{leb-true, ltb-true, ltb-false, eqb-true, lt-ltb, le-leb}
use Rattle.std.proofs.lemmas.Float.{T_from_true}
use Rattle.std.specs.Int.Signed.{lt_z_yes, le_z_yes}
use Rattle.std.proofs.lemmas.Str.{IsUtf8-from_is_utf8}
use Rattle.std.proofs.lemmas.List.{length-take}
use Rattle.byteorder.specs.Numbers.{little_from-lt}
use Rattle.tree_model.specs.Tree.{Tree, max_key_bytes, trees, tree_list, member_list, depth, trees_depth, members_depth, key_cmp, IsKey, AreMembers, IsTree, AreTrees, HoldTrees, IsWhole}
use Rattle.binary_model.specs.Layout.{word, Kind, kind_of, literal, signed, unsigned, string, object_in, array_in, other, Spot, root, kind_at, number_at, text_range, Container, container_as, container_at, count, end, header_end, entries_end, key_entry, key_at, key_end, key_of, value_entry, values_floor, inlined, child, value_end, floor_after}
use Rattle.binary_model.specs.Stands.{signed_of, IsNumberAs, IsFrame, AreKeys, IsValue, AreElements, HoldValues, IsBytes, Stands, max_nested}
use Rattle.binary_model.specs.FirstFault.{Fault, Deep, ◌>>=◌, require, known_type, literal_of, text_from, is_after, read_keys, is_placed, read_values, paired, read_array, read_object, read_as, read_value, first_fault}

pub bind_ok : {A B : Type 0} (r : Result A Fault) (f : A → Result B Fault) {y : B} → (r >>= f) ≡ Ok y → (x : A) × (r ≡ Ok x) × (f x ≡ Ok y)
bind_ok (Ok x) f h = (x, refl, h)
bind_ok (Err e) f h = let no : ⊥ = cc in absurd no

-- a check that passed held, and what follows it gave the answer
pub checked : {B : Type 0} (b : Bool) (e : Fault) (r : Result B Fault) {y : B} → (require b e >>= (λ _. r)) ≡ Ok y → (b ≡ true) × (r ≡ Ok y)
checked true e r h = (refl, h)
checked false e r h = let no : ⊥ = cc in absurd no

abbrev pub Gave : {A : Type 0} → Result A Fault → A → Type 0
Gave r y = r ≡ Ok y

-- what was given is what is answered
pub ok_is : {A : Type 0} {x y : A} → Gave (Ok x) y → x ≡ y
ok_is h = cc

placed : (b : Bool) (f a e : ℕ) → (b || (nat_le f a && nat_le a e)) ≡ true → b ≡ false → f ≤ a
placed true f a e h k = let no : ⊥ = cc in absurd no
placed false f a e h k = leb-true f a (first_so (nat_le f a) (nat_le a e) h)

pub max_le : (a b n : ℕ) → a ≤ n → b ≤ n → max a b ≤ n
max_le a b n h k = omega (arith, h, k)

-- ---- values of a container

-- the value stands, and its tree is one that keeps its rules
abbrev pub IsRead : List ℕ → ℕ → Spot → Tree → Type 0
IsRead bytes n s t = IsTree t × (depth t ≤ n) × IsValue bytes t s

abbrev pub AreRead : List ℕ → ℕ → Container → ℕ → ℕ → ℕ → List Tree → Type 0
AreRead bytes n c left k floor ts = (length ts ≡ left) × AreTrees (trees ts) × (trees_depth (trees ts) ≤ n) × AreElements bytes c k floor (trees ts)

values_read : (bytes : List ℕ) (read : Spot → Result Tree Fault) (n : ℕ) → ((s : Spot) (t : Tree) → read s ≡ Ok t → IsRead bytes n s t)
    → (c : Container) (left k floor : ℕ) (ts : List Tree) → read_values read bytes c left k floor ≡ Ok ts → AreRead bytes n c left k floor ts
values_read bytes read n sound c zero k floor ts h = subst (AreRead bytes n c zero k floor) (ok_is h) (refl, tt, omega arith, tt)
values_read bytes read n sound c (suc left) k floor ts h =
    let (x, _, h1) = bind_ok (known_type bytes (value_entry bytes c k)) _ h in
    let (fits_in, h2) = checked (is_placed bytes c k floor) _ _ h1 in
    let (t, first, h3) = bind_ok (read (child bytes c k)) _ h2 in
    let (us, rest, h4) = bind_ok (read_values read bytes c left (suc k) (floor_after bytes c k floor)) _ h3 in
    let this = sound (child bytes c k) t first in
    let others = values_read bytes read n sound c left (suc k) (floor_after bytes c k floor) us rest in
    subst (AreRead bytes n c (suc left) k floor) (ok_is h4) (
      ap suc others.0,
      (this.0, others.1),
      max_le (depth t) (trees_depth (trees us)) n this.1 others.2,
      (placed (inlined bytes c k) floor (child bytes c k).at (end bytes c) fits_in, this.2, others.3),
    )

-- ---- keys

-- keys rise strictly from the one before them on
abbrev pub Rising : Option (List ℕ) → List (List ℕ) → Type 0
Rising before [] = Unit {0}
Rising before (k ∷ ks) = IsKey k × (is_after before k ≡ true) × Rising (Some k) ks

abbrev pub KeysRead : List ℕ → Container → ℕ → ℕ → ℕ → Option (List ℕ) → List (List ℕ) → Type 0
KeysRead bytes c left k floor before ks = (length ks ≡ left) × AreKeys bytes c k floor ks × Rising before ks

-- the length of a key stands in two bytes
slice_short : (bytes : List ℕ) (a n : ℕ) → length (slice_range bytes a (a + n)) ≤ n
slice_short bytes a n = let e = length-take (a + n - a) (drop a bytes) in omega (arith, e)

short_key : (bytes : List ℕ) (c : Container) (k : ℕ) → IsBytes bytes → length (key_of bytes c k) ≤ max_key_bytes
unfolding number_at
short_key bytes c k are =
    let n = little_from-lt (key_entry c k + word c.form) 2 bytes are in
    let taken : length (key_of bytes c k) ≤ number_at bytes 2 (key_entry c k + word c.form) = slice_short bytes (key_at bytes c k) (number_at bytes 2 (key_entry c k + word c.form)) in
    omega (arith, n, taken)

-- keys that are read stand in place, and rise
pub keys_read : (bytes : List ℕ) → IsBytes bytes → (c : Container) (left k floor : ℕ) (before : Option (List ℕ)) (ks : List (List ℕ)) → read_keys bytes c left k floor before ≡ Ok ks → KeysRead bytes c left k floor before ks
keys_read bytes are c zero k floor before ks h = subst (KeysRead bytes c zero k floor before) (ok_is h) (refl, tt, tt)
keys_read bytes are c (suc left) k floor before ks h =
    let (inside, h1) = checked (nat_le floor (key_at bytes c k) && nat_le (key_end bytes c k) (end bytes c)) _ _ h in
    let (utf8, h2) = checked (is_utf8 (key_of bytes c k)) _ _ h1 in
    let (after, h3) = checked (is_after before (key_of bytes c k)) _ _ h2 in
    let (ls, rest, h4) = bind_ok (read_keys bytes c left (suc k) (key_end bytes c k) (Some (key_of bytes c k))) _ h3 in
    let others = keys_read bytes are c left (suc k) (key_end bytes c k) (Some (key_of bytes c k)) ls rest in
    subst (KeysRead bytes c (suc left) k floor before) (ok_is h4) (
      ap suc others.0,
      (leb-true floor (key_at bytes c k) (first_so _ _ inside), leb-true (key_end bytes c k) (end bytes c) (second_so _ _ inside), refl, others.1),
      ((short_key bytes c k are, IsUtf8-from_is_utf8 _ utf8), after, others.2),
    )

-- what tests as less is less
pub less_of : (o : Ordering) → match_ordering o true false false ≡ true → o ≡ Less
less_of Less h = refl
less_of Equal h = let no : ⊥ = cc in absurd no
less_of Greater h = let no : ⊥ = cc in absurd no

pub suc_is : {m n : ℕ} → suc m ≡ suc n → m ≡ n
suc_is h = omega (arith, h)

rising_members : (before : Option (List ℕ)) (ks : List (List ℕ)) (ts : List Tree) → length ks ≡ length ts → Rising before ks → AreMembers (member_list (paired ks ts))
rising_members before [] ts same r = tt
rising_members before (k ∷ []) [] same r = tt
rising_members before (k ∷ []) (t ∷ ts) same r = r.0
rising_members before (k ∷ l ∷ ks) [] same r = tt
rising_members before (k ∷ l ∷ ks) (t ∷ []) same r = r.0
rising_members before (k ∷ l ∷ ks) (t ∷ u ∷ ts) same r = (r.0, less_of (key_cmp k l) r.2.1, rising_members (Some k) (l ∷ ks) (u ∷ ts) (suc_is same) r.2)

-- ---- members from keys and values

hold_trees : (ks : List (List ℕ)) (ts : List Tree) → AreTrees (trees ts) → HoldTrees (paired ks ts)
hold_trees [] ts a = tt
hold_trees (k ∷ ks) [] a = tt
hold_trees (k ∷ ks) (t ∷ ts) a = (a.0, hold_trees ks ts a.1)

hold_depth : (n : ℕ) (ks : List (List ℕ)) (ts : List Tree) → trees_depth (trees ts) ≤ n → members_depth (paired ks ts) ≤ n
hold_depth n [] ts h = omega arith
hold_depth n (k ∷ ks) [] h = omega arith
hold_depth n (k ∷ ks) (t ∷ ts) h =
    max_le (depth t) (members_depth (paired ks ts)) n (omega (arith, h)) (hold_depth n ks ts (omega (arith, h)))

hold_values : (bytes : List ℕ) (c : Container) (k floor : ℕ) (ks : List (List ℕ)) (ts : List Tree) → AreElements bytes c k floor (trees ts) → HoldValues bytes c k floor (paired ks ts)
hold_values bytes c k floor [] ts a = tt
hold_values bytes c k floor (l ∷ ks) [] a = tt
hold_values bytes c k floor (l ∷ ks) (t ∷ ts) a = (a.0, a.1, hold_values bytes c (suc k) (floor_after bytes c k floor) ks ts a.2)

paired_keys : (ks : List (List ℕ)) (ts : List Tree) → length ks ≡ length ts → map (λ m. m.0) (member_list (paired ks ts)) ≡ ks
paired_keys [] ts same = refl
paired_keys (k ∷ ks) [] same = let no : ⊥ = omega (arith, same) in absurd no
paired_keys (k ∷ ks) (t ∷ ts) same = ap (λ ls. k ∷ ls) (paired_keys ks ts (suc_is same))

paired_length : (ks : List (List ℕ)) (ts : List Tree) → length ks ≡ length ts → length (member_list (paired ks ts)) ≡ length ts
paired_length [] ts same = same
paired_length (k ∷ ks) [] same = omega (arith, same)
paired_length (k ∷ ks) (t ∷ ts) same = ap suc (paired_length ks ts (suc_is same))

pub elements_length : (ts : List Tree) → length (tree_list (trees ts)) ≡ length ts
elements_length [] = refl
elements_length (t ∷ ts) = ap suc (elements_length ts)

-- ---- containers

framed : (bytes : List ℕ) (c : Container) (limit : ℕ) → (nat_le (header_end c) limit && (nat_le (end bytes c) limit && nat_le (entries_end bytes c) (end bytes c))) ≡ true → IsFrame bytes c limit
framed bytes c limit h =
    let others = second_so (nat_le (header_end c) limit) (nat_le (end bytes c) limit && nat_le (entries_end bytes c) (end bytes c)) h in
    (leb-true (header_end c) limit (first_so _ _ h), leb-true (end bytes c) limit (first_so _ _ others), leb-true (entries_end bytes c) (end bytes c) (second_so _ _ others))

array_read : (bytes : List ℕ) (read : Spot → Result Tree Fault) (n : ℕ) → ((s : Spot) (t : Tree) → read s ≡ Ok t → IsRead bytes n s t)
    → (s : Spot) (c : Container) (t : Tree) → container_at bytes s ≡ Some c → c.is_object ≡ false → read_array read bytes c s.limit ≡ Ok t → IsRead bytes (suc n) s t
array_read bytes read n sound s c t here is_object h =
    let (inside, h1) = checked (nat_le (header_end c) s.limit && (nat_le (end bytes c) s.limit && nat_le (entries_end bytes c) (end bytes c))) _ _ h in
    let (ts, all, h2) = bind_ok (read_values read bytes c (count bytes c) 0 (entries_end bytes c)) _ h1 in
    let each = values_read bytes read n sound c (count bytes c) 0 (entries_end bytes c) ts all in
    subst (IsRead bytes (suc n) s) (ok_is h2) (
      each.1,
      omega (arith, each.2),
      subst (λ o. IsSomeAnd o (λ c. (c.is_object ≡ false) × IsFrame bytes c s.limit × (count bytes c ≡ length (tree_list (trees ts))) × AreElements bytes c 0 (entries_end bytes c) (trees ts)))
          (sym here) (is_object, framed bytes c s.limit inside, sym (elements_length ts ∙ each.0), each.3),
    )

object_read : (bytes : List ℕ) → IsBytes bytes → (read : Spot → Result Tree Fault) (n : ℕ) → ((s : Spot) (t : Tree) → read s ≡ Ok t → IsRead bytes n s t)
    → (s : Spot) (c : Container) (t : Tree) → container_at bytes s ≡ Some c → c.is_object ≡ true → read_object read bytes c s.limit ≡ Ok t → IsRead bytes (suc n) s t
object_read bytes are read n sound s c t here is_object h =
    let (inside, h1) = checked (nat_le (header_end c) s.limit && (nat_le (end bytes c) s.limit && nat_le (entries_end bytes c) (end bytes c))) _ _ h in
    let (ks, all_keys, h2) = bind_ok (read_keys bytes c (count bytes c) 0 (entries_end bytes c) None) _ h1 in
    let (ts, all, h3) = bind_ok (read_values read bytes c (count bytes c) 0 (values_floor bytes c)) _ h2 in
    let keys = keys_read bytes are c (count bytes c) 0 (entries_end bytes c) None ks all_keys in
    let each = values_read bytes read n sound c (count bytes c) 0 (values_floor bytes c) ts all in
    let same : length ks ≡ length ts = keys.0 ∙ sym each.0 in
    let bound = hold_depth n ks ts each.2 in
    subst (IsRead bytes (suc n) s) (ok_is h3) (
      (rising_members None ks ts same keys.2, hold_trees ks ts each.1),
      omega (arith, bound),
      subst (λ o. IsSomeAnd o (λ c. (c.is_object ≡ true) × IsFrame bytes c s.limit × (count bytes c ≡ length (member_list (paired ks ts)))
          × AreKeys bytes c 0 (entries_end bytes c) (map (λ m. m.0) (member_list (paired ks ts))) × HoldValues bytes c 0 (values_floor bytes c) (paired ks ts)))
          (sym here) (
            is_object,
            framed bytes c s.limit inside,
            sym (paired_length ks ts same ∙ each.0),
            subst (AreKeys bytes c 0 (entries_end bytes c)) (sym (paired_keys ks ts same)) keys.1,
            hold_values bytes c 0 (values_floor bytes c) ks ts each.3,
          ),
    )

-- ---- numbers

whole_pos : (n : ℕ) → n < 2 ^ 64 → IsWhole (pos n)
whole_pos n h = (omega (arith, h), lt_z_yes (T_from_true _ (lt-ltb n (2 ^ 64) h)))

whole_negsuc : (n : ℕ) → n < 2 ^ 63 → IsWhole (negsuc n)
whole_negsuc n h = (le_z_yes (T_from_true _ (le-leb n (2 ^ 63 - 1) (omega (arith, h)))), omega (arith, h))

whole_of : (top half n : ℕ) (b : Bool) → nat_lt n half ≡ b → n < top → top ≤ 2 ^ 64 → top ≤ half + half → half ≤ 2 ^ 63 → IsWhole (cond b (pos n) (negsuc (top - 1 - n)))
whole_of top half n true e h t d k = whole_pos n (omega (arith, h, t))
whole_of top half n false e h t d k = let low = ltb-false n half e in whole_negsuc (top - 1 - n) (omega (arith, h, d, k, low))

abbrev pub IsWidth : ℕ → Type 0
IsWidth w = (w ≡ 2) ⊎ ((w ≡ 4) ⊎ (w ≡ 8))

abbrev pub HasWidth : Kind → Type 0
HasWidth (signed w) = IsWidth w
HasWidth (unsigned w) = IsWidth w
HasWidth kind = Unit {0}

signed_whole : (w n : ℕ) → IsWidth w → n < 256 ^ w → IsWhole (signed_of (8 * w) n)
signed_whole w n (inl e) = subst (λ v. n < 256 ^ v → IsWhole (signed_of (8 * v) n)) (sym e) (λ h. whole_of (2 ^ 16) (2 ^ 15) n (nat_lt n (2 ^ 15)) refl h (lit≤ tt) (lit≤ tt) (lit≤ tt))
signed_whole w n (inr (inl e)) = subst (λ v. n < 256 ^ v → IsWhole (signed_of (8 * v) n)) (sym e) (λ h. whole_of (2 ^ 32) (2 ^ 31) n (nat_lt n (2 ^ 31)) refl h (lit≤ tt) (lit≤ tt) (lit≤ tt))
signed_whole w n (inr (inr e)) = subst (λ v. n < 256 ^ v → IsWhole (signed_of (8 * v) n)) (sym e) (λ h. whole_of (2 ^ 64) (2 ^ 63) n (nat_lt n (2 ^ 63)) refl h (lit≤ tt) (lit≤ tt) (lit≤ tt))

unsigned_whole : (w n : ℕ) → IsWidth w → n < 256 ^ w → IsWhole (pos n)
unsigned_whole w n (inl e) = subst (λ v. n < 256 ^ v → IsWhole (pos n)) (sym e) (λ h. whole_pos n (omega (arith, h)))
unsigned_whole w n (inr (inl e)) = subst (λ v. n < 256 ^ v → IsWhole (pos n)) (sym e) (λ h. whole_pos n (omega (arith, h)))
unsigned_whole w n (inr (inr e)) = subst (λ v. n < 256 ^ v → IsWhole (pos n)) (sym e) (λ h. whole_pos n (omega (arith, h)))

number_lt : (bytes : List ℕ) → IsBytes bytes → (w at : ℕ) → number_at bytes w at < 256 ^ w
unfolding number_at
number_lt bytes are w at = little_from-lt at w bytes are

has_width : (code : ℕ) → HasWidth (kind_of code)
unfolding kind_of
has_width zero = tt
has_width (suc zero) = tt
has_width (suc (suc zero)) = tt
has_width (suc (suc (suc zero))) = tt
has_width (suc (suc (suc (suc zero)))) = tt
has_width (suc (suc (suc (suc (suc zero))))) = inl refl
has_width (suc (suc (suc (suc (suc (suc zero)))))) = inl refl
has_width (suc (suc (suc (suc (suc (suc (suc zero))))))) = inr (inl refl)
has_width (suc (suc (suc (suc (suc (suc (suc (suc zero)))))))) = inr (inl refl)
has_width (suc (suc (suc (suc (suc (suc (suc (suc (suc zero))))))))) = inr (inr refl)
has_width (suc (suc (suc (suc (suc (suc (suc (suc (suc (suc zero)))))))))) = inr (inr refl)
has_width (suc (suc (suc (suc (suc (suc (suc (suc (suc (suc (suc zero))))))))))) = tt
has_width (suc (suc (suc (suc (suc (suc (suc (suc (suc (suc (suc (suc zero)))))))))))) = tt
has_width (suc (suc (suc (suc (suc (suc (suc (suc (suc (suc (suc (suc (suc n))))))))))))) = tt

-- ---- scalars

literal_read : (bytes : List ℕ) (n : ℕ) (s : Spot) (t : Tree) → kind_at bytes s.type_at ≡ literal → suc s.at ≤ s.limit → (b : ℕ) → slice_index bytes s.at ≡ b → literal_of s.at b ≡ Ok t → IsRead bytes n s t
literal_read bytes n s t kind inside zero e h = subst (IsRead bytes n s) (ok_is h) (tt, omega arith, (kind, inside, e))
literal_read bytes n s t kind inside (suc zero) e h = subst (IsRead bytes n s) (ok_is h) (tt, omega arith, (kind, inside, e))
literal_read bytes n s t kind inside (suc (suc zero)) e h = subst (IsRead bytes n s) (ok_is h) (tt, omega arith, (kind, inside, e))
literal_read bytes n s t kind inside (suc (suc (suc b))) e h = let no : ⊥ = cc in absurd no

text_read : (bytes : List ℕ) (n : ℕ) (s : Spot) (t : Tree) → kind_at bytes s.type_at ≡ string → (o : Option (ℕ × ℕ)) → text_range bytes s.at s.limit ≡ o → text_from bytes s.at o ≡ Ok t → IsRead bytes n s t
text_read bytes n s t kind None e h = let no : ⊥ = cc in absurd no
text_read bytes n s t kind (Some r) e h =
    let (utf8, h1) = checked (is_utf8 (slice_range bytes r.0 r.1)) _ _ h in
    subst (IsRead bytes n s) (ok_is h1)
    (IsUtf8-from_is_utf8 _ utf8, omega arith, (kind, subst (λ o. IsSomeAnd o (λ q. slice_range bytes q.0 q.1 ≡ slice_range bytes r.0 r.1)) (sym e) refl))

-- ---- a value by its kind, where containers are read so

as_read : (bytes : List ℕ) → IsBytes bytes → (n : ℕ) (s : Spot) (t : Tree) (in_array in_object : Container → ℕ → Result Tree Fault)
    → ((c : Container) → container_at bytes s ≡ Some c → c.is_object ≡ false → in_array c s.limit ≡ Ok t → IsRead bytes n s t)
    → ((c : Container) → container_at bytes s ≡ Some c → c.is_object ≡ true → in_object c s.limit ≡ Ok t → IsRead bytes n s t)
    → (kind : Kind) → kind_at bytes s.type_at ≡ kind → HasWidth kind → read_as kind in_array in_object bytes s ≡ Ok t → IsRead bytes n s t
as_read bytes are n s t f g arrays objects (array_in form) e w h = arrays (record { form = form; is_object = false; at = s.at }) (ap (λ k. container_as k s.at) e) refl h
as_read bytes are n s t f g arrays objects (object_in form) e w h = objects (record { form = form; is_object = true; at = s.at }) (ap (λ k. container_as k s.at) e) refl h
as_read bytes are n s t f g arrays objects literal e w h =
    let (inside, h1) = checked (nat_le (s.at + 1) s.limit) _ _ h in
    let low = leb-true (s.at + 1) s.limit inside in
    literal_read bytes n s t e (omega (arith, low)) (slice_index bytes s.at) refl h1
as_read bytes are n s t f g arrays objects (signed width) e w h =
    let (inside, h1) = checked (nat_le (s.at + width) s.limit) _ _ h in
    subst (IsRead bytes n s) (ok_is h1) (
      signed_whole width (number_at bytes width s.at) w (number_lt bytes are width s.at),
      omega arith,
      subst (λ k. IsNumberAs k bytes (signed_of (8 * width) (number_at bytes width s.at)) s) (sym e) (leb-true (s.at + width) s.limit inside, refl),
    )
as_read bytes are n s t f g arrays objects (unsigned width) e w h =
    let (inside, h1) = checked (nat_le (s.at + width) s.limit) _ _ h in
    subst (IsRead bytes n s) (ok_is h1) (
      unsigned_whole width (number_at bytes width s.at) w (number_lt bytes are width s.at),
      omega arith,
      subst (λ k. IsNumberAs k bytes (pos (number_at bytes width s.at)) s) (sym e) (leb-true (s.at + width) s.limit inside, refl),
    )
as_read bytes are n s t f g arrays objects string e w h = text_read bytes n s t e (text_range bytes s.at s.limit) refl h
as_read bytes are n s t f g arrays objects other e w h = let no : ⊥ = cc in absurd no

value_read : (bytes : List ℕ) → IsBytes bytes → (n : ℕ) (s : Spot) (t : Tree) → read_value n bytes s ≡ Ok t → IsRead bytes n s t
unfolding read_value
value_read bytes are zero s t h =
    as_read bytes are 0 s t (λ c limit. Err (Deep s.at)) (λ c limit. Err (Deep s.at)) (λ c e k g. let no : ⊥ = cc in absurd no) (λ c e k g. let no : ⊥ = cc in absurd no)
    (kind_at bytes s.type_at) refl (has_width (slice_index bytes s.type_at)) h
value_read bytes are (suc n) s t h =
    as_read bytes are (suc n) s t (read_array (read_value n bytes) bytes) (read_object (read_value n bytes) bytes)
    (λ c e k g. array_read bytes (read_value n bytes) n (value_read bytes are n) s c t e k g)
    (λ c e k g. object_read bytes are (read_value n bytes) n (value_read bytes are n) s c t e k g)
    (kind_at bytes s.type_at) refl (has_width (slice_index bytes s.type_at)) h

-- a tree that is read from bytes is one that they stand for
pub found_stands : (bytes : List ℕ) (t : Tree) → IsBytes bytes → first_fault bytes ≡ Ok t → Stands bytes t
unfolding first_fault
found_stands bytes t are h =
    let (some, h1) = checked (nat_lt 0 (length bytes)) _ _ h in
    let (u, value, h2) = bind_ok (read_value max_nested bytes (root bytes)) _ h1 in
    let (whole, h3) = checked (value_end bytes (root bytes) == length bytes) _ _ h2 in
    let this = value_read bytes are max_nested (root bytes) u value in
    subst (Stands bytes) (ok_is h3) (record { «tree» = this.0; nested = this.1; some = ltb-true 0 (length bytes) some; value = this.2; whole = eqb-true (value_end bytes (root bytes)) (length bytes) whole })
