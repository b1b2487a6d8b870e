-- What stands in the bytes is read.
use Rattle.std.proofs.Common.{◌≡◌, ℕ, zero, suc, ◌+◌, ◌≤◌, ◌^◌, max, ℤ, Bool, true, false, ◌&&◌, ◌||◌, ◌==◌, List, [], ◌∷◌, length, map, slice_range, Option, Some, None, Result, Ok, Err, refl, sym, ap, subst, ◌∙◌, arith, nat_le, nat_lt, cond, IsSomeAnd}
use Rattle.std.specs.Option.{option_and_then}
use Rattle.std.specs.Str.{IsUtf8, is_utf8}
use Rattle.std.specs.Cmp.{second_so}
use Rattle.std.specs.Cmp.Derive.{both_true}
use Rattle.std.specs.declared.cmp.Ordering.{Ordering}
use Rattle.std.specs.declared.cmp.Ordering.TheVariants.{Less, Equal, Greater}
use Rattle.std.specs.Ordering.{match_ordering}
use Rattle.std.proofs.lemmas.Bool.{leb-true, lt-ltb, le-leb, eq-eqb}
use Rattle.std.proofs.lemmas.Str.{is_utf8-from_IsUtf8}
use Rattle.tree_model.specs.Tree.{Tree, null, boolean, number, text, array, object, Trees, no_trees, tree, tree_list, trees, Members, no_members, member, member_list, depth, trees_depth, members_depth, key_cmp, AreMembers, AreTrees, HoldTrees}
use Rattle.binary_model.specs.Layout.{Kind, signed, unsigned, object_in, array_in, Spot, root, kind_at, text_range, range_in, grouped, Container, container_as, count, end, header_end, entries_end, key_at, key_end, key_of, value_entry, values_floor, inlined, child, value_end, floor_after}
use Rattle.binary_model.specs.Stands.{truth_byte, IsLiteral, IsNumberAs, IsText, IsFrame, AreKeys, IsValue, AreElements, HoldValues, Stands, max_nested}
use Rattle.binary_model.specs.FirstFault.{Fault, ◌>>=◌, require, typed, known_type, literal_of, text_from, is_after, read_keys, is_placed, read_values, paired, read_array, read_object, read_as, read_value, first_fault}
use Rattle.binary_model.proofs.reading.ReadLemmas.{ok_is, Rising, IsRead}

bind_of : {A B : Type 0} (r : Result A Fault) (f : A → Result B Fault) {x : A} {y : B} → r ≡ Ok x → f x ≡ Ok y → (r >>= f) ≡ Ok y
bind_of (Ok z) f {x} {y} e h = subst (λ w. f w ≡ Ok y) (sym (ok_is {x = z} {y = x} e)) h
bind_of (Err z) f e h = let no : ⊥ = cc in absurd no

pass : {B : Type 0} (b : Bool) (e : Fault) (r : Result B Fault) {y : B} → b ≡ true → r ≡ Ok y → (require b e >>= (λ _. r)) ≡ Ok y
pass true e r t h = h
pass false e r t h = let no : ⊥ = cc in absurd no

-- ---- what a value in place shows of its type and its place

abbrev Shown : Kind → Spot → Type 0
Shown kind s = ((fault : Fault) → typed kind fault ≡ Ok tt) × (s.at ≤ s.limit)

number_shown : (bytes : List ℕ) (z : ℤ) (s : Spot) (kind : Kind) → IsNumberAs kind bytes z s → Shown kind s
number_shown bytes z s (signed width) h = (λ fault. refl, let low = h.0 in omega (arith, low))
number_shown bytes z s (unsigned width) h = (λ fault. refl, let low = h.0 in omega (arith, low))
number_shown bytes z s kind h = absurd h

range_at : (at limit : ℕ) (r : ℕ × ℕ) (P : ℕ × ℕ → Type 0) (b : Bool) → (nat_lt r.0 (2 ^ 32) && nat_le (at + r.1 + r.0) limit) ≡ b
    → IsSomeAnd (cond b (Some (at + r.1, at + r.1 + r.0)) None) P → at ≤ limit
range_at at limit r P true e h = let low = leb-true (at + r.1 + r.0) limit (second_so (nat_lt r.0 (2 ^ 32)) (nat_le (at + r.1 + r.0) limit) e) in omega (arith, low)
range_at at limit r P false e h = absurd h

text_at : (at limit : ℕ) (P : ℕ × ℕ → Type 0) (o : Option (ℕ × ℕ)) → IsSomeAnd (option_and_then (range_in at limit) o) P → at ≤ limit
text_at at limit P None h = absurd h
text_at at limit P (Some r) h = range_at at limit r P _ refl h

text_shown : (bytes letters : List ℕ) (s : Spot) → IsText bytes letters s → Shown (kind_at bytes s.type_at) s
unfolding text_range
text_shown bytes letters s h = subst (λ k. Shown k s) (sym h.0) (λ fault. refl, text_at s.at s.limit (λ r. slice_range bytes r.0 r.1 ≡ letters) (grouped 5 (slice_range bytes s.at s.limit)) h.1)

literal_shown : (bytes : List ℕ) (b : ℕ) (s : Spot) → IsLiteral bytes b s → Shown (kind_at bytes s.type_at) s
literal_shown bytes b s h = subst (λ k. Shown k s) (sym h.0) (λ fault. refl, let low = h.1 in omega (arith, low))

container_shown : (P : Container → Type 0) (s : Spot) (kind : Kind) → ((c : Container) → P c → header_end c ≤ s.limit) → IsSomeAnd (container_as kind s.at) P → Shown kind s
container_shown P s (array_in form) f h = (λ fault. refl, let low = f (record { form = form; is_object = false; at = s.at }) h in omega (arith, low))
container_shown P s (object_in form) f h = (λ fault. refl, let low = f (record { form = form; is_object = true; at = s.at }) h in omega (arith, low))
container_shown P s kind f h = absurd h

shown : (bytes : List ℕ) (t : Tree) (s : Spot) → IsValue bytes t s → Shown (kind_at bytes s.type_at) s
shown bytes null s h = literal_shown bytes 0 s h
shown bytes (boolean b) s h = literal_shown bytes (truth_byte b) s h
shown bytes (number z) s h = number_shown bytes z s (kind_at bytes s.type_at) h
shown bytes (text letters) s h = text_shown bytes letters s h
shown bytes (array ts) s h = container_shown _ s (kind_at bytes s.type_at) (λ c p. p.1.0) h
shown bytes (object ms) s h = container_shown _ s (kind_at bytes s.type_at) (λ c p. p.1.0) h

-- ---- values of a container

placed_so : (b : Bool) (f a e : ℕ) → (b ≡ false → f ≤ a) → a ≤ e → (b || (nat_le f a && nat_le a e)) ≡ true
placed_so true f a e h k = refl
placed_so false f a e h k = both_true (le-leb f a (h refl)) (le-leb a e k)

values_found : (bytes : List ℕ) (read : Spot → Result Tree Fault) (n : ℕ) → ((s : Spot) (t : Tree) → IsRead bytes n s t → read s ≡ Ok t)
    → (c : Container) (k floor : ℕ) (ts : Trees) → AreTrees ts → trees_depth ts ≤ n → AreElements bytes c k floor ts
    → read_values read bytes c (length (tree_list ts)) k floor ≡ Ok (tree_list ts)
values_found bytes read n complete c k floor no_trees a d h = refl
values_found bytes read n complete c k floor (tree t ts) a d h =
    let seen = shown bytes t (child bytes c k) h.1 in
    let first : depth t ≤ n = omega (arith, d) in
    let others : trees_depth ts ≤ n = omega (arith, d) in
    bind_of (known_type bytes (value_entry bytes c k)) _ (seen.0 _)
    (pass (is_placed bytes c k floor) _ _ (placed_so (inlined bytes c k) floor (child bytes c k).at (end bytes c) h.0 seen.1)
    (bind_of (read (child bytes c k)) _ (complete (child bytes c k) t (a.0, first, h.1))
    (bind_of (read_values read bytes c (length (tree_list ts)) (suc k) (floor_after bytes c k floor)) _
    (values_found bytes read n complete c (suc k) (floor_after bytes c k floor) ts a.1 others h.2) refl)))

-- ---- keys

keys_found : (bytes : List ℕ) (c : Container) (k floor : ℕ) (before : Option (List ℕ)) (ks : List (List ℕ)) → AreKeys bytes c k floor ks → Rising before ks
    → read_keys bytes c (length ks) k floor before ≡ Ok ks
keys_found bytes c k floor before [] a r = refl
keys_found bytes c k floor before (l ∷ ks) a r =
    let e = sym a.2 in
    let utf8 = subst (λ x. IsUtf8 x) e r.0.1 in
    let after = subst (λ x. is_after before x ≡ true) e r.1 in
    let rest = subst (λ x. Rising (Some x) ks) e r.2 in
    pass (nat_le floor (key_at bytes c k) && nat_le (key_end bytes c k) (end bytes c)) _ _ (both_true (le-leb _ _ a.0) (le-leb _ _ a.1))
    (pass (is_utf8 (key_of bytes c k)) _ _ (is_utf8-from_IsUtf8 _ utf8)
    (pass (is_after before (key_of bytes c k)) _ _ after
    (bind_of (read_keys bytes c (length ks) (suc k) (key_end bytes c k) (Some (key_of bytes c k))) _
    (keys_found bytes c (suc k) (key_end bytes c k) (Some (key_of bytes c k)) ks a.3 rest) (ap (λ x. Ok (x ∷ ks)) a.2))))

less_so : (o : Ordering) → o ≡ Less → match_ordering o true false false ≡ true
less_so Less h = refl
less_so Equal h = let no : ⊥ = cc in absurd no
less_so Greater h = let no : ⊥ = cc in absurd no

abbrev first_key : List (List ℕ × Tree) → Option (List ℕ) → Type 0
first_key [] before = Unit {0}
first_key (m ∷ ms) before = is_after before m.0 ≡ true

members_rise : (before : Option (List ℕ)) (ms : List (List ℕ × Tree)) → first_key ms before → AreMembers ms → Rising before (map (λ m. m.0) ms)
members_rise before [] f a = tt
members_rise before (m ∷ []) f a = (a, f, tt)
members_rise before (m ∷ n ∷ ms) f a = (a.0, f, members_rise (Some m.0) (n ∷ ms) (less_so (key_cmp m.0 n.0) a.1) a.2)

none_before : (ms : List (List ℕ × Tree)) → first_key ms None
none_before [] = tt
none_before (m ∷ ms) = refl

-- ---- the values of members

-- the values of members
abbrev pub values : Members → Trees
values no_members = no_trees
values (member k t ms) = tree t (values ms)

values_trees : (ms : Members) → HoldTrees ms → AreTrees (values ms)
values_trees no_members a = tt
values_trees (member k t ms) a = (a.0, values_trees ms a.1)

-- are as deep as the members
pub values_depth : (ms : Members) → trees_depth (values ms) ≡ members_depth ms
values_depth no_members = refl
values_depth (member k t ms) = ap (max (depth t)) (values_depth ms)

-- stand as an array's elements do
pub values_stand : (bytes : List ℕ) (c : Container) (k floor : ℕ) (ms : Members) → HoldValues bytes c k floor ms → AreElements bytes c k floor (values ms)
values_stand bytes c k floor no_members a = tt
values_stand bytes c k floor (member l t ms) a = (a.0, a.1, values_stand bytes c (suc k) (floor_after bytes c k floor) ms a.2)

-- and are as many as the members
pub values_length : (ms : Members) → length (member_list ms) ≡ length (tree_list (values ms))
values_length no_members = refl
values_length (member k t ms) = ap suc (values_length ms)

-- as are the keys
pub keys_length : (ms : Members) → length (map (λ m. m.0) (member_list ms)) ≡ length (member_list ms)
keys_length no_members = refl
keys_length (member k t ms) = ap suc (keys_length ms)

paired_again : (ms : Members) → paired (map (λ m. m.0) (member_list ms)) (tree_list (values ms)) ≡ ms
paired_again no_members = refl
paired_again (member k t ms) = ap (member k t) (paired_again ms)

elements_again : (ts : Trees) → trees (tree_list ts) ≡ ts
elements_again no_trees = refl
elements_again (tree t ts) = ap (tree t) (elements_again ts)

-- ---- containers

frame_so : (bytes : List ℕ) (c : Container) (limit : ℕ) → IsFrame bytes c limit → (nat_le (header_end c) limit && (nat_le (end bytes c) limit && nat_le (entries_end bytes c) (end bytes c))) ≡ true
frame_so bytes c limit f = both_true (le-leb _ _ f.0) (both_true (le-leb _ _ f.1) (le-leb _ _ f.2))

array_ok : (bytes : List ℕ) (read : Spot → Result Tree Fault) (n : ℕ) → ((s : Spot) (t : Tree) → IsRead bytes n s t → read s ≡ Ok t)
    → (c : Container) (limit : ℕ) (ts : Trees) → AreTrees ts → trees_depth ts ≤ n
    → IsFrame bytes c limit → count bytes c ≡ length (tree_list ts) → AreElements bytes c 0 (entries_end bytes c) ts → read_array read bytes c limit ≡ Ok (array ts)
array_ok bytes read n complete c limit ts a d f e h =
    pass (nat_le (header_end c) limit && (nat_le (end bytes c) limit && nat_le (entries_end bytes c) (end bytes c))) _ _ (frame_so bytes c limit f)
    (bind_of (read_values read bytes c (count bytes c) 0 (entries_end bytes c)) _
    (subst (λ m. read_values read bytes c m 0 (entries_end bytes c) ≡ Ok (tree_list ts)) (sym e) (values_found bytes read n complete c 0 (entries_end bytes c) ts a d h))
    (ap (λ us. Ok (array us)) (elements_again ts)))

object_ok : (bytes : List ℕ) (read : Spot → Result Tree Fault) (n : ℕ) → ((s : Spot) (t : Tree) → IsRead bytes n s t → read s ≡ Ok t)
    → (c : Container) (limit : ℕ) (ms : Members) → AreMembers (member_list ms) → HoldTrees ms → members_depth ms ≤ n
    → IsFrame bytes c limit → count bytes c ≡ length (member_list ms) → AreKeys bytes c 0 (entries_end bytes c) (map (λ m. m.0) (member_list ms))
    → HoldValues bytes c 0 (values_floor bytes c) ms → read_object read bytes c limit ≡ Ok (object ms)
object_ok bytes read n complete c limit ms m a d f e ks h =
    let low : trees_depth (values ms) ≤ n = subst (λ x. x ≤ n) (sym (values_depth ms)) d in
    pass (nat_le (header_end c) limit && (nat_le (end bytes c) limit && nat_le (entries_end bytes c) (end bytes c))) _ _ (frame_so bytes c limit f)
    (bind_of (read_keys bytes c (count bytes c) 0 (entries_end bytes c) None) _
    (subst (λ m. read_keys bytes c m 0 (entries_end bytes c) None ≡ Ok (map (λ m. m.0) (member_list ms))) (keys_length ms ∙ sym e)
    (keys_found bytes c 0 (entries_end bytes c) None (map (λ m. m.0) (member_list ms)) ks (members_rise None (member_list ms) (none_before (member_list ms)) m)))
    (bind_of (read_values read bytes c (count bytes c) 0 (values_floor bytes c)) _
    (subst (λ m. read_values read bytes c m 0 (values_floor bytes c) ≡ Ok (tree_list (values ms))) (sym (e ∙ values_length ms))
    (values_found bytes read n complete c 0 (values_floor bytes c) (values ms) (values_trees ms a) low (values_stand bytes c 0 (values_floor bytes c) ms h)))
    (ap (λ x. Ok (object x)) (paired_again ms))))

-- ---- scalars

literal_found : (bytes : List ℕ) (s : Spot) (f g : Container → ℕ → Result Tree Fault) (b : ℕ) (t : Tree) → literal_of s.at b ≡ Ok t → IsLiteral bytes b s → read_as (kind_at bytes s.type_at) f g bytes s ≡ Ok t
literal_found bytes s f g b t e h =
    let low : s.at + 1 ≤ s.limit = let l = h.1 in omega (arith, l) in
    subst (λ k. read_as k f g bytes s ≡ Ok t) (sym h.0)
    (pass (nat_le (s.at + 1) s.limit) _ _ (le-leb (s.at + 1) s.limit low) (subst (λ x. literal_of s.at x ≡ Ok t) (sym h.2) e))

truth_found : (place : ℕ) (b : Bool) → literal_of place (truth_byte b) ≡ Ok (boolean b)
truth_found place true = refl
truth_found place false = refl

number_found : (bytes : List ℕ) (s : Spot) (f g : Container → ℕ → Result Tree Fault) (z : ℤ) (kind : Kind) → IsNumberAs kind bytes z s → read_as kind f g bytes s ≡ Ok (number z)
number_found bytes s f g z (signed width) h = pass (nat_le (s.at + width) s.limit) _ _ (le-leb _ _ h.0) (ap (λ y. Ok (number y)) h.1)
number_found bytes s f g z (unsigned width) h = pass (nat_le (s.at + width) s.limit) _ _ (le-leb _ _ h.0) (ap (λ y. Ok (number y)) h.1)
number_found bytes s f g z kind h = absurd h

letters_found : (bytes letters : List ℕ) (at : ℕ) → IsUtf8 letters → (o : Option (ℕ × ℕ)) → IsSomeAnd o (λ r. slice_range bytes r.0 r.1 ≡ letters) → text_from bytes at o ≡ Ok (text letters)
letters_found bytes letters at utf8 None h = absurd h
letters_found bytes letters at utf8 (Some r) h =
    pass (is_utf8 (slice_range bytes r.0 r.1)) _ _ (is_utf8-from_IsUtf8 _ (subst (λ x. IsUtf8 x) (sym h) utf8)) (ap (λ x. Ok (text x)) h)

text_found : (bytes : List ℕ) (s : Spot) (f g : Container → ℕ → Result Tree Fault) (letters : List ℕ) → IsUtf8 letters → IsText bytes letters s → read_as (kind_at bytes s.type_at) f g bytes s ≡ Ok (text letters)
text_found bytes s f g letters utf8 h =
    subst (λ k. read_as k f g bytes s ≡ Ok (text letters)) (sym h.0) (letters_found bytes letters s.at utf8 (text_range bytes s.at s.limit) h.1)

-- ---- a container by its kind

array_found : (bytes : List ℕ) (s : Spot) (f g : Container → ℕ → Result Tree Fault) (t : Tree) (P : Container → Type 0) → ((c : Container) → P c → f c s.limit ≡ Ok t)
    → ((c : Container) → P c → c.is_object ≡ false) → (kind : Kind) → IsSomeAnd (container_as kind s.at) P → read_as kind f g bytes s ≡ Ok t
array_found bytes s f g t P h apart (array_in form) p = h _ p
array_found bytes s f g t P h apart (object_in form) p = let e = apart (record { form = form; is_object = true; at = s.at }) p in let no : ⊥ = cc in absurd no
array_found bytes s f g t P h apart kind p = absurd p

object_found : (bytes : List ℕ) (s : Spot) (f g : Container → ℕ → Result Tree Fault) (t : Tree) (P : Container → Type 0) → ((c : Container) → P c → g c s.limit ≡ Ok t)
    → ((c : Container) → P c → c.is_object ≡ true) → (kind : Kind) → IsSomeAnd (container_as kind s.at) P → read_as kind f g bytes s ≡ Ok t
object_found bytes s f g t P h apart (object_in form) p = h _ p
object_found bytes s f g t P h apart (array_in form) p = let e = apart (record { form = form; is_object = false; at = s.at }) p in let no : ⊥ = cc in absurd no
object_found bytes s f g t P h apart kind p = absurd p

-- ---- all values

-- a value that stands in place is read
pub value_found : (bytes : List ℕ) (n : ℕ) (s : Spot) (t : Tree) → IsRead bytes n s t → read_value n bytes s ≡ Ok t
unfolding read_value
value_found bytes zero s null h = literal_found bytes s _ _ 0 null refl h.2
value_found bytes zero s (boolean b) h = literal_found bytes s _ _ (truth_byte b) (boolean b) (truth_found s.at b) h.2
value_found bytes zero s (number z) h = number_found bytes s _ _ z (kind_at bytes s.type_at) h.2
value_found bytes zero s (text letters) h = text_found bytes s _ _ letters h.0 h.2
value_found bytes zero s (array ts) h = let low = h.1 in let no : ⊥ = omega (arith, low) in absurd no
value_found bytes zero s (object ms) h = let low = h.1 in let no : ⊥ = omega (arith, low) in absurd no
value_found bytes (suc n) s null h = literal_found bytes s _ _ 0 null refl h.2
value_found bytes (suc n) s (boolean b) h = literal_found bytes s _ _ (truth_byte b) (boolean b) (truth_found s.at b) h.2
value_found bytes (suc n) s (number z) h = number_found bytes s _ _ z (kind_at bytes s.type_at) h.2
value_found bytes (suc n) s (text letters) h = text_found bytes s _ _ letters h.0 h.2
value_found bytes (suc n) s (array ts) h =
    let deep = h.1 in
    let low : trees_depth ts ≤ n = omega (arith, deep) in
    array_found bytes s (read_array (read_value n bytes) bytes) (read_object (read_value n bytes) bytes) (array ts)
    (λ c. (c.is_object ≡ false) × IsFrame bytes c s.limit × (count bytes c ≡ length (tree_list ts)) × AreElements bytes c 0 (entries_end bytes c) ts)
    (λ c p. array_ok bytes (read_value n bytes) n (value_found bytes n) c s.limit ts h.0 low p.1 p.2 p.3)
    (λ c p. p.0) (kind_at bytes s.type_at) h.2
value_found bytes (suc n) s (object ms) h =
    let deep = h.1 in
    let low : members_depth ms ≤ n = omega (arith, deep) in
    object_found bytes s (read_array (read_value n bytes) bytes) (read_object (read_value n bytes) bytes) (object ms)
    (λ c. (c.is_object ≡ true) × IsFrame bytes c s.limit × (count bytes c ≡ length (member_list ms))
    × AreKeys bytes c 0 (entries_end bytes c) (map (λ m. m.0) (member_list ms)) × HoldValues bytes c 0 (values_floor bytes c) ms)
    (λ c p. object_ok bytes (read_value n bytes) n (value_found bytes n) c s.limit ms h.0.0 h.0.1 low p.1 p.2 p.3 p.4)
    (λ c p. p.0) (kind_at bytes s.type_at) h.2

-- a document that stands for a tree is read as it
pub stand_found : (bytes : List ℕ) (t : Tree) → Stands bytes t → first_fault bytes ≡ Ok t
unfolding first_fault
stand_found bytes t h =
    pass (nat_lt 0 (length bytes)) _ _ (lt-ltb 0 (length bytes) h.some)
    (bind_of (read_value max_nested bytes (root bytes)) _ (value_found bytes max_nested (root bytes) t (h.«tree», h.nested, h.value))
    (pass (value_end bytes (root bytes) == length bytes) _ _ (eq-eqb (value_end bytes (root bytes)) (length bytes) h.whole) refl))

-- bytes stand for one tree at most
pub one_tree : (bytes : List ℕ) (t u : Tree) → Stands bytes t → Stands bytes u → t ≡ u
one_tree bytes t u h k = ok_is (sym (stand_found bytes t h) ∙ stand_found bytes u k)
