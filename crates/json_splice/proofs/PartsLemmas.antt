-- A container laid anew from its parts is its tree with another value.
use Rattle.std.proofs.Common.{◌≡◌, ℕ, zero, suc, ◌+◌, ◌-◌, ◌≤◌, ◌<◌, true, false, List, [], ◌∷◌, ◌++◌, length, map, take, drop, slice_index, Option, Some, None, Result, Ok, Err, IfOk, IfSome, IsSomeAnd, refl, sym, ap, subst, ◌∙◌, arith, cond, append_assoc, append-nil}
use Rattle.std.specs.Prelude.{◌==◌, if◌then◌else◌}
use Rattle.std.proofs.Math.Dec.{eqb-suc-zero, eqb-zero-suc, eqb-suc-suc}
use Rattle.std.proofs.lemmas.List.{map-append, length-map, take_all}
use Rattle.tree_model.specs.Tree.{Tree, null, boolean, number, text, array, object, Trees, no_trees, tree, tree_list, Members, no_members, member, member_list, depth}
use Rattle.binary_model.specs.Layout.{Spot, Container, container_as, container_at, count, entries_end, values_floor, key_of, child}
use Rattle.binary_model.specs.Stands.{truth_byte, IsFrame, IsValue, AreKeys, AreElements, HoldValues}
use Rattle.binary_model.specs.Canonical.{Spelling, spelling, spellings}
use Rattle.binary_model.proofs.reading.StandLemmas.{values, values_depth, values_stand, values_length}
use Rattle.binary_model.proofs.in_place.RefitLemmas.{nth, with_element, with_length}
use Rattle.binary_model.proofs.in_place.KidsLemmas.{with_nth_member, keys_with}
use Rattle.binary_model.proofs.in_place.PositionLemmas.{put_at}
use Rattle.json_splice.specs.Spelled.{HasKeys, NamesKeys, HoldsTrees, container_spelling}
use Rattle.json_splice.specs.Parts.{key_in, part_in, keys_in, parts_in}
use Rattle.json_splice.specs.declared.parts.Part.{Part}
use Rattle.json_splice.specs.declared.parts.Range.{Range}
use Rattle.json_splice.proofs.KeysLemmas.{nth_key}
use Rattle.json_splice.proofs.ValuesLemmas.{nth_value, nth_depth, spelled_from, none_left}
use Rattle.json_splice.proofs.ContainerLemmas.{array_spelled, object_spelled, no_literal, no_number}

-- ---- what is collected

-- one more of a list that is collected
one_more : {X Y : Type 0} (f : X → Y) (old new : List X) (x : X) (y : Y) (left more all : List Y) → new ≡ old ++ x ∷ [] → f x ≡ y → left ≡ y ∷ more → map f old ++ left ≡ all → map f new ++ more ≡ all
one_more f old new x y left more all e is next so_far =
    ap (λ l. map f l ++ more) e ∙ ap (λ l. l ++ more) (map-append f old (x ∷ [])) ∙ ap (λ z. (map f old ++ z ∷ []) ++ more) is ∙ append_assoc (map f old) (y ∷ []) more ∙ ap (λ l. map f old ++ l) (sym next) ∙ so_far

-- one key more
pub key_collected : (bytes : List ℕ) (c : Container) (k start : ℕ) (ks : List (List ℕ)) (old new : List Range) (r : Range) → AreKeys bytes c 0 start ks → k < length ks → new ≡ old ++ r ∷ [] → key_in bytes r ≡ key_of bytes c k
    → keys_in bytes old ++ drop k ks ≡ ks → keys_in bytes new ++ drop (k + 1) ks ≡ ks
key_collected bytes c k start ks old new r a low e is so_far =
    let z : 0 + k ≡ k = omega arith in
    let one : suc k ≡ k + 1 = omega arith in
    let next : drop k ks ≡ key_of bytes c k ∷ drop (k + 1) ks = (nth_key bytes c 0 start k ks a low).0 ∙ ap (λ i. key_of bytes c i ∷ drop (suc k) ks) z ∙ ap (λ i. key_of bytes c k ∷ drop i ks) one in
    one_more (key_in bytes) old new r (key_of bytes c k) (drop k ks) (drop (k + 1) ks) ks e is next so_far

-- the k-th of values whose n-th is another
nth_with : (ts : Trees) (k n : ℕ) (w : Tree) → k < length (tree_list ts) → nth (with_element ts n w) k ≡ (if k == n then w else nth ts k)
nth_with no_trees k n w low = absurd (omega (arith, low))
nth_with (tree t ts) zero zero w low = refl
nth_with (tree t ts) zero (suc n) w low = ap (λ b. cond b w t) (sym (eqb-zero-suc n))
nth_with (tree t ts) (suc k) zero w low = ap (λ b. cond b w (nth ts k)) (sym (eqb-suc-zero k))
nth_with (tree t ts) (suc k) (suc n) w low = nth_with ts k n w (omega (arith, low)) ∙ ap (λ b. cond b w (nth ts k)) (sym (eqb-suc-suc k n))

-- one value more
pub part_collected : (bytes new_bytes : List ℕ) (c : Container) (k n nesting : ℕ) (ts : Trees) (w : Tree) (old new : List Part) (p : Part) → HoldsTrees bytes c nesting ts → k < length (tree_list ts) → new ≡ old ++ p ∷ []
    → ((t : Tree) → IsValue bytes t (child bytes c k) → depth t ≤ nesting → part_in bytes new_bytes p ≡ spelling (if k == n then w else t))
    → parts_in bytes new_bytes old ++ drop k (spellings (with_element ts n w)) ≡ spellings (with_element ts n w) → parts_in bytes new_bytes new ++ drop (k + 1) (spellings (with_element ts n w)) ≡ spellings (with_element ts n w)
part_collected bytes new_bytes c k n nesting ts w old new p holds low e found so_far =
    let us = with_element ts n w in
    let z : 0 + k ≡ k = omega arith in
    let one : suc k ≡ k + 1 = omega arith in
    let deep = nth_depth k ts low in
    let most = holds.shallow in
    let is = found (nth ts k) (subst (λ i. IsValue bytes (nth ts k) (child bytes c i)) z (nth_value bytes c 0 holds.floor k ts holds.elements low)) (omega (arith, deep, most)) in
    let many = with_length ts n w in
    let next : drop k (spellings us) ≡ spelling (nth us k) ∷ drop (k + 1) (spellings us) = spelled_from k us (omega (arith, low, many)) ∙ ap (λ i. spelling (nth us k) ∷ drop i (spellings us)) one in
    one_more (part_in bytes new_bytes) old new p (spelling (nth us k)) (drop k (spellings us)) (drop (k + 1) (spellings us)) (spellings us) e (is ∙ ap spelling (sym (nth_with ts k n w low))) next so_far

-- all of them
pub parts_collected : (bytes new_bytes : List ℕ) (k n : ℕ) (ts : Trees) (w : Tree) (ps : List Part) → length (tree_list ts) ≤ k → parts_in bytes new_bytes ps ++ drop k (spellings (with_element ts n w)) ≡ spellings (with_element ts n w) → parts_in bytes new_bytes ps ≡ spellings (with_element ts n w)
parts_collected bytes new_bytes k n ts w ps past so_far =
    let many = with_length ts n w in
    sym (append-nil (parts_in bytes new_bytes ps)) ∙ ap (λ l. parts_in bytes new_bytes ps ++ l) (sym (none_left k (with_element ts n w) (omega (arith, past, many)))) ∙ so_far

-- ---- what is laid

values_with : (ms : Members) (n : ℕ) (u : Tree) → values (with_nth_member ms n u) ≡ with_element (values ms) n u
values_with no_members n u = refl
values_with (member k t ms) zero u = refl
values_with (member k t ms) (suc n) u = ap (tree t) (values_with ms n u)

module _ (bytes : List ℕ) (s : Spot) (c : Container) (w : Tree) (k nesting : ℕ) (ks : List ℕ) (x out : Spelling) (keys : List (List ℕ)) (parts : List Spelling) (e : container_at bytes s ≡ Some c) (low : k < count bytes c) where
  abbrev Inner : Type 0
  Inner = (u : Tree) → IsValue bytes u (child bytes c k) → depth u ≤ nesting - 1 → x ≡ spelling (put_at ks w u)

  abbrev Parts : Type 0
  Parts = (ts : Trees) (v : Tree) → HoldsTrees bytes c (nesting - 1) ts → x ≡ spelling v → parts ≡ spellings (with_element ts k v)

  laid_values : (ts : Trees) → HoldsTrees bytes c (nesting - 1) ts → Inner → Parts → parts ≡ spellings (with_element ts k (put_at ks w (nth ts k)))
  laid_values ts holds inner collected =
      let many = holds.number in
      let most = holds.shallow in
      let here : k < length (tree_list ts) = omega (arith, low, many) in
      let deep = nth_depth k ts here in
      let z : 0 + k ≡ k = omega arith in
      collected ts (put_at ks w (nth ts k)) holds (inner (nth ts k) (subst (λ i. IsValue bytes (nth ts k) (child bytes c i)) z (nth_value bytes c 0 holds.floor k ts holds.elements here)) (omega (arith, deep, most)))

  -- a container of the parts is the spelling of the tree with the new value
  pub laid_is : (t : Tree) → IsValue bytes t s → depth t ≤ nesting → Inner → ((l : List (List ℕ)) → NamesKeys bytes c l → keys ≡ l) → Parts → out ≡ container_spelling c.is_object keys parts → out ≡ spelling (put_at (k ∷ ks) w t)
  laid_is null v deep inner named collected is = absurd (no_literal bytes s c 0 e v)
  laid_is (boolean b) v deep inner named collected is = absurd (no_literal bytes s c (truth_byte b) e v)
  laid_is (number z) v deep inner named collected is = absurd (no_number _ bytes z s c e v)
  laid_is (text letters) v deep inner named collected is = let bad = sym e ∙ ap (λ k. container_as k s.at) v.0 in let no : ⊥ = cc in absurd no
  laid_is (array ts) v deep inner named collected is =
      let p = subst (λ o. IsSomeAnd o (λ c. (c.is_object ≡ false) × IsFrame bytes c s.limit × (count bytes c ≡ length (tree_list ts)) × AreElements bytes c 0 (entries_end bytes c) ts)) e v in
      let holds : HoldsTrees bytes c (nesting - 1) ts = record { floor = entries_end bytes c; elements = p.3; number = sym p.2; shallow = omega (arith, deep) } in
      let u = put_at ks w (nth ts k) in
      is ∙ (λ i. container_spelling (p.0 i) (named [] (subst (HasKeys bytes c []) (sym p.0) refl) i) (laid_values ts holds inner collected i)) ∙ sym (array_spelled (with_element ts k u))
  laid_is (object ms) v deep inner named collected is =
      let p = subst (λ o. IsSomeAnd o (λ c. (c.is_object ≡ true) × IsFrame bytes c s.limit × (count bytes c ≡ length (member_list ms)) × AreKeys bytes c 0 (entries_end bytes c) (map (λ m. m.0) (member_list ms))
      × HoldValues bytes c 0 (values_floor bytes c) ms)) e v in
      let ls = map (λ m. m.0) (member_list ms) in
      let d = values_depth ms in
      let many = length-map (member_list ms) (λ m. m.0) in
      let holds : HoldsTrees bytes c (nesting - 1) (values ms) = record { floor = values_floor bytes c; elements = values_stand bytes c 0 (values_floor bytes c) ms p.4; number = sym (values_length ms) ∙ sym p.2; shallow = omega (arith, deep, d) } in
      let u = put_at ks w (nth (values ms) k) in
      let new = with_nth_member ms k u in
      is ∙ (λ i. container_spelling (p.0 i) (named ls (subst (HasKeys bytes c ls) (sym p.0) (many ∙ sym p.2, (entries_end bytes c, p.3))) i) (laid_values (values ms) holds inner collected i))
      ∙ (λ i. container_spelling true (sym (keys_with ms k u) i) (spellings (sym (values_with ms k u) i))) ∙ sym (object_spelled new)

-- what holds of an answer's value, where there is one
pub on_found : {A E : Type 0} (P Q : A → Type 0) (r : Result (Option A) E) → ((x : A) → P x → Q x) → IfOk r (λ o. IfSome o P) → IfOk r (λ o. IfSome o Q)
on_found P Q (Ok (Some x)) f h = f x h
on_found P Q (Ok None) f h = tt
on_found P Q (Err e) f h = tt

-- the first of a list, and the others
pub parted : (ps : List ℕ) → 1 ≤ length ps → ps ≡ slice_index ps 0 ∷ take (length ps - 1) (drop 1 ps)
parted [] h = absurd (omega (arith, h))
parted (p ∷ ps) h = ap (λ l. p ∷ l) (sym (take_all (suc (length ps) - 1) ps (omega arith)))
