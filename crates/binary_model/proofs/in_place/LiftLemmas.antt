-- An edit of one value, seen from each container around it up to the root.
use Rattle.std.proofs.Common.{◌≡◌, ℕ, suc, ◌+◌, ◌≤◌, ◌<◌, Bool, true, false, List, [], ◌∷◌, length, Option, Some, None, refl, sym, ap, subst, ◌∙◌, arith, cond, nat_le}
use Rattle.std.specs.Option.{option_and_then}
use Rattle.std.proofs.lemmas.Bool.{leb-true}
use Rattle.tree_model.specs.Tree.{Tree, tree_list, IsTree}
use Rattle.binary_model.specs.Layout.{Form, word, Kind, object_in, array_in, kind_of, is_inlined, Spot, kind_at, number_at, Container, container_as, container_at, end, header_end, value_entry, inlined, child, value_end}
use Rattle.binary_model.specs.Stands.{IsBytes, IsValue}
use Rattle.binary_model.specs.Canonical.{spelling}
use Rattle.binary_model.specs.Change.{end_before, start_from, room_start, room_end, in_entry, at_place, with_value, at_holder}
use Rattle.binary_model.proofs.in_place.AgreeLemmas.{some_is, Same, same_part, number_agrees}
use Rattle.binary_model.proofs.in_place.StayLemmas.{EntryMoved, kind_moved, behind_tag}
use Rattle.binary_model.proofs.in_place.AgainLemmas.{count_same, end_same, entry_same, entry_stays}
use Rattle.binary_model.proofs.in_place.RefitLemmas.{nth, rest}
use Rattle.binary_model.proofs.in_place.KidsLemmas.{kids, with_kid, Kids, to_kids, from_kids, Refits, refit}
use Rattle.binary_model.proofs.in_place.ReplaceLemmas.{Room, room_of, Lifted, Replaced, replaced_inlined, replaced_outside}

-- ---- a pair at a container

fits_room : (xs ys : List ℕ) (c : Container) (n r : ℕ) (t u : Tree) → IsBytes xs → Room xs c n r t → end xs c ≤ length xs → IsTree u → is_inlined c.form (spelling u).0 ≡ false
    → (b : Bool) → nat_le (room_start xs c n + length (spelling u).1) (room_end xs c n) ≡ b → cond b (Some (at_place xs c n (room_start xs c n) (spelling u))) None ≡ Some ys → Replaced xs ys c n r u
fits_room xs ys c n r t u octets room top is out true e h =
    subst (λ zs. Replaced xs zs c n r u) (some_is h) (replaced_outside xs c n r t u octets room top is out (leb-true (room_start xs c n + length (spelling u).1) (room_end xs c n) e))
fits_room xs ys c n r t u octets room top is out false e h = let no : ⊥ = cc in absurd no

replaced : (xs ys : List ℕ) (c : Container) (n r : ℕ) (t u : Tree) → IsBytes xs → Room xs c n r t → end xs c ≤ length xs → IsTree u → (b : Bool) → is_inlined c.form (spelling u).0 ≡ b
    → cond b (Some (in_entry xs c n (spelling u))) (cond (nat_le (room_start xs c n + length (spelling u).1) (room_end xs c n)) (Some (at_place xs c n (room_start xs c n) (spelling u))) None) ≡ Some ys → Replaced xs ys c n r u
replaced xs ys c n r t u octets room top is true e h = subst (λ zs. Replaced xs zs c n r u) (some_is h) (replaced_inlined xs c n r t u octets room top is e)
replaced xs ys c n r t u octets room top is false e h = fits_room xs ys c n r t u octets room top is e (nat_le (room_start xs c n + length (spelling u).1) (room_end xs c n)) refl h

-- what an action on a container's n-th value leaves
abbrev pub Acts : List ℕ → (Container → ℕ → Option (List ℕ)) → (Tree → ℕ → Tree) → Type 0
Acts xs act change = (t : Tree) (ys : List ℕ) (s : Spot) (c : Container) (n : ℕ) → Kids xs t s c → s.type_at < s.at → s.limit ≤ length xs → n < length (tree_list (kids t)) → act c n ≡ Some ys
    → Lifted xs ys (change t n) s

-- a replaced value leaves bytes that stand for the container with it
pub kid_replaced : (xs : List ℕ) (u : Tree) → IsBytes xs → IsTree u → Acts xs (with_value xs (spelling u)) (λ t n. with_kid t n u)
kid_replaced xs u octets is t ys s c n h type_at limit low e =
    let r = length (tree_list (rest (kids t) n)) in
    let room = room_of xs t s c n h low in
    let inside = h.frame.1 in
    let a = room.head.0 in
    let b = room.head.1 in
    let d = room.head.2 in
    let place = h.place in
    let new = replaced xs ys c n r (nth (kids t) n) u octets room (omega (arith, inside, limit)) is (is_inlined c.form (spelling u).0) refl e in
    let kind : kind_at ys s.type_at ≡ kind_at xs s.type_at = ap kind_of (sym (new.3 s.type_at (omega arith) (omega (arith, type_at, a, b, d, place)))) in
    let done = refit t xs ys s c n u new.0 h low kind new.2 in
    let ends = h.ends xs in
    record {
      len = new.0;
      octets = new.1;
      value = from_kids ys (with_kid t n u) s c done.0;
      ends = done.1;
      below = same_part xs ys 0 (value_entry xs c n) 0 s.at new.3 (omega arith) (omega (arith, a, b, d, place));
      above = λ i first. new.4 i (omega (arith, first, ends));
    }

-- ---- one container further up

child_same : (xs ys : List ℕ) (c : Container) (n : ℕ) → value_entry ys c n ≡ value_entry xs c n → end ys c ≡ end xs c → EntryMoved xs ys c n n → child ys c n ≡ child xs c n
child_same xs ys c n place ends e =
    let inl : inlined ys c n ≡ inlined xs c n = ap (is_inlined c.form) (kind_moved xs ys c n n e) in
    let number : number_at ys (word c.form) (suc (value_entry ys c n)) ≡ number_at xs (word c.form) (suc (value_entry xs c n)) =
    sym (number_agrees xs ys (suc (value_entry xs c n)) (suc (value_entry ys c n)) (word c.form) (behind_tag xs ys c n n e)) in
    ap (λ b. record { type_at = value_entry ys c n; at = cond b (suc (value_entry ys c n)) (c.at + number_at ys (word c.form) (suc (value_entry ys c n))); limit = end ys c }) inl
    ∙ ap (λ m. record { type_at = value_entry ys c n; at = cond (inlined xs c n) (suc (value_entry ys c n)) (c.at + m); limit = end ys c }) number
    ∙ ap (λ m. record { type_at = m; at = cond (inlined xs c n) (suc m) (c.at + number_at xs (word c.form) (suc (value_entry xs c n))); limit = end ys c }) place
    ∙ ap (λ m. record { type_at = value_entry xs c n; at = cond (inlined xs c n) (suc (value_entry xs c n)) (c.at + number_at xs (word c.form) (suc (value_entry xs c n))); limit = m }) ends

pub kid_lifted : (xs ys : List ℕ) (t u : Tree) (s : Spot) (c : Container) (n : ℕ) → Kids xs t s c → s.type_at < s.at → n < length (tree_list (kids t)) → inlined xs c n ≡ false → Lifted xs ys u (child xs c n)
    → Lifted xs ys (with_kid t n u) s
kid_lifted xs ys t u s c n h type_at low out l =
    let r = length (tree_list (rest (kids t) n)) in
    let room = room_of xs t s c n h low in
    let a = room.head.0 in
    let b = room.head.1 in
    let d = room.head.2 in
    let next = room.entry in
    let entries = room.entries in
    let floor = room.floor in
    let first = room.placed out in
    let start = room.start in
    let last = room.top in
    let place = h.place in
    let stop : end_before xs c (suc n) ≡ value_end xs (child xs c n) = ap (λ b. cond b (end_before xs c n) (value_end xs (child xs c n))) out in
    let below = l.below in
    let at = (child xs c n).at in
    let before : Same xs ys c.at (value_entry xs c n) = same_part xs ys 0 at c.at (value_entry xs c n) below (omega arith) (omega (arith, next, entries, floor, first)) in
    let head : Same xs ys c.at (header_end c) = same_part xs ys c.at (value_entry xs c n) c.at (header_end c) before (omega arith) (omega (arith, b, d)) in
    let many = count_same xs ys c head in
    let ends = end_same xs ys c head in
    let entry_eq = entry_same xs ys c n many in
    let entry = entry_stays xs ys c n 0 at many below (omega arith) (omega (arith, next, entries, floor, first)) in
    let same = child_same xs ys c n entry_eq ends entry in
    let inl : inlined ys c n ≡ false = ap (is_inlined c.form) (kind_moved xs ys c n n entry) ∙ out in
    let end_eq : value_end ys (child ys c n) ≡ end_before xs c (suc n) = ap (value_end ys) same ∙ l.ends ∙ sym stop in
    let kind : kind_at ys s.type_at ≡ kind_at xs s.type_at = ap kind_of (sym (below s.type_at (omega arith) (omega (arith, type_at, place, a, b, d, next, entries, floor, first)))) in
    let new : Refits xs ys c n r u = record {
      before = before;
      middle = same_part xs ys 0 at (value_entry xs c (suc n)) (end_before xs c n) below (omega arith) first;
      placed = λ f. subst (λ s. end_before xs c n ≤ s.at) (sym same) first;
      value = subst (IsValue ys u) (sym same) l.value;
      last = subst (λ b. cond b (end_before xs c n) (value_end ys (child ys c n)) ≤ start_from xs c r (suc n)) (sym inl) (omega (arith, end_eq, start));
      later = λ i above below. l.above i (omega (arith, above, stop, start));
    } in
    let done = refit t xs ys s c n u l.len h low kind new in
    let top = h.ends xs in
    record {
      len = l.len;
      octets = l.octets;
      value = from_kids ys (with_kid t n u) s c done.0;
      ends = done.1;
      below = same_part xs ys 0 at 0 s.at below (omega arith) (omega (arith, place, a, b, d, next, entries, floor, first));
      above = λ i above. l.above i (omega (arith, above, top, stop, start, last));
    }

-- ---- all the way

-- a tree changed in the container at the end of positions
abbrev pub changed_at : (Tree → ℕ → Tree) → List ℕ → Tree → Tree
changed_at change [] t = t
changed_at change (k ∷ []) t = change t k
changed_at change (k ∷ l ∷ ls) t = with_kid t k (changed_at change (l ∷ ls) (nth (kids t) k))

-- the positions lead into the tree
abbrev pub Reaches : List ℕ → Tree → Type 0
Reaches [] t = Unit {0}
Reaches (k ∷ ks) t = (k < length (tree_list (kids t))) × Reaches ks (nth (kids t) k)

container_outside : (form : Form) (kind : Kind) (at : ℕ) (c : Container) → container_as kind at ≡ Some c → is_inlined form kind ≡ false
container_outside form (object_in f) at c e = refl
container_outside form (array_in f) at c e = refl
container_outside form kind at c e = let no : ⊥ = cc in absurd no

in_container : (act : Container → Option (List ℕ)) (o : Option Container) (c : Container) (ys : List ℕ) → o ≡ Some c → option_and_then act o ≡ Some ys → act c ≡ Some ys
in_container act None c ys e h = let no : ⊥ = cc in absurd no
in_container act (Some d) c ys e h = subst (λ x. act x ≡ Some ys) (some_is e) h

-- what a change makes of a container it makes of each around it
pub lifted : (xs : List ℕ) (act : Container → ℕ → Option (List ℕ)) (change : Tree → ℕ → Tree) → Acts xs act change → (ks : List ℕ) (t : Tree) (ys : List ℕ) (s : Spot) → IsValue xs t s → s.type_at < s.at → s.limit ≤ length xs
    → Reaches ks t → at_holder xs act s ks ≡ Some ys → Lifted xs ys (changed_at change ks t) s
lifted xs act change acts [] t ys s v type_at limit reach e = let no : ⊥ = cc in absurd no
lifted xs act change acts (k ∷ []) t ys s v type_at limit reach e =
    let low = reach.0 in
    let (c, h) = to_kids xs t s v (omega (arith, low)) in
    acts t ys s c k h type_at limit low (in_container (λ c. act c k) (container_at xs s) c ys h.is e)
lifted xs act change acts (k ∷ l ∷ ls) t ys s v type_at limit reach e =
    let low = reach.0 in
    let under = reach.1.0 in
    let (c, h) = to_kids xs t s v (omega (arith, low)) in
    let room = room_of xs t s c k h low in
    let kid = nth (kids t) k in
    let (inner, g) = to_kids xs kid (child xs c k) room.value (omega (arith, under)) in
    let out : inlined xs c k ≡ false = container_outside c.form (kind_at xs (value_entry xs c k)) (child xs c k).at inner g.is in
    let first = room.placed out in
    let next = room.entry in
    let entries = room.entries in
    let floor = room.floor in
    let inside = h.frame.1 in
    kid_lifted xs ys t (changed_at change (l ∷ ls) kid) s c k h type_at low out
    (lifted xs act change acts (l ∷ ls) kid ys (child xs c k) room.value (omega (arith, first, next, entries, floor)) (omega (arith, inside, limit)) reach.1
    (in_container (λ c. at_holder xs act (child xs c k) (l ∷ ls)) (container_at xs s) c ys h.is e))
