-- The values of a container stand in other bytes too: each entry may have moved, and what isn't inlined has stayed.
use Rattle.std.proofs.Common.{◌≡◌, ℕ, zero, suc, ◌+◌, ◌*◌, ◌≤◌, ◌<◌, ℤ, Bool, true, false, List, [], ◌∷◌, length, map, slice_range, refl, sym, ap, ap₂, subst, ◌∙◌, arith, cond, IsSomeAnd, mul-le-mul_right}
use Rattle.tree_model.specs.Tree.{Tree, null, boolean, number, text, array, object, Trees, no_trees, tree, tree_list, Members, no_members, member, member_list}
use Rattle.binary_model.specs.Layout.{word, Kind, object_in, array_in, Spot, kind_at, Container, container_as, count, end, header_end, key_entry, values_at, entries_end, value_entry, key_at, key_end, key_of, keys_end, values_floor, inlined, child, value_end, end_as, floor_after, key_width, value_width}
use Rattle.binary_model.specs.Stands.{truth_byte, IsNumberAs, IsFrame, AreKeys, AreElements, HoldValues}
use Rattle.binary_model.specs.Change.{start_from}
use Rattle.binary_model.proofs.in_place.AgreeLemmas.{Agree, Same, same_part, same_agree, agree_part, number_agrees, range_same}
use Rattle.binary_model.proofs.reading.StandLemmas.{values, values_stand, values_length, keys_length}
use Rattle.binary_model.proofs.canonical.RoundLemmas.{hold_back}
use Rattle.binary_model.proofs.in_place.StayLemmas.{bounds, typed_at, Stays, AllStay, literal_stays, number_stays, text_stays, EntryMoved, one_again}

-- ---- values

-- the values that are left begin at or behind the floor
pub floor_low : (bytes : List ℕ) (c : Container) (ts : Trees) (j floor : ℕ) → AreElements bytes c j floor ts → floor ≤ end bytes c → floor ≤ start_from bytes c (length (tree_list ts)) j
floor_low bytes c no_trees j floor h low = low
floor_low bytes c (tree t ts) j floor h low = go (inlined bytes c j) refl (λ rest. floor_low bytes c ts (suc j) floor rest low)
  where
    go : (b : Bool) → inlined bytes c j ≡ b → (AreElements bytes c (suc j) floor ts → floor ≤ start_from bytes c (length (tree_list ts)) (suc j))
        → floor ≤ cond b (start_from bytes c (length (tree_list ts)) (suc j)) (child bytes c j).at
    go true e later = later (subst (λ b. AreElements bytes c (suc j) (cond b floor (value_end bytes (child bytes c j))) ts) e h.2)
    go false e later = h.0 e

-- so many entries stand in other bytes too, from the l-th on in place of the j-th
abbrev pub NextEntries : List ℕ → List ℕ → Container → ℕ → ℕ → ℕ → Type 0
NextEntries xs ys c j l n = (m : ℕ) → m < n → EntryMoved xs ys c (j + m) (l + m)

first_entry : (xs ys : List ℕ) (c : Container) (j l n : ℕ) → NextEntries xs ys c j l (suc n) → EntryMoved xs ys c j l
first_entry xs ys c j l n h =
    let left : j + 0 ≡ j = omega arith in
    let right : l + 0 ≡ l = omega arith in
    subst (λ i. EntryMoved xs ys c i l) left (subst (λ i. EntryMoved xs ys c (j + 0) i) right (h 0 (omega arith)))

later_entries : (xs ys : List ℕ) (c : Container) (j l n : ℕ) → NextEntries xs ys c j l (suc n) → NextEntries xs ys c (suc j) (suc l) n
later_entries xs ys c j l n h = λ m low.
    let left : j + suc m ≡ suc j + m = omega arith in
    let right : l + suc m ≡ suc l + m = omega arith in
    subst (λ i. EntryMoved xs ys c i (suc l + m)) left (subst (λ i. EntryMoved xs ys c (j + suc m) i) right (h (suc m) (omega (arith, low))))

-- then the elements stand there too
pub elements_again : (ts : Trees) → AllStay ts → (xs ys : List ℕ) (c : Container) (j l floor above low : ℕ) → length xs ≡ length ys → end ys c ≡ end xs c
    → AreElements xs c j floor ts → NextEntries xs ys c j l (length (tree_list ts)) → Same xs ys low (end xs c)
    → low ≤ start_from xs c (length (tree_list ts)) j → above ≤ start_from xs c (length (tree_list ts)) j → AreElements ys c l above ts
elements_again no_trees stay xs ys c j l floor above low len ends h entries same first placed = tt
elements_again (tree t ts) stay xs ys c j l floor above low len ends h entries same first placed = go (inlined xs c j) refl (λ floor above rest first placed.
    elements_again ts stay.1 xs ys c (suc j) (suc l) floor above low len ends rest (later_entries xs ys c j l (length (tree_list ts)) entries) same first placed)
  where
    entry : EntryMoved xs ys c j l
    entry = first_entry xs ys c j l (length (tree_list ts)) entries

    go : (b : Bool) → inlined xs c j ≡ b
        → ((floor above : ℕ) → AreElements xs c (suc j) floor ts → low ≤ start_from xs c (length (tree_list ts)) (suc j) → above ≤ start_from xs c (length (tree_list ts)) (suc j) → AreElements ys c (suc l) above ts)
        → AreElements ys c l above (tree t ts)
    go true e again =
        let one = one_again t stay.0 xs ys c j l len entry ends h.1 true e (λ f. let no : ⊥ = cc in absurd no) in
        let start : start_from xs c (suc (length (tree_list ts))) j ≡ start_from xs c (length (tree_list ts)) (suc j) = ap (λ b. cond b (start_from xs c (length (tree_list ts)) (suc j)) (child xs c j).at) e in (
          (λ f. let no : ⊥ = let g = one.0 in cc in absurd no),
          one.1,
          subst (λ b. AreElements ys c (suc l) (cond b above (value_end ys (child ys c l))) ts) (sym one.0)
              (again (floor_after xs c j floor) above h.2
              (subst (λ n. low ≤ n) start first) (subst (λ n. above ≤ n) start placed)),
        )
    go false e again =
        let start : start_from xs c (suc (length (tree_list ts))) j ≡ (child xs c j).at = ap (λ b. cond b (start_from xs c (length (tree_list ts)) (suc j)) (child xs c j).at) e in
        let low_at : low ≤ (child xs c j).at = subst (λ n. low ≤ n) start first in
        let above_at : above ≤ (child xs c j).at = subst (λ n. above ≤ n) start placed in
        let extent = bounds xs t (child xs c j) h.1 in
        let wide : (child xs c j).at ≤ value_end xs (child xs c j) = extent.0 in
        let inside : value_end xs (child xs c j) ≤ end xs c = extent.1 in
        let one = one_again t stay.0 xs ys c j l len entry ends h.1 false e (λ f. same_part xs ys low (end xs c) (child xs c j).at (value_end xs (child xs c j)) same low_at inside) in
        let there = one.2 refl in
        let rest : AreElements xs c (suc j) (value_end xs (child xs c j)) ts = subst (λ b. AreElements xs c (suc j) (cond b floor (value_end xs (child xs c j))) ts) e h.2 in
        let next = floor_low xs c ts (suc j) (value_end xs (child xs c j)) rest inside in (
          (λ f. subst (λ n. above ≤ n) (sym there.0) above_at),
          one.1,
          subst (λ b. AreElements ys c (suc l) (cond b above (value_end ys (child ys c l))) ts) (sym one.0)
              (subst (λ n. AreElements ys c (suc l) n ts) (sym there.1)
              (again (value_end xs (child xs c j)) (value_end xs (child xs c j)) rest
              (omega (arith, low_at, wide, next)) next)),
        )

-- ---- keys

-- the same of key entries
abbrev pub NextKeys : List ℕ → List ℕ → Container → ℕ → ℕ → ℕ → Type 0
NextKeys xs ys c j l n = (m : ℕ) → m < n → Agree xs (key_entry c (j + m)) ys (key_entry c (l + m)) (key_width c.form)

first_key : (xs ys : List ℕ) (c : Container) (j l n : ℕ) → NextKeys xs ys c j l (suc n) → Agree xs (key_entry c j) ys (key_entry c l) (key_width c.form)
first_key xs ys c j l n h =
    let left : j + 0 ≡ j = omega arith in
    let right : l + 0 ≡ l = omega arith in
    subst (λ i. Agree xs (key_entry c i) ys (key_entry c l) (key_width c.form)) left (subst (λ i. Agree xs (key_entry c (j + 0)) ys (key_entry c i) (key_width c.form)) right (h 0 (omega arith)))

later_keys : (xs ys : List ℕ) (c : Container) (j l n : ℕ) → NextKeys xs ys c j l (suc n) → NextKeys xs ys c (suc j) (suc l) n
later_keys xs ys c j l n h = λ m low.
    let left : j + suc m ≡ suc j + m = omega arith in
    let right : l + suc m ≡ suc l + m = omega arith in
    subst (λ i. Agree xs (key_entry c i) ys (key_entry c (suc l + m)) (key_width c.form)) left
    (subst (λ i. Agree xs (key_entry c (j + suc m)) ys (key_entry c i) (key_width c.form)) right (h (suc m) (omega (arith, low))))

-- a key begins where its entry says, in other bytes too
pub key_at_moved : (xs ys : List ℕ) (c : Container) (j l : ℕ) → Agree xs (key_entry c j) ys (key_entry c l) (key_width c.form) → key_at ys c l ≡ key_at xs c j
key_at_moved xs ys c j l a = ap (λ n. c.at + n) (sym (number_agrees xs ys (key_entry c j) (key_entry c l) (word c.form) (λ i below. a i (omega (arith, below)))))

-- and ends there
pub key_end_moved : (xs ys : List ℕ) (c : Container) (j l : ℕ) → Agree xs (key_entry c j) ys (key_entry c l) (key_width c.form) → key_end ys c l ≡ key_end xs c j
key_end_moved xs ys c j l a = ap₂ (λ m n. m + n) (key_at_moved xs ys c j l a)
    (sym (number_agrees xs ys (key_entry c j + word c.form) (key_entry c l + word c.form) 2 (agree_part xs ys (key_entry c j) (key_entry c l) (key_width c.form) (word c.form) 2 a (omega arith))))

-- the keys that are left end at or before the top
abbrev pub KeysBelow : List ℕ → Container → ℕ → ℕ → ℕ → Type 0
KeysBelow bytes c j n top = (m : ℕ) → m < n → key_end bytes c (j + m) ≤ top

later_below : (bytes : List ℕ) (c : Container) (j n top : ℕ) → KeysBelow bytes c j (suc n) top → KeysBelow bytes c (suc j) n top
later_below bytes c j n top h = λ m low. let e : j + suc m ≡ suc j + m = omega arith in subst (λ i. key_end bytes c i ≤ top) e (h (suc m) (omega (arith, low)))

first_below : (bytes : List ℕ) (c : Container) (j n top : ℕ) → KeysBelow bytes c j (suc n) top → key_end bytes c j ≤ top
first_below bytes c j n top h = let e : j + 0 ≡ j = omega arith in subst (λ i. key_end bytes c i ≤ top) e (h 0 (omega arith))

joined_below : (bytes : List ℕ) (c : Container) (j n top : ℕ) → key_end bytes c j ≤ top → KeysBelow bytes c (suc j) n top → KeysBelow bytes c j (suc n) top
joined_below bytes c j n top first h zero low = let e : j ≡ j + 0 = omega arith in subst (λ i. key_end bytes c i ≤ top) e first
joined_below bytes c j n top first h (suc m) low = let e : suc j + m ≡ j + suc m = omega arith in subst (λ i. key_end bytes c i ≤ top) e (h m (omega (arith, low)))

-- keys end within the size
pub keys_inside : (ks : List (List ℕ)) (bytes : List ℕ) (c : Container) (j floor : ℕ) → AreKeys bytes c j floor ks → KeysBelow bytes c j (length ks) (end bytes c)
keys_inside [] bytes c j floor h = λ m low. let no : ⊥ = omega (arith, low) in absurd no
keys_inside (k ∷ ks) bytes c j floor h = joined_below bytes c j (length ks) (end bytes c) h.1 (keys_inside ks bytes c (suc j) (key_end bytes c j) h.3)

-- keys that stand in other bytes too are the same keys
pub keys_again : (ks : List (List ℕ)) (xs ys : List ℕ) (c : Container) (j l floor above top : ℕ) → length xs ≡ length ys → end ys c ≡ end xs c → above ≤ floor → AreKeys xs c j floor ks
    → NextKeys xs ys c j l (length ks) → KeysBelow xs c j (length ks) top → Same xs ys floor top → AreKeys ys c l above ks
keys_again [] xs ys c j l floor above top len ends low h entries below same = tt
keys_again (k ∷ ks) xs ys c j l floor above top len ends low h entries below same =
    let entry = first_key xs ys c j l (length ks) entries in
    let start = key_at_moved xs ys c j l entry in
    let stop = key_end_moved xs ys c j l entry in
    let first = h.0 in
    let last = h.1 in
    let letters : key_of ys c l ≡ key_of xs c j =
    ap₂ (λ a b. slice_range ys a b) start stop
    ∙ sym (range_same xs ys (key_at xs c j) (key_end xs c j) len (same_part xs ys floor top (key_at xs c j) (key_end xs c j) same first (first_below xs c j (length ks) top below))) in
    let wide : key_at xs c j ≤ key_end xs c j = omega arith in (
      omega (arith, low, first, start),
      omega (arith, last, stop, ends),
      letters ∙ h.2,
      keys_again ks xs ys c (suc j) (suc l) (key_end xs c j) (key_end ys c l) top len ends (omega (arith, stop)) h.3 (later_keys xs ys c j l (length ks) entries) (later_below xs c j (length ks) top below)
          (same_part xs ys floor top (key_end xs c j) top same (omega (arith, first, wide)) (omega arith)),
    )

-- where the keys end at the latest
pub keys_low : (ks : List (List ℕ)) (bytes : List ℕ) (c : Container) (j : ℕ) → AreKeys bytes c j (keys_end bytes c j) ks → keys_end bytes c j ≤ end bytes c
    → (keys_end bytes c j ≤ keys_end bytes c (j + length ks)) × (keys_end bytes c (j + length ks) ≤ end bytes c)
keys_low [] bytes c j h low =
    let e : j ≡ j + 0 = omega arith in
    subst (λ n. (keys_end bytes c j ≤ keys_end bytes c n) × (keys_end bytes c n ≤ end bytes c)) e (omega arith, low)
keys_low (k ∷ ks) bytes c j h low =
    let e : suc j + length ks ≡ j + suc (length ks) = omega arith in
    let rest = keys_low ks bytes c (suc j) h.3 h.1 in
    let more = rest.0 in
    let first = h.0 in
    subst (λ n. (keys_end bytes c j ≤ keys_end bytes c n) × (keys_end bytes c n ≤ end bytes c)) e (omega (arith, first, more), rest.1)

-- keys end before the last of them does
pub keys_under : (ks : List (List ℕ)) (bytes : List ℕ) (c : Container) (j : ℕ) → AreKeys bytes c j (keys_end bytes c j) ks → KeysBelow bytes c j (length ks) (keys_end bytes c (j + length ks))
keys_under [] bytes c j h = λ m low. let no : ⊥ = omega (arith, low) in absurd no
keys_under (k ∷ ks) bytes c j h =
    let e : suc j + length ks ≡ j + suc (length ks) = omega arith in
    subst (λ n. KeysBelow bytes c j (suc (length ks)) (keys_end bytes c n)) e
    (joined_below bytes c j (length ks) (keys_end bytes c (suc j + length ks)) (keys_low ks bytes c (suc j) h.3 h.1).0 (keys_under ks bytes c (suc j) h.3))

-- ---- a container whose header and entries are the same

-- an earlier value's entry ends where a later one begins, or before it
pub entry_within : (bytes : List ℕ) (c : Container) (m n : ℕ) → m < n → value_entry bytes c m + value_width c.form ≤ value_entry bytes c n
entry_within bytes c m n low = let more : suc m * value_width c.form ≤ n * value_width c.form = mul-le-mul_right (value_width c.form) low in omega (arith, more)

-- an earlier key entry ends where a later one begins, or before it
pub key_within : (c : Container) (m n : ℕ) → m < n → key_entry c m + key_width c.form ≤ key_entry c n
key_within c m n low = let more : suc m * key_width c.form ≤ n * key_width c.form = mul-le-mul_right (key_width c.form) low in omega (arith, more)

-- where the headers are the same, so are the counts
pub count_same : (xs ys : List ℕ) (c : Container) → Same xs ys c.at (header_end c) → count ys c ≡ count xs c
count_same xs ys c s = sym (number_agrees xs ys c.at c.at (word c.form) (same_agree xs ys c.at (header_end c) c.at (word c.form) s (omega arith) (omega arith)))

-- and the ends
pub end_same : (xs ys : List ℕ) (c : Container) → Same xs ys c.at (header_end c) → end ys c ≡ end xs c
end_same xs ys c s = ap (λ n. c.at + n) (sym (number_agrees xs ys (c.at + word c.form) (c.at + word c.form) (word c.form) (same_agree xs ys c.at (header_end c) (c.at + word c.form) (word c.form) s (omega arith) (omega arith))))

pub values_at_same : (xs ys : List ℕ) (c : Container) → count ys c ≡ count xs c → values_at ys c ≡ values_at xs c
values_at_same xs ys c e = ap (λ n. cond c.is_object (key_entry c n) (header_end c)) e

-- where the counts are the same, so are the places of the entries
pub entry_same : (xs ys : List ℕ) (c : Container) (k : ℕ) → count ys c ≡ count xs c → value_entry ys c k ≡ value_entry xs c k
entry_same xs ys c k e = ap (λ n. n + k * value_width c.form) (values_at_same xs ys c e)

-- and their end
pub entries_end_same : (xs ys : List ℕ) (c : Container) → count ys c ≡ count xs c → entries_end ys c ≡ entries_end xs c
entries_end_same xs ys c e = ap₂ (λ m n. m + n * value_width c.form) (values_at_same xs ys c e) e

-- an entry that stays, where its bytes do
pub entry_stays : (xs ys : List ℕ) (c : Container) (k low high : ℕ) → count ys c ≡ count xs c → Same xs ys low high → low ≤ value_entry xs c k → value_entry xs c k + value_width c.form ≤ high → EntryMoved xs ys c k k
entry_stays xs ys c k low high e s first last =
    let same = entry_same xs ys c k e in (
      omega (arith, same),
      subst (λ n. Agree xs (value_entry xs c k) ys n (value_width c.form)) (sym same) (same_agree xs ys low high (value_entry xs c k) (value_width c.form) s first last),
    )

-- the value entries begin behind the header
pub values_first : (bytes : List ℕ) (c : Container) → header_end c ≤ values_at bytes c
values_first bytes c = go c.is_object
  where
    go : (b : Bool) → header_end c ≤ cond b (key_entry c (count bytes c)) (header_end c)
    go true = omega arith
    go false = omega arith

keys_end_same : (xs ys : List ℕ) (c : Container) (n : ℕ) → count ys c ≡ count xs c → Same xs ys c.at (key_entry c n) → keys_end ys c n ≡ keys_end xs c n
keys_end_same xs ys c zero e s = entries_end_same xs ys c e
keys_end_same xs ys c (suc k) e s = key_end_moved xs ys c k k (same_agree xs ys c.at (key_entry c (suc k)) (key_entry c k) (key_width c.form) s (omega arith) (omega arith))

-- where the keys' entries are the same, so is the values' floor
pub values_floor_same : (xs ys : List ℕ) (c : Container) → Same xs ys c.at (values_at xs c) → values_floor ys c ≡ values_floor xs c
values_floor_same xs ys c s = go c.is_object refl
  where
    many : count ys c ≡ count xs c
    many = let low = values_first xs c in count_same xs ys c (same_part xs ys c.at (values_at xs c) c.at (header_end c) s (omega arith) (omega (arith, low)))

    go : (b : Bool) → c.is_object ≡ b → cond b (keys_end ys c (count ys c)) (entries_end ys c) ≡ cond b (keys_end xs c (count xs c)) (entries_end xs c)
    go true e = ap (keys_end ys c) many ∙ keys_end_same xs ys c (count xs c) many (subst (Same xs ys c.at) (ap (λ b. cond b (key_entry c (count xs c)) (header_end c)) e) s)
    go false e = entries_end_same xs ys c many

-- a frame of the same count and end is one again
pub frame_same : (xs ys : List ℕ) (c : Container) (limit : ℕ) → count ys c ≡ count xs c → end ys c ≡ end xs c → IsFrame xs c limit → IsFrame ys c limit
frame_same xs ys c limit many ends f =
    let a = f.1 in
    let b = f.2 in
    let e = entries_end_same xs ys c many in
    (f.0, omega (arith, a, ends), omega (arith, b, ends, e))

pub entries_stay : (xs ys : List ℕ) (c : Container) (n : ℕ) → count ys c ≡ count xs c → n ≤ count xs c → Same xs ys c.at (entries_end xs c) → NextEntries xs ys c 0 0 n
entries_stay xs ys c n many most s = λ m low.
    let first = values_first xs c in
    let last = entry_within xs c (0 + m) (count xs c) (omega (arith, low, most)) in
    entry_stays xs ys c (0 + m) c.at (entries_end xs c) many s (omega (arith, first)) last

-- key entries that aren't touched stand in the new bytes
pub keys_stay : (xs ys : List ℕ) (c : Container) (n : ℕ) → Same xs ys c.at (key_entry c n) → NextKeys xs ys c 0 0 n
keys_stay xs ys c n s = λ m low.
    let last = key_within c (0 + m) n (omega (arith, low)) in
    same_agree xs ys c.at (key_entry c n) (key_entry c (0 + m)) (key_width c.form) s (omega arith) last

-- ---- containers

-- a container in place that has these trees as elements
abbrev pub HasElements : List ℕ → ℕ → Trees → Container → Type 0
HasElements bytes limit ts c = (c.is_object ≡ false) × IsFrame bytes c limit × (count bytes c ≡ length (tree_list ts)) × AreElements bytes c 0 (entries_end bytes c) ts

array_kind : (ts : Trees) → AllStay ts → (xs ys : List ℕ) (s : Spot) (type_at : ℕ) → length xs ≡ length ys → (kind : Kind) → Same xs ys s.at (end_as xs kind s)
    → IsSomeAnd (container_as kind s.at) (HasElements xs s.limit ts) → IsSomeAnd (container_as kind s.at) (HasElements ys s.limit ts) × (end_as ys kind (typed_at s type_at) ≡ end_as xs kind s)
array_kind ts all xs ys s type_at len (array_in form) same p =
    let c : Container = record { form = form; is_object = false; at = s.at } in
    let f = p.1 in
    let whole = f.2 in
    let head : Same xs ys c.at (header_end c) = same_part xs ys s.at (end xs c) c.at (header_end c) same (omega arith) (omega (arith, whole)) in
    let many = count_same xs ys c head in
    let ends = end_same xs ys c head in
    let last = entries_end_same xs ys c many in
    let number = p.2 in
    let low = floor_low xs c ts 0 (entries_end xs c) p.3 whole in (
      (
        p.0,
        frame_same xs ys c s.limit many ends f,
        many ∙ number,
        elements_again ts all xs ys c 0 0 (entries_end xs c) (entries_end ys c) (entries_end xs c) len ends p.3
            (entries_stay xs ys c (length (tree_list ts)) many (omega (arith, number)) (same_part xs ys s.at (end xs c) c.at (entries_end xs c) same (omega arith) whole))
            (same_part xs ys s.at (end xs c) (entries_end xs c) (end xs c) same (omega arith) (omega arith)) low (omega (arith, low, last)),
      ),
      ends,
    )
array_kind ts all xs ys s type_at len (object_in form) same p = let e = p.0 in let no : ⊥ = cc in absurd no
array_kind ts all xs ys s type_at len kind same p = absurd p

-- a container in place that has these members
abbrev pub HasMembers : List ℕ → ℕ → Members → Container → Type 0
HasMembers bytes limit ms c = (c.is_object ≡ true) × IsFrame bytes c limit × (count bytes c ≡ length (member_list ms)) × AreKeys bytes c 0 (entries_end bytes c) (map (λ m. m.0) (member_list ms))
    × HoldValues bytes c 0 (values_floor bytes c) ms

object_kind : (ms : Members) → AllStay (values ms) → (xs ys : List ℕ) (s : Spot) (type_at : ℕ) → length xs ≡ length ys → (kind : Kind) → Same xs ys s.at (end_as xs kind s)
    → IsSomeAnd (container_as kind s.at) (HasMembers xs s.limit ms) → IsSomeAnd (container_as kind s.at) (HasMembers ys s.limit ms) × (end_as ys kind (typed_at s type_at) ≡ end_as xs kind s)
object_kind ms all xs ys s type_at len (object_in form) same p =
    let c : Container = record { form = form; is_object = true; at = s.at } in
    let f = p.1 in
    let whole = f.2 in
    let head : Same xs ys c.at (header_end c) = same_part xs ys s.at (end xs c) c.at (header_end c) same (omega arith) (omega (arith, whole)) in
    let many = count_same xs ys c head in
    let ends = end_same xs ys c head in
    let last = entries_end_same xs ys c many in
    let number = p.2 in
    let ks = map (λ m. m.0) (member_list ms) in
    let all_keys : count xs c ≡ length ks = number ∙ sym (keys_length ms) in
    let key_entries_end : key_entry c (length ks) ≤ entries_end xs c = let e = ap (λ n. n * key_width form) all_keys in omega (arith, e) in
    let floor = values_floor_same xs ys c (same_part xs ys s.at (end xs c) c.at (values_at xs c) same (omega arith) (omega (arith, whole))) in
    let reach = keys_low ks xs c 0 p.3 whole in
    let at_end : keys_end xs c (0 + length ks) ≡ values_floor xs c = ap (keys_end xs c) (let z : 0 + length ks ≡ length ks = omega arith in z ∙ sym all_keys) in
    let inside = reach.1 in
    let above = reach.0 in
    let low = floor_low xs c (values ms) 0 (values_floor xs c) (values_stand xs c 0 (values_floor xs c) ms p.4) (omega (arith, inside, at_end)) in
    let tail : Same xs ys (entries_end xs c) (end xs c) = same_part xs ys s.at (end xs c) (entries_end xs c) (end xs c) same (omega arith) (omega arith) in
    let values_number = values_length ms in (
      (
        p.0,
        frame_same xs ys c s.limit many ends f,
        many ∙ number,
        keys_again ks xs ys c 0 0 (entries_end xs c) (entries_end ys c) (end xs c) len ends (omega (arith, last)) p.3
            (keys_stay xs ys c (length ks) (same_part xs ys s.at (end xs c) c.at (key_entry c (length ks)) same (omega arith) (omega (arith, key_entries_end, whole))))
            (keys_inside ks xs c 0 (entries_end xs c) p.3) tail,
        hold_back ys c 0 (values_floor ys c) ms
            (elements_again (values ms) all xs ys c 0 0 (values_floor xs c) (values_floor ys c) (values_floor xs c) len ends (values_stand xs c 0 (values_floor xs c) ms p.4)
            (entries_stay xs ys c (length (tree_list (values ms))) many (omega (arith, number, values_number)) (same_part xs ys s.at (end xs c) c.at (entries_end xs c) same (omega arith) whole))
            (same_part xs ys (entries_end xs c) (end xs c) (values_floor xs c) (end xs c) tail (omega (arith, above, at_end)) (omega arith)) low (omega (arith, low, floor))),
      ),
      ends,
    )
object_kind ms all xs ys s type_at len (array_in form) same p = let e = p.0 in let no : ⊥ = cc in absurd no
object_kind ms all xs ys s type_at len kind same p = absurd p

array_stays : (ts : Trees) → AllStay ts → Stays (array ts)
array_stays ts all xs ys s type_at len k same h =
    subst (λ kind. IsSomeAnd (container_as kind s.at) (HasElements ys s.limit ts) × (end_as ys kind (typed_at s type_at) ≡ value_end xs s)) (sym k) (array_kind ts all xs ys s type_at len (kind_at xs s.type_at) same h)

object_stays : (ms : Members) → AllStay (values ms) → Stays (object ms)
object_stays ms all xs ys s type_at len k same h =
    subst (λ kind. IsSomeAnd (container_as kind s.at) (HasMembers ys s.limit ms) × (end_as ys kind (typed_at s type_at) ≡ value_end xs s)) (sym k) (object_kind ms all xs ys s type_at len (kind_at xs s.type_at) same h)

number_again : (z : ℤ) → Stays (number z)
number_again z xs ys s type_at len k same h =
    subst (λ kind. IsNumberAs kind ys z (typed_at s type_at) × (end_as ys kind (typed_at s type_at) ≡ value_end xs s)) (sym k) (number_stays xs ys z s type_at (kind_at xs s.type_at) same h)

-- every tree stays
mutual
  -- each value stands in bytes that agree on its own
  pub stays : (t : Tree) → Stays t
  stays null = λ xs ys s type_at len k same h. literal_stays 0 xs ys s type_at k same h
  stays (boolean b) = λ xs ys s type_at len k same h. literal_stays (truth_byte b) xs ys s type_at k same h
  stays (number z) = number_again z
  stays (text letters) = text_stays letters
  stays (array ts) = array_stays ts (all_stay ts)
  stays (object ms) = object_stays ms (members_stay ms)

  -- and so do several
  pub all_stay : (ts : Trees) → AllStay ts
  all_stay no_trees = tt
  all_stay (tree t ts) = (stays t, all_stay ts)

  pub members_stay : (ms : Members) → AllStay (values ms)
  members_stay no_members = tt
  members_stay (member k t ms) = (stays t, members_stay ms)
