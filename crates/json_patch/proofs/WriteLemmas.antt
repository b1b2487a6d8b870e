-- The writes of an edit in place make what the definition says.
use Rattle.std.proofs.Common.{◌≡◌, ◌≤◌, ◌<◌, ℕ, zero, suc, ◌+◌, ◌-◌, Bool, true, false, replicate, List, [], ◌∷◌, length, drop, Some, None, Result, Ok, Err, IfOk, refl, sym, ap, ap₂, subst, ◌∙◌, arith, cond, nat_le}
use Rattle.std.proofs.lemmas.Bool.{le-leb, lt-leb, leb-true}
use Rattle.std.proofs.lemmas.List.{length-append, length-replicate}
use Rattle.std.specs.Int.{bytes_low_first}
use Rattle.tree_model.specs.Tree.{Tree, null, boolean, number, text, array, object, Trees, tree_list}
use Rattle.binary_model.specs.Layout as layout
use Rattle.binary_model.specs.Layout.{Form, small, large, Kind, signed, unsigned, word, code_of, is_inlined, count, end, header_end, key_entry, values_at, entries_end, value_entry, values_floor, value_width, key_width, child}
use Rattle.binary_model.specs.Canonical.{Spelling, spelling, inlined_bytes, fill, low_bytes, measure, number_kind, width_of}
use Rattle.binary_model.specs.Change.{written, end_before, start_from, room_start, room_end, in_entry, at_place, with_value}
use Rattle.binary_model.proofs.canonical.LengthLemmas.{measured-spelling}
use Rattle.binary_model.proofs.in_place.AgainLemmas.{entry_within, values_first}
use Rattle.binary_model.proofs.in_place.RefitLemmas.{nth, rest, rest_length, ends_rise, FoundAt, element_at}
use Rattle.binary_model.proofs.in_place.ReplaceLemmas.{starts_within, place_above}
use Rattle.json_binary.specs.Writing.{entry}
use Rattle.json_binary.specs.declared.cursor.place.Container.{Container}
use Rattle.json_binary.specs.Place.{container_of}
use Rattle.json_patch.specs.declared.writes.Write.{Write}
use Rattle.json_patch.specs.Stand.{Values, HasValues}
use Rattle.json_patch.specs.Writes.{AreWritesFor}

length-bytes_low_first : (i n x : ℕ) → length (bytes_low_first i n x) ≡ n
length-bytes_low_first i zero x = refl
length-bytes_low_first i (suc n) x = ap suc (length-bytes_low_first (suc i) n x)

-- where the room of the k-th value lies
pub record Lies (bytes : List ℕ) (c : layout.Container) (k : ℕ) : Type 0 where
  pub entry : value_entry bytes c k + value_width c.form ≤ entries_end bytes c
  pub at : c.at ≤ value_entry bytes c k
  pub start : entries_end bytes c ≤ room_start bytes c k
  pub top : room_end bytes c k ≤ end bytes c

lies_in : (bytes : List ℕ) (c : layout.Container) (ts : Trees) (k : ℕ) → Values bytes c ts → k < count bytes c → Lies bytes c k
lies_in bytes c ts k h low =
    let z : 0 + k ≡ k = omega arith in
    let many = h.number in
    let behind = rest_length ts k in
    let first = values_first bytes c in
    let found : FoundAt bytes c k (nth ts k) (rest ts k) = subst (λ i. FoundAt bytes c i (nth ts k) (rest ts k)) z (element_at bytes c ts 0 k h.elements (omega (arith, low, many))) in
    let rise : values_floor bytes c ≤ end_before bytes c k = subst (λ i. values_floor bytes c ≤ end_before bytes c i) z (ends_rise bytes c ts 0 k h.elements (omega (arith, low, many))) in
    let floor = h.floor.0 in
    let last = entry_within bytes c k (count bytes c) low in
    let above = place_above bytes c k found.0 in
    let left : count bytes c - suc k ≡ length (tree_list (rest ts k)) = omega (arith, many, behind) in
    record {
      entry = last;
      at = omega (arith, first);
      start = omega (arith, floor, rise, above);
      top = subst (λ n. start_from bytes c n (suc k) ≤ end bytes c) (sym left) (starts_within bytes c (rest ts k) (suc k) (end_before bytes c (suc k)) found.2);
    }

-- a container's k-th value has its entry among the entries, and its room behind them, within the
-- size
pub lies : (bytes : List ℕ) (c : Container) (k : ℕ) → HasValues bytes c → k < count bytes (container_of c) → Lies bytes (container_of c) k
lies bytes c k h low = let (ts, vs) = h.1 in lies_in bytes (container_of c) ts k vs low

-- ---- a value replaced

-- the choices of the room rule
chosen : (bytes : List ℕ) (c : layout.Container) (k : ℕ) (v : Spelling) (inside fits : Bool) → is_inlined c.form v.0 ≡ inside → nat_le (room_start bytes c k + length v.1) (room_end bytes c k) ≡ fits
    → with_value bytes v c k ≡ cond inside (Some (in_entry bytes c k v)) (cond fits (Some (at_place bytes c k (room_start bytes c k) v)) None)
chosen bytes c k v inside fits e f =
    ap (λ b. cond b (Some (in_entry bytes c k v)) (cond (nat_le (room_start bytes c k + length v.1) (room_end bytes c k)) (Some (at_place bytes c k (room_start bytes c k) v)) None)) e
    ∙ ap (λ b. cond inside (Some (in_entry bytes c k v)) (cond b (Some (at_place bytes c k (room_start bytes c k) v)) None)) f

-- too long for the room
pub too_long : (bytes : List ℕ) (c : layout.Container) (k : ℕ) (v : Spelling) → is_inlined c.form v.0 ≡ false → room_end bytes c k < room_start bytes c k + length v.1 → with_value bytes v c k ≡ None
too_long bytes c k v out long = chosen bytes c k v false false out (lt-leb _ _ long)

-- what stands in an entry is no longer than an offset
narrow_kind : (form : Form) (kind : Kind) → is_inlined form kind ≡ true → width_of kind ≤ word form
narrow_kind form (signed width) e = leb-true width (word form) e
narrow_kind form (unsigned width) e = leb-true width (word form) e
narrow_kind form kind e = omega arith

some_word : (form : Form) → (1 ≤ word form) × (word form ≤ 4)
some_word small = (omega arith, omega arith)
some_word large = (omega arith, omega arith)

narrow : (form : Form) (t : Tree) → is_inlined form (measure t).0 ≡ true → (measure t).1 ≤ word form
narrow form null e = (some_word form).0
narrow form (boolean b) e = (some_word form).0
narrow form (number z) e = narrow_kind form (number_kind z) e
narrow form (text x) e = let no : ⊥ = cc in absurd no
narrow form (array ts) e = let no : ⊥ = cc in absurd no
narrow form (object ms) e = let no : ⊥ = cc in absurd no

-- the spelling of a value has as many bytes as the value measures
pub size_of : (t : Tree) → length (spelling t).1 ≡ (measure t).1
size_of t = ap (λ m. m.1) (measured-spelling t)

-- one that is longer than a document can be stands in no entry, and fits no room
pub too_large : (bytes : List ℕ) (c : Container) (k : ℕ) (t : Tree) → HasValues bytes c → k < count bytes (container_of c) → length bytes ≤ 16777216 → 16777216 ≤ (measure t).1 → with_value bytes (spelling t) (container_of c) k ≡ None
too_large bytes c k t h low near high =
    let d = container_of c in
    let l = lies bytes c k h low in
    let a = l.entry in
    let b = l.top in
    let start = l.start in
    let last = h.0.1 in
    let size = size_of t in
    too_long bytes d k (spelling t) (ap (λ m. is_inlined d.form m.0) (measured-spelling t) ∙ wide (is_inlined d.form (measure t).0) refl) (omega (arith, a, b, start, last, near, high, size))
  where
    wide : (b : Bool) → is_inlined (container_of c).form (measure t).0 ≡ b → is_inlined (container_of c).form (measure t).0 ≡ false
    wide true e = let few = narrow (container_of c).form t e in let word = (some_word (container_of c).form).1 in absurd (omega (arith, few, word, high))
    wide false e = e

-- in its entry, in one write
pub made_inlined : (bytes : List ℕ) (c : Container) (k : ℕ) (t : Tree) (v : Spelling) (w : Write) (ws : List Write) → HasValues bytes c → k < count bytes (container_of c) → v ≡ spelling t → is_inlined (container_of c).form v.0 ≡ true
    → w.at ≡ value_entry bytes (container_of c) k → w.bytes.items ≡ entry (container_of c).form 0 v → ws ≡ w ∷ [] → AreWritesFor bytes (with_value bytes v (container_of c) k) (Some ws)
made_inlined bytes c k t v w ws h low spelled inside at items all =
    let d = container_of c in
    let new : w.bytes.items ≡ code_of v.0 ∷ inlined_bytes d.form v = items ∙ ap (λ b. code_of v.0 ∷ cond b (inlined_bytes d.form v) (low_bytes (word d.form) 0)) inside in
    let few = narrow d.form t (sym (ap (λ m. is_inlined d.form m.0) (measured-spelling t)) ∙ sym (ap (λ v. is_inlined d.form v.0) spelled) ∙ inside) in
    let size : length v.1 ≡ (measure t).1 = ap (λ v. length v.1) spelled ∙ size_of t in
    let long = length-append v.1 (replicate (word d.form - length v.1) (fill v)) in
    let filled = length-replicate (word d.form - length v.1) (fill v) in
    let whole = ap length new in
    let l = lies bytes c k h low in
    let a = l.entry in
    let last = h.0.1 in
    let end = h.0.2 in
    subst (λ us. AreWritesFor bytes (with_value bytes v d k) (Some us)) (sym all) (record {
      made = chosen bytes d k v true (nat_le (room_start bytes d k + length v.1) (room_end bytes d k)) inside refl ∙ ap₂ (λ i xs. Some (written bytes i xs)) (sym at) (sym new);
      inside = (omega (arith, whole, long, filled, few, size, at, a, end, last), tt);
      rising = (omega arith, tt);
    })

-- at its place, in two writes
pub made_outside : (bytes : List ℕ) (c : Container) (k : ℕ) (v : Spelling) (w u : Write) (ws : List Write) → HasValues bytes c → k < count bytes (container_of c) → is_inlined (container_of c).form v.0 ≡ false
    → room_start bytes (container_of c) k + length v.1 ≤ room_end bytes (container_of c) k → w.at ≡ value_entry bytes (container_of c) k → w.bytes.items ≡ entry (container_of c).form (room_start bytes (container_of c) k - c.at) v
    → u.at ≡ room_start bytes (container_of c) k → u.bytes.items ≡ v.1 → ws ≡ w ∷ u ∷ [] → AreWritesFor bytes (with_value bytes v (container_of c) k) (Some ws)
made_outside bytes c k v w u ws h low out fits at items at_value value all =
    let d = container_of c in
    let place = room_start bytes d k in
    let new : w.bytes.items ≡ code_of v.0 ∷ low_bytes (word d.form) (place - c.at) = items ∙ ap (λ b. code_of v.0 ∷ cond b (inlined_bytes d.form v) (low_bytes (word d.form) (place - c.at))) out in
    let wide = length-bytes_low_first 0 (word d.form) (place - c.at) in
    let size_w = ap length new in
    let size_u = ap length value in
    let l = lies bytes c k h low in
    let a = l.entry in
    let b = l.top in
    let start = l.start in
    let whole = h.0.2 in
    let last = h.0.1 in
    subst (λ us. AreWritesFor bytes (with_value bytes v d k) (Some us)) (sym all) (record {
      made = chosen bytes d k v false true out (le-leb _ _ fits)
          ∙ ap₂ (λ i xs. Some (written (written bytes i xs) place v.1)) (sym at) (sym new) ∙ ap₂ (λ i xs. Some (written (written bytes w.at w.bytes.items) i xs)) (sym at_value) (sym value);
      inside = (omega (arith, size_w, wide, at, a, whole, last), (omega (arith, size_u, at_value, fits, b, last), tt));
      rising = (omega arith, (omega (arith, size_w, wide, at, a, start, at_value), tt));
    })

-- ---- the writes, one after the other

-- the writes from number i on
abbrev pub left_writes : List Write → ℕ → List Write
left_writes items i = drop i items

-- what follows from a property of a result that is no error holds of that result too
pub ok_then : {X E : Type 0} (r : Result X E) (P Q : X → Type 0) → ((x : X) → P x → Q x) → IfOk r P → IfOk r Q
ok_then (Ok x) P Q f h = f x h
ok_then (Err e) P Q f h = h
