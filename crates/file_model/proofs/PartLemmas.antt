-- Parts of files that differ at some places only.
use Rattle.std.proofs.Common.{◌≡◌, ◌⊎◌, inl, inr, ℕ, ◌+◌, ◌-◌, ◌<◌, ◌≤◌, List, length, take, drop, slice_index, refl, sym, ap, ◌∙◌, arith, rules}
use Rattle.std.proofs.lemmas.Bool.{cases_lt}
use Rattle.std.proofs.lemmas.List.{places, ext_get_or, get_or-take, get_or-drop, take_all}
use Rattle.engine_base.specs.Disk.{Torn, Holds}
use Rattle.file_model.specs.Sections.{part}
use Rattle.file_model.specs.Changes.{SameElsewhere, Range}

-- byte i of a part is the file's byte i places behind the part's beginning
pub get_or-part : (file : List ℕ) (at n i : ℕ) → i < n → slice_index (part file at n) i ≡ slice_index file (at + i)
unfolding part
get_or-part file at n i h = get_or-take n (drop at file) i 0 h ∙ get_or-drop at file i 0

-- a part that lies within the file has its full length
pub length-part : (file : List ℕ) (at n : ℕ) → at + n ≤ length file → length (part file at n) ≡ n
unfolding part
length-part file at n h = search (rules, places)

-- parts of two files are the same where each of their bytes is
pub same_parts : (f g : List ℕ) (a b n : ℕ) → a + n ≤ length f → b + n ≤ length g → ((i : ℕ) → i < n → slice_index f (a + i) ≡ slice_index g (b + i)) → part f a n ≡ part g b n
same_parts f g a b n in_f in_g same =
    let whole = length-part f a n in_f in
    ext_get_or 0 _ _ (whole ∙ sym (length-part g b n in_g)) λ i h.
    let low : i < n = omega arith in
    get_or-part f a n i low ∙ same i low ∙ sym (get_or-part g b n i low)

-- a part of a part is a part of the file
pub part-part : (file : List ℕ) (at n a m : ℕ) → at + n ≤ length file → a + m ≤ n → part (part file at n) a m ≡ part file (at + a) m
part-part file at n a m within inner =
    let len = length-part file at n within in
    same_parts _ file a (at + a) m (omega arith) (omega arith) λ i low.
    let here : at + (a + i) ≡ at + a + i = omega arith in
    get_or-part file at n (a + i) (omega arith) ∙ ap (slice_index file) here

-- ---- what a file has at a place

-- where a file holds bytes at a place, byte i of them is the file's i places behind it
pub held_each : (file bytes : List ℕ) (at i : ℕ) → Holds file at bytes → i < length bytes → slice_index file (at + i) ≡ slice_index bytes i
held_each file bytes at i holds low =
    sym (get_or-drop at file i 0) ∙ sym (get_or-take (length bytes) (drop at file) i 0 low) ∙ ap (λ (xs : List ℕ). slice_index xs i) holds.each

-- and a part of the file there is the same part of the bytes
pub held_part : (file bytes : List ℕ) (at a m : ℕ) → Holds file at bytes → a + m ≤ length bytes → part file (at + a) m ≡ part bytes a m
held_part file bytes at a m holds within =
    let w = holds.within in
    same_parts file bytes (at + a) a m (omega arith) within λ i low.
    let here : at + a + i ≡ at + (a + i) = omega arith in
    ap (slice_index file) here ∙ held_each file bytes at (a + i) holds (omega arith)

-- and the part of their length is the bytes
pub held_whole : (file bytes : List ℕ) (at n : ℕ) → Holds file at bytes → length bytes ≡ n → part file at n ≡ bytes
unfolding part
held_whole file bytes at n holds long = rw (← long) (holds.each)

-- a file holds bytes where its part of their length is the bytes
pub part_holds : (file bytes : List ℕ) (at : ℕ) → at + length bytes ≤ length file → part file at (length bytes) ≡ bytes → Holds file at bytes
unfolding part
part_holds file bytes at within is = record { within = within; each = is }

-- ---- what stays

torn_below : (at n : ℕ) (old new : List ℕ) (i : ℕ) → Torn at n old new → i < length old → i < at → slice_index new i ≡ slice_index old i
torn_below at n old new i t inside low =
    sym (get_or-take (length old) new i 0 inside) ∙ sym (get_or-take at (take (length old) new) i 0 low)
    ∙ ap (λ (xs : List ℕ). slice_index xs i) (t.before) ∙ get_or-take at old i 0 low

torn_above : (at n : ℕ) (old new : List ℕ) (i : ℕ) → Torn at n old new → i < length old → at + n ≤ i → slice_index new i ≡ slice_index old i
torn_above at n old new i t inside high =
    let k = i - (at + n) in
    let here : at + n + k ≡ i = omega arith in
    sym (get_or-take (length old) new i 0 inside)
    ∙ ap (slice_index (take (length old) new)) (sym here) ∙ sym (get_or-drop (at + n) (take (length old) new) k 0)
    ∙ ap (λ (xs : List ℕ). slice_index xs k) (t.after)
    ∙ get_or-drop (at + n) old k 0 ∙ ap (slice_index old) here

-- a write that may be cut short changes its range
pub torn_elsewhere : (at n : ℕ) (old new : List ℕ) → Torn at n old new → SameElsewhere (Range at n) old new
torn_elsewhere at n old new t = record {
  no_shorter = t.no_shorter;
  each = λ i inside out. elim (cases_lt i at) [
    | inl low ↦ torn_below at n old new i t inside low
    | inr high ↦ elim (cases_lt i (at + n)) [
      | inl within ↦ absurd (out (high, within))
      | inr above ↦ torn_above at n old new i t inside above
    ]
  ];
}

-- a file is the same as itself elsewhere than at any places
pub same_file : (places : ℕ → Type 0) (file : List ℕ) → SameElsewhere places file file
same_file places file = record { no_shorter = omega arith; each = λ i inside out. refl }

-- two changes at these places alone, one behind the other, are one change at them alone
pub then_elsewhere : (places : ℕ → Type 0) (a b c : List ℕ) → SameElsewhere places a b → SameElsewhere places b c → SameElsewhere places a c
then_elsewhere places a b c s t = record {
  no_shorter = omega (arith, s.no_shorter, t.no_shorter);
  each = λ i inside out. t.each i (omega (arith, s.no_shorter)) out ∙ s.each i inside out;
}

-- a change at few places alone is one at more places alone
pub wider_elsewhere : (few many : ℕ → Type 0) (a b : List ℕ) → ((i : ℕ) → few i → many i) → SameElsewhere few a b → SameElsewhere many a b
wider_elsewhere few many a b wider s = record { no_shorter = s.no_shorter; each = λ i inside out. s.each i inside (λ inner. out (wider i inner)) }

-- a part none of whose places is among those
pub part_same : (places : ℕ → Type 0) (old new : List ℕ) (a m : ℕ) → SameElsewhere places old new → a + m ≤ length old
    → ((i : ℕ) → a ≤ i → i < a + m → ¬ (places i)) → part new a m ≡ part old a m
part_same places old new a m s within out =
    same_parts new old a a m (omega (arith, s.no_shorter)) within λ i low. s.each (a + i) (omega arith) (out (a + i) (omega arith) (omega arith))

pub byte_same : (places : ℕ → Type 0) (old new : List ℕ) (i : ℕ) → SameElsewhere places old new → i < length old → ¬ (places i) → slice_index new i ≡ slice_index old i
byte_same places old new i s inside out = s.each i inside out

-- the same for a range
pub part_beside : (at n : ℕ) (old new : List ℕ) (a m : ℕ) → SameElsewhere (Range at n) old new → a + m ≤ length old → (a + m ≤ at) ⊎ (at + n ≤ a) → part new a m ≡ part old a m
part_beside at n old new a m s within (inl below) = part_same (Range at n) old new a m s within (λ i low high (from, to). omega arith)
part_beside at n old new a m s within (inr above) = part_same (Range at n) old new a m s within (λ i low high (from, to). omega arith)

-- the part of bytes from their beginning to their end is the bytes
pub part_whole : (bytes : List ℕ) → part bytes 0 (length bytes) ≡ bytes
unfolding part
part_whole bytes = take_all (length bytes) bytes (omega arith)
