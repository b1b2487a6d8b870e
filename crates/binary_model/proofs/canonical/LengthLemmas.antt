-- The length of a canonical encoding, without its bytes.
use Rattle.std.proofs.Common.{◌≡◌, ℕ, suc, ◌+◌, ◌-◌, ◌*◌, ◌≤◌, ℤ, pos, negsuc, Bool, true, false, List, [], ◌∷◌, ◌++◌, length, map, replicate, refl, ap, ◌∙◌, arith, lit≤, cond}
use Rattle.std.proofs.lemmas.Bool.{leb-true}
use Rattle.std.proofs.lemmas.List.{length-append, length-replicate, length-map}
use Rattle.byteorder.specs.Numbers.{length-bytes_low_first}
use Rattle.tree_model.specs.Tree.{Tree, null, boolean, number, text, array, object, Trees, no_trees, tree, Members, no_members, member}
use Rattle.binary_model.specs.Layout.{Form, small, large, word, Kind, literal, signed, unsigned, string, object_in, array_in, is_inlined, key_width, value_width}
use Rattle.binary_model.specs.Stands.{truth_byte}
use Rattle.binary_model.specs.Canonical.{low_bytes, number_kind, width_of, number_bytes, groups, Spelling, measured, fill, inlined_bytes, behind, all_behind, value_entries, values_behind, key_entries, joined, entries_size, size_in, form_for, header, array_bytes, object_bytes, array_spelling, object_spelling, keys, spelling, spellings, member_spellings, canonical, keys_length, array_measure, object_measure, measure, measures, member_measures, canonical_length}

-- what is inlined is no longer than a word
abbrev pub Fits : Spelling → Type 0
Fits v = (form : Form) → is_inlined form v.0 ≡ true → length v.1 ≤ word form

abbrev pub AllFit : List Spelling → Type 0
AllFit [] = Unit {0}
AllFit (v ∷ vs) = Fits v × AllFit vs

-- an inlined value fills its entry's word
pub length-inlined : (form : Form) (v : Spelling) → length v.1 ≤ word form → length (inlined_bytes form v) ≡ word form
length-inlined form v h =
    length-append v.1 (replicate (word form - length v.1) (fill v)) ∙ ap (λ n. length v.1 + n) (length-replicate (word form - length v.1) (fill v)) ∙ omega (arith, h)

length-entry : (form : Form) (offset : ℕ) (v : Spelling) (b : Bool) → is_inlined form v.0 ≡ b → Fits v
    → length (cond b (inlined_bytes form v) (low_bytes (word form) offset)) ≡ word form
length-entry form offset v true e fits = length-inlined form v (fits form e)
length-entry form offset v false e fits = length-bytes_low_first 0 (word form) offset

-- how long the value entries are
pub length-value_entries : (form : Form) (offset : ℕ) (vs : List Spelling) → AllFit vs → length (value_entries form offset vs) ≡ length vs * value_width form
length-value_entries form offset [] fit = omega arith
length-value_entries form offset (v ∷ vs) fit =
    let first = length-entry form offset v (is_inlined form v.0) refl fit.0 in
    let rest = length-value_entries form (offset + behind form (measured v)) vs fit.1 in
    let whole = length-append (cond (is_inlined form v.0) (inlined_bytes form v) (low_bytes (word form) offset)) (value_entries form (offset + behind form (measured v)) vs) in
    omega (arith, first, rest, whole)

-- and the key entries
pub length-key_entries : (form : Form) (offset : ℕ) (ks : List (List ℕ)) → length (key_entries form offset ks) ≡ length ks * key_width form
length-key_entries form offset [] = omega arith
length-key_entries form offset (k ∷ ks) =
    let first = length-append (low_bytes (word form) offset) (low_bytes 2 (length k) ++ key_entries form (offset + length k) ks) in
    let second = length-append (low_bytes 2 (length k)) (key_entries form (offset + length k) ks) in
    let a = length-bytes_low_first 0 (word form) offset in
    let b = length-bytes_low_first 0 2 (length k) in
    let rest = length-key_entries form (offset + length k) ks in
    omega (arith, first, second, a, b, rest)

length-one : (b : Bool) (n : List ℕ) → length (cond b [] n) ≡ cond b 0 (length n)
length-one true n = refl
length-one false n = refl

pub length-values_behind : (form : Form) (vs : List Spelling) → length (values_behind form vs) ≡ all_behind form (map measured vs)
length-values_behind form [] = refl
length-values_behind form (v ∷ vs) =
    length-append (cond (is_inlined form v.0) [] v.1) (values_behind form vs)
    ∙ ap (λ n. n + length (values_behind form vs)) (length-one (is_inlined form v.0) v.1)
    ∙ ap (λ n. behind form (measured v) + n) (length-values_behind form vs)

-- and the header
pub length-header : (form : Form) (n size : ℕ) → length (header form n size) ≡ 2 * word form
length-header form n size =
    let whole = length-append (low_bytes (word form) n) (low_bytes (word form) size) in
    let a = length-bytes_low_first 0 (word form) n in
    let b = length-bytes_low_first 0 (word form) size in
    omega (arith, whole, a, b)

-- an array's bytes are as many as it is measured
pub length-array_bytes : (form : Form) (vs : List Spelling) → AllFit vs → length (array_bytes form vs) ≡ size_in false 0 (map measured vs) form
length-array_bytes form vs fit =
    let head = header form (length vs) (size_in false 0 (map measured vs) form) in
    let entries = value_entries form (entries_size form false (length vs)) vs in
    let first = length-append head (entries ++ values_behind form vs) in
    let second = length-append entries (values_behind form vs) in
    let a = length-header form (length vs) (size_in false 0 (map measured vs) form) in
    let b = length-value_entries form (entries_size form false (length vs)) vs fit in
    let d = length-values_behind form vs in
    let e = length-map vs measured in
    rw (first, second, a, b, d, e) omega arith

-- and an object's are
pub length-object_bytes : (form : Form) (ks : List (List ℕ)) (vs : List Spelling) → length ks ≡ length vs → AllFit vs
    → length (object_bytes form ks vs) ≡ size_in true (length (joined ks)) (map measured vs) form
length-object_bytes form ks vs same fit =
    let head = header form (length vs) (size_in true (length (joined ks)) (map measured vs) form) in
    let key_part = key_entries form (entries_size form true (length vs)) ks in
    let entries = value_entries form (entries_size form true (length vs) + length (joined ks)) vs in
    let first = length-append head (key_part ++ (entries ++ (joined ks ++ values_behind form vs))) in
    let second = length-append key_part (entries ++ (joined ks ++ values_behind form vs)) in
    let third = length-append entries (joined ks ++ values_behind form vs) in
    let fourth = length-append (joined ks) (values_behind form vs) in
    let a = length-header form (length vs) (size_in true (length (joined ks)) (map measured vs) form) in
    let b = length-key_entries form (entries_size form true (length vs)) ks in
    let b' = length-value_entries form (entries_size form true (length vs) + length (joined ks)) vs fit in
    let d = length-values_behind form vs in
    let e = length-map vs measured in
    rw (first, second, third, fourth, a, b, b', d, e, same) omega arith

-- ---- trees

-- a number has the bytes of its kind
pub length-number : (z : ℤ) → length (number_bytes z) ≡ width_of (number_kind z)
length-number (pos n) = length-bytes_low_first 0 (width_of (number_kind (pos n))) n
length-number (negsuc n) = length-bytes_low_first 0 (width_of (number_kind (negsuc n))) _

fits_kind : (form : Form) (kind : Kind) → is_inlined form kind ≡ true → width_of kind ≤ word form
fits_kind form (signed width) h = leb-true _ _ h
fits_kind form (unsigned width) h = leb-true _ _ h
fits_kind form literal h = omega arith
fits_kind form kind h = omega arith

fits_literal : (b : ℕ) → Fits (literal, b ∷ [])
fits_literal b small h = lit≤ tt
fits_literal b large h = lit≤ tt

fits_number : (z : ℤ) → Fits (spelling (number z))
fits_number z form h = let e = length-number z in let g = fits_kind form (number_kind z) h in omega (arith, e, g)

-- what is inlined fits its entry's word
pub fits_tree : (t : Tree) → Fits (spelling t)
fits_tree null form h = fits_literal 0 form h
fits_tree (boolean b) form h = fits_literal (truth_byte b) form h
fits_tree (number z) form h = fits_number z form h
fits_tree (text letters) form h = cc
fits_tree (array ts) form h = cc
fits_tree (object ms) form h = cc

-- each of an array's values does
pub fit_trees : (ts : Trees) → AllFit (spellings ts)
fit_trees no_trees = tt
fit_trees (tree t ts) = (fits_tree t, fit_trees ts)

-- and each of an object's
pub fit_members : (ms : Members) → AllFit (member_spellings ms)
fit_members no_members = tt
fit_members (member k t ms) = (fits_tree t, fit_members ms)

-- an object has as many keys as values
pub length-keys : (ms : Members) → length (keys ms) ≡ length (member_spellings ms)
length-keys no_members = refl
length-keys (member k t ms) = ap suc (length-keys ms)

-- the keys of members, joined, are as long as all of them
pub length-joined : (ms : Members) → length (joined (keys ms)) ≡ keys_length ms
length-joined no_members = refl
length-joined (member k t ms) = length-append k (joined (keys ms)) ∙ ap (λ n. length k + n) (length-joined ms)

measured-array : (vs : List Spelling) → AllFit vs → measured (array_spelling vs) ≡ array_measure (map measured vs)
measured-array vs fit = λ i. (array_in (form_for false 0 (map measured vs)), length-array_bytes (form_for false 0 (map measured vs)) vs fit i)

measured-object : (ks : List (List ℕ)) (vs : List Spelling) → length ks ≡ length vs → AllFit vs → measured (object_spelling ks vs) ≡ object_measure (length (joined ks)) (map measured vs)
measured-object ks vs same fit = λ i. (object_in (form_for true (length (joined ks)) (map measured vs)), length-object_bytes (form_for true (length (joined ks)) (map measured vs)) ks vs same fit i)

mutual
  -- a spelling measures what its tree is measured without bytes
  pub measured-spelling : (t : Tree) → measured (spelling t) ≡ measure t
  measured-spelling null = refl
  measured-spelling (boolean b) = refl
  measured-spelling (number z) = λ i. (number_kind z, length-number z i)
  measured-spelling (text letters) = λ i. (string, length-append (groups 5 (length letters)) letters i)
  measured-spelling (array ts) = measured-array (spellings ts) (fit_trees ts) ∙ ap array_measure (measured-spellings ts)
  measured-spelling (object ms) = measured-object (keys ms) (member_spellings ms) (length-keys ms) (fit_members ms)
      ∙ ap (λ n. object_measure n (map measured (member_spellings ms))) (length-joined ms) ∙ ap (object_measure (keys_length ms)) (measured-member_spellings ms)

  -- the same of an array's values
  pub measured-spellings : (ts : Trees) → map measured (spellings ts) ≡ measures ts
  measured-spellings no_trees = refl
  measured-spellings (tree t ts) = λ i. measured-spelling t i ∷ measured-spellings ts i

  -- and of an object's
  pub measured-member_spellings : (ms : Members) → map measured (member_spellings ms) ≡ member_measures ms
  measured-member_spellings no_members = refl
  measured-member_spellings (member k t ms) = λ i. measured-spelling t i ∷ measured-member_spellings ms i

-- a canonical encoding is as long as its tree is measured
pub measured_length : (t : Tree) → length (canonical t) ≡ canonical_length t
measured_length t = ap (λ m. suc m.1) (measured-spelling t)
