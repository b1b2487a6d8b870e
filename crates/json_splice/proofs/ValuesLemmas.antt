-- The values of a container, one after another.
use Rattle.std.proofs.Common.{◌≡◌, ℕ, zero, suc, ◌+◌, ◌-◌, ◌≤◌, ◌<◌, ◌*◌, Bool, true, false, List, [], ◌∷◌, ◌++◌, length, map, drop, refl, sym, ap, subst, ◌∙◌, arith, cond}
use Rattle.tree_model.specs.Tree.{Trees, no_trees, tree, tree_list, depth, trees_depth}
use Rattle.binary_model.specs.Layout.{Form, small, value_width, Container, count, end, is_inlined, value_entry, child, floor_after}
use Rattle.binary_model.specs.Stands.{IsFrame, IsValue, AreElements}
use Rattle.binary_model.specs.Canonical.{Spelling, spelling, spellings, measured, behind, all_behind, value_entries, values_behind}
use Rattle.binary_model.specs.Place.{Holds}
use Rattle.binary_model.proofs.in_place.RefitLemmas.{nth}
use Rattle.std.proofs.lemmas.List.{append-nil}
use Rattle.binary_model.proofs.canonical.LengthLemmas.{AllFit, fit_trees, length-value_entries}
use Rattle.binary_model.proofs.canonical.CanonicalLemmas.{moved}
use Rattle.binary_model.proofs.canonical.RoundLemmas.{next_entry}
use Rattle.json_binary.specs.View.{kind_of}
use Rattle.json_binary.specs.Writing.{entry}
use Rattle.json_splice.specs.declared.entry.Size.{Size}
use Rattle.json_splice.specs.Spelled.{IsSized, IsEntryAt, AreValuesAt, HoldsTrees}
use Rattle.json_splice.specs.declared.canonical.Behind.{Behind}
use Rattle.json_splice.proofs.HeldLemmas.{joined_held, empty_held}

-- the canonical entries from the k-th on, and the values from the offset on
abbrev pub AreEntriesFrom : List ℕ → Container → ℕ → ℕ → List Spelling → Type 0
AreEntriesFrom bytes c k offset [] = Unit {0}
AreEntriesFrom bytes c k offset (v ∷ vs) =
    Holds bytes (value_entry bytes c k) (entry c.form offset v) × (is_inlined c.form v.0 ≡ false → Holds bytes (c.at + offset) v.1)
    × AreEntriesFrom bytes c (suc k) (offset + behind c.form (measured v)) vs

-- ---- one of the trees

-- as many spellings as trees
pub spellings_length : (ts : Trees) → length (spellings ts) ≡ length (tree_list ts)
spellings_length no_trees = refl
spellings_length (tree t ts) = ap suc (spellings_length ts)

-- the k-th of the trees stands at the k-th value
pub nth_value : (bytes : List ℕ) (c : Container) (j floor k : ℕ) (ts : Trees) → AreElements bytes c j floor ts → k < length (tree_list ts) → IsValue bytes (nth ts k) (child bytes c (j + k))
nth_value bytes c j floor k no_trees a lt = absurd (omega (arith, lt))
nth_value bytes c j floor zero (tree t ts) a lt = let e : j ≡ j + 0 = omega arith in subst (λ i. IsValue bytes t (child bytes c i)) e a.1
nth_value bytes c j floor (suc k) (tree t ts) a lt =
    let e : suc j + k ≡ j + suc k = omega arith in
    subst (λ i. IsValue bytes (nth ts k) (child bytes c i)) e (nth_value bytes c (suc j) (floor_after bytes c j floor) k ts a.2 (omega (arith, lt)))

-- and is no deeper than all
pub nth_depth : (k : ℕ) (ts : Trees) → k < length (tree_list ts) → depth (nth ts k) ≤ trees_depth ts
nth_depth k no_trees lt = absurd (omega (arith, lt))
nth_depth zero (tree t ts) lt = omega arith
nth_depth (suc k) (tree t ts) lt = let d = nth_depth k ts (omega (arith, lt)) in omega (arith, d)

-- the spellings from the k-th on begin with its own
pub spelled_from : (k : ℕ) (ts : Trees) → k < length (tree_list ts) → drop k (spellings ts) ≡ spelling (nth ts k) ∷ drop (suc k) (spellings ts)
spelled_from k no_trees lt = absurd (omega (arith, lt))
spelled_from zero (tree t ts) lt = refl
spelled_from (suc k) (tree t ts) lt = spelled_from k ts (omega (arith, lt))

-- and none are left from the end on
pub none_left : (k : ℕ) (ts : Trees) → length (tree_list ts) ≤ k → drop k (spellings ts) ≡ []
none_left zero no_trees h = refl
none_left (suc k) no_trees h = refl
none_left zero (tree t ts) h = absurd (omega (arith, h))
none_left (suc k) (tree t ts) h = none_left k ts (omega (arith, h))

-- ---- what is found of them

-- what a value takes behind the entries, by its size
behind_is : (form : Form) (v : Spelling) (size : Size) → IsSized v size → behind form (kind_of size.kind, size.bytes) ≡ behind form (measured v)
behind_is form v size h = (λ i. cond (is_inlined form (h.kind i)) 0 (sym h.bytes i))

-- one value more, at the end of what was found
module _ (bytes : List ℕ) (c : Container) (k offset start : ℕ) (ts : Trees) (low : k < length (tree_list ts)) (size : Size) where
  abbrev rest_at : ℕ → List Spelling
  rest_at i = drop i (spellings ts)

  parts_at : rest_at k ≡ spelling (nth ts k) ∷ rest_at (k + 1)
  parts_at = let one : suc k ≡ k + 1 = omega arith in spelled_from k ts low ∙ ap (λ i. spelling (nth ts k) ∷ rest_at i) one

  pub entries_more : (next : ℕ) → IsEntryAt bytes c k offset (spelling (nth ts k)) size → next ≡ offset + behind c.form (kind_of size.kind, size.bytes)
      → (AreEntriesFrom bytes c k offset (rest_at k) → AreEntriesFrom bytes c 0 start (spellings ts)) → AreEntriesFrom bytes c (k + 1) next (rest_at (k + 1)) → AreEntriesFrom bytes c 0 start (spellings ts)
  entries_more next found e so_far rest =
      let one : k + 1 ≡ suc k = omega arith in
      let size_is : next ≡ offset + behind c.form (measured (spelling (nth ts k))) = e ∙ ap (λ n. offset + n) (behind_is c.form (spelling (nth ts k)) size found.sized) in
      so_far (subst (AreEntriesFrom bytes c k offset) (sym parts_at) (found.held, found.value, subst (λ i. AreEntriesFrom bytes c i (offset + behind c.form (measured (spelling (nth ts k)))) (rest_at (k + 1))) one (subst (λ n. AreEntriesFrom bytes c (k + 1) n (rest_at (k + 1))) size_is rest)))

  pub measured_more : (form : Form) (before next total : ℕ) → IsSized (spelling (nth ts k)) size → next ≡ before + behind form (kind_of size.kind, size.bytes)
      → before + all_behind form (map measured (rest_at k)) ≡ total → next + all_behind form (map measured (rest_at (k + 1))) ≡ total
  measured_more form before next total sized e so_far =
      let v = spelling (nth ts k) in
      let is = behind_is form v size sized in
      let all : all_behind form (map measured (rest_at k)) ≡ behind form (measured v) + all_behind form (map measured (rest_at (k + 1))) = ap (λ vs. all_behind form (map measured vs)) parts_at in
      omega (arith, e, is, all, so_far)

-- ---- all of them

-- their entries stand one behind another
pub entries_held : (bytes : List ℕ) (c : Container) (k offset : ℕ) (vs : List Spelling) → value_entry bytes c (k + length vs) ≤ length bytes → AllFit vs → AreEntriesFrom bytes c k offset vs → Holds bytes (value_entry bytes c k) (value_entries c.form offset vs)
entries_held bytes c k offset [] inside fit h = let z : k + 0 ≡ k = omega arith in empty_held bytes (value_entry bytes c k) (subst (λ i. value_entry bytes c i ≤ length bytes) z inside)
entries_held bytes c k offset (v ∷ vs) inside fit h =
    let next = offset + behind c.form (measured v) in
    let e : k + suc (length vs) ≡ suc k + length vs = omega arith in
    let rest = entries_held bytes c (suc k) next vs (subst (λ i. value_entry bytes c i ≤ length bytes) e inside) fit.1 h.2 in
    let long = length-value_entries c.form offset (v ∷ []) (fit.0, tt) in
    let nil : entry c.form offset v ++ [] ≡ entry c.form offset v = append-nil (entry c.form offset v) in
    let width : length (entry c.form offset v) ≡ value_width c.form = sym (ap length nil) ∙ long ∙ (let one : 1 * value_width c.form ≡ value_width c.form = omega arith in one) in
    let step = next_entry bytes c k in
    let place : value_entry bytes c (suc k) ≡ value_entry bytes c k + length (entry c.form offset v) = omega (arith, step, width) in
    joined_held bytes (value_entry bytes c k) (entry c.form offset v) (value_entries c.form next vs) h.0 (moved place rest)

value_held : (bytes : List ℕ) (form : Form) (place : ℕ) (v : Spelling) (vs : List Spelling) (b : Bool) → is_inlined form v.0 ≡ b → (is_inlined form v.0 ≡ false → Holds bytes place v.1)
    → Holds bytes (place + cond b 0 (length v.1)) (values_behind form vs) → Holds bytes place (cond b [] v.1 ++ values_behind form vs)
value_held bytes form place v vs true e h rest = let z : place + 0 ≡ place = omega arith in moved z rest
value_held bytes form place v vs false e h rest = joined_held bytes place v.1 (values_behind form vs) (h e) rest

-- and so do those behind the entries
pub values_held : (bytes : List ℕ) (c : Container) (k offset : ℕ) (vs : List Spelling) → c.at + (offset + all_behind c.form (map measured vs)) ≤ length bytes → AreEntriesFrom bytes c k offset vs → Holds bytes (c.at + offset) (values_behind c.form vs)
values_held bytes c k offset [] inside h = empty_held bytes (c.at + offset) (omega (arith, inside))
values_held bytes c k offset (v ∷ vs) inside h =
    let next = offset + behind c.form (measured v) in
    let rest = values_held bytes c (suc k) next vs (omega (arith, inside)) h.2 in
    value_held bytes c.form (c.at + offset) v vs (is_inlined c.form v.0) refl h.1 (moved (omega arith) rest)

-- the end of the entries is past each of them
last_entry : (bytes : List ℕ) (c : Container) → IsFrame bytes c (length bytes) → value_entry bytes c (0 + count bytes c) ≤ length bytes
last_entry bytes c framed =
    let z : 0 + count bytes c ≡ count bytes c = omega arith in
    let a = framed.1 in
    let b = framed.2 in
    subst (λ n. value_entry bytes c n ≤ length bytes) (sym z) (omega (arith, a, b))

-- a container's values, where all are looked at
pub values_found : (bytes : List ℕ) (c : Container) (k offset nesting : ℕ) (ts : Trees) (b : Behind) → HoldsTrees bytes c nesting ts → IsFrame bytes c (length bytes) → count bytes c ≤ k → end bytes c - c.at ≡ b.end
    → (AreEntriesFrom bytes c k b.end (drop k (spellings ts)) → AreEntriesFrom bytes c 0 offset (spellings ts))
    → b.end + all_behind c.form (map measured (drop k (spellings ts))) ≡ offset + all_behind c.form (map measured (spellings ts)) → b.small + all_behind small (map measured (drop k (spellings ts))) ≡ all_behind small (map measured (spellings ts))
    → AreValuesAt bytes c offset (spellings ts) b
values_found bytes c k offset nesting ts b holds framed past ends so_far total small_total =
    let vs = spellings ts in
    let many = holds.number in
    let n : length vs ≡ count bytes c = spellings_length ts ∙ many in
    let none = none_left k ts (omega (arith, past, many)) in
    let all = so_far (subst (AreEntriesFrom bytes c k b.end) (sym none) tt) in
    let sum : b.end + 0 ≡ offset + all_behind c.form (map measured vs) = subst (λ l. b.end + all_behind c.form (map measured l) ≡ offset + all_behind c.form (map measured vs)) none total in
    let small_sum : b.small + 0 ≡ all_behind small (map measured vs) = subst (λ l. b.small + all_behind small (map measured l) ≡ all_behind small (map measured vs)) none small_total in
    let top = framed.1 in
    let whole : c.at + b.end ≡ end bytes c = omega (arith, ends) in
    record {
      entries = entries_held bytes c 0 offset vs (subst (λ m. value_entry bytes c (0 + m) ≤ length bytes) (sym n) (last_entry bytes c framed)) (fit_trees ts) all;
      values = values_held bytes c 0 offset vs (omega (arith, sum, whole, top)) all;
      end = omega (arith, sum);
      small = omega (arith, small_sum);
      whole = whole;
    }
