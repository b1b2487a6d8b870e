-- A printed tree reads back as itself.
use Rattle.std.proofs.Common.{◌≡◌, ℕ, suc, ◌+◌, ◌-◌, ◌/◌, ◌%◌, ◌<◌, ◌≤◌, ◌||◌, pos, negsuc, Bool, true, false, cond, List, [], ◌∷◌, ◌++◌, decimal, nat_lt, refl, sym, ap, ◌∙◌, arith, append-nil, append_assoc, true≢false, ne_eqb, le-ltb, Ok}
use Rattle.std.specs.Char.{digit_char}
use Rattle.std.specs.Int.{IsInRange}
use Rattle.std.specs.Str.Parse.{AllDigits}
use Rattle.std.proofs.lemmas.Bool.Decides.{nat_tests}
use Rattle.std.proofs.lemmas.Fmt.{decimal_is_IsNumeral}
use Rattle.std.proofs.lemmas.Str.Parse.{digit_from_value}
use Rattle.json.specs.Print.{escape_letter, escape_byte, escape, quoted}
use Rattle.tree_model.specs.Tree.{Tree, null, boolean, number, text, array, object, Trees, no_trees, tree, Members, no_members, member, depth, trees_depth, members_depth, IsTree, AreTrees, HoldTrees}
use Rattle.tree_model.specs.Text.{comma_if, tree_text, trees_text, members_text, outside, inside, deepens, read_tree}
use Rattle.tree_model.proofs.DataOf.{of_data-data_of, has_float-data_of, has_long_key-data_of}
use Rattle.tree_model.proofs.PrintedTokens.{read-tree_text, whole_pos, whole_negsuc}

-- ---- the scan of a string

digit_char_plain : (d : ℕ) → (digit_char d ≡ 34 → ⊥) × (digit_char d ≡ 92 → ⊥)
digit_char_plain d = go (nat_lt d 10) refl
  where
    go : (b : Bool) → nat_lt d 10 ≡ b → (cond b (48 + d) (87 + d) ≡ 34 → ⊥) × (cond b (48 + d) (87 + d) ≡ 92 → ⊥)
    go true e = let lt : d < 10 = grind (arith, nat_tests, e) in ((λ h. omega (arith, lt, h)), (λ h. omega (arith, lt, h)))
    go false e = let ge : 10 ≤ d = grind (arith, nat_tests, e) in ((λ h. omega (arith, ge, h)), (λ h. omega (arith, ge, h)))

plain_inside : (x n : ℕ) (r : List ℕ) → (x ≡ 34 → ⊥) → (x ≡ 92 → ⊥) → n ≤ 100 → deepens inside n (x ∷ r) ≡ deepens inside n r
plain_inside x n r q b few = rw (ne_eqb x 34 q, ne_eqb x 92 b, le-ltb 100 n few) refl

unit_inside : (n : ℕ) (r : List ℕ) → n ≤ 100 → deepens inside n (92 ∷ 117 ∷ 48 ∷ 48 ∷ r) ≡ deepens inside n r
unit_inside n r few = rw (le-ltb 100 n few) refl

byte_inside : (x n : ℕ) (r : List ℕ) → n ≤ 100 → deepens inside n (escape_byte x ++ r) ≡ deepens inside n r
unfolding escape_byte
byte_inside x n r few = go (nat_lt 0 (escape_letter x)) refl (nat_lt x 32)
  where
    shallow : nat_lt 100 n ≡ false
    shallow = le-ltb 100 n few

    go : (a : Bool) → nat_lt 0 (escape_letter x) ≡ a → (b : Bool)
        → deepens inside n (cond a (92 ∷ escape_letter x ∷ []) (cond b (92 ∷ 117 ∷ 48 ∷ 48 ∷ digit_char (x / 16) ∷ digit_char (x % 16) ∷ []) (x ∷ [])) ++ r) ≡ deepens inside n r
    go true e b = rw shallow refl
    go false e true =
        let high = digit_char_plain (x / 16) in
        let low = digit_char_plain (x % 16) in
        unit_inside n (digit_char (x / 16) ∷ digit_char (x % 16) ∷ r) few ∙ plain_inside (digit_char (x / 16)) n (digit_char (x % 16) ∷ r) high.0 high.1 few ∙ plain_inside (digit_char (x % 16)) n r low.0 low.1 few
    go false e false =
        plain_inside x n r (λ h. true≢false (ap (λ y. nat_lt 0 (escape_letter y)) (sym h) ∙ e)) (λ h. true≢false (ap (λ y. nat_lt 0 (escape_letter y)) (sym h) ∙ e)) few

string_inside : (s r : List ℕ) (n : ℕ) → n ≤ 100 → deepens inside n (escape s ++ 34 ∷ r) ≡ deepens outside n r
string_inside [] r n few = rw (le-ltb 100 n few) refl
string_inside (x ∷ s) r n few = ap (deepens inside n) (append_assoc (escape_byte x) (escape s) (34 ∷ r)) ∙ byte_inside x n (escape s ++ 34 ∷ r) few ∙ string_inside s r n few

quoted_outside : (s r : List ℕ) (n : ℕ) → n ≤ 100 → deepens outside n (quoted s ++ r) ≡ deepens outside n r
quoted_outside s r n few = rw (le-ltb 100 n few) (ap (deepens inside n) (append_assoc (escape s) (34 ∷ []) r) ∙ string_inside s r n few)

-- ---- the scan of a number

digits_outside : (ds r : List ℕ) (n : ℕ) → AllDigits 10 ds → n ≤ 100 → deepens outside n (ds ++ r) ≡ deepens outside n r
digits_outside [] r n all few = refl
digits_outside (d ∷ ds) r n all few =
    let range : IsInRange 48 57 d = digit_from_value d all.0 in
    rw (
      ne_eqb d 91 (λ e. omega (arith, range.1, e)),
      ne_eqb d 123 (λ e. omega (arith, range.1, e)),
      ne_eqb d 93 (λ e. omega (arith, range.1, e)),
      ne_eqb d 125 (λ e. omega (arith, range.1, e)),
      ne_eqb d 34 (λ e. omega (arith, range.0, e)),
      le-ltb 100 n few,
    ) (digits_outside ds r n all.1 few)

-- ---- the scan of a tree

comma_outside : (later : Bool) (r : List ℕ) (n : ℕ) → n ≤ 100 → deepens outside n (comma_if later ++ r) ≡ deepens outside n r
comma_outside true r n few = rw (le-ltb 100 n few) refl
comma_outside false r n few = refl

colon_space : (r : List ℕ) (n : ℕ) → n ≤ 100 → deepens outside n (58 ∷ 32 ∷ r) ≡ deepens outside n r
colon_space r n few = rw (le-ltb 100 n few) refl

-- between a bracket that opens and one that closes
bracketed : (c d n : ℕ) (mid r : List ℕ) → (opened : deepens outside n (c ∷ (mid ++ d ∷ r)) ≡ nat_lt 100 (n + 1) || deepens outside (n + 1) (mid ++ d ∷ r)) → n + 1 ≤ 100
    → deepens outside (n + 1) (mid ++ d ∷ r) ≡ deepens outside (n + 1) (d ∷ r) → deepens outside (n + 1) (d ∷ r) ≡ nat_lt 100 (n + 1 - 1) || deepens outside (n + 1 - 1) r
    → deepens outside n (c ∷ (mid ++ d ∷ r)) ≡ deepens outside n r
bracketed c d n mid r opened few within closed =
    opened ∙ ap (λ b. b || deepens outside (n + 1) (mid ++ d ∷ r)) (le-ltb 100 (n + 1) few) ∙ within ∙ closed
    ∙ ap (λ m. nat_lt 100 m || deepens outside m r) (omega arith) ∙ ap (λ b. b || deepens outside n r) (le-ltb 100 n (omega (arith, few)))

mutual
  tree_outside : (t : Tree) (r : List ℕ) (n : ℕ) → IsTree t → n + depth t ≤ 100 → deepens outside n (tree_text t ++ r) ≡ deepens outside n r
  tree_outside null r n is few = rw (le-ltb 100 n (omega (arith, few))) refl
  tree_outside (boolean true) r n is few = rw (le-ltb 100 n (omega (arith, few))) refl
  tree_outside (boolean false) r n is few = rw (le-ltb 100 n (omega (arith, few))) refl
  tree_outside (number (pos m)) r n is few = digits_outside (decimal m) r n (decimal_is_IsNumeral m (whole_pos m is)).0.1 (omega (arith, few))
  tree_outside (number (negsuc m)) r n is few =
      rw (le-ltb 100 n (omega (arith, few))) (digits_outside (decimal (suc m)) r n (decimal_is_IsNumeral (suc m) (omega (arith, whole_negsuc m is))).0.1 (omega (arith, few)))
  tree_outside (text s) r n is few = quoted_outside s r n (omega (arith, few))
  tree_outside (array ts) r n is few =
      ap (λ l. deepens outside n (91 ∷ l)) (append_assoc (trees_text false ts) (93 ∷ []) r)
      ∙ bracketed 91 93 n (trees_text false ts) r refl (omega (arith, few)) (trees_outside false ts (93 ∷ r) (n + 1) is (omega (arith, few))) refl
  tree_outside (object ms) r n is few =
      ap (λ l. deepens outside n (123 ∷ l)) (append_assoc (members_text false ms) (125 ∷ []) r)
      ∙ bracketed 123 125 n (members_text false ms) r refl (omega (arith, few)) (members_outside false ms (125 ∷ r) (n + 1) is.1 (omega (arith, few))) refl

  trees_outside : (later : Bool) (ts : Trees) (r : List ℕ) (n : ℕ) → AreTrees ts → n + trees_depth ts ≤ 100 → deepens outside n (trees_text later ts ++ r) ≡ deepens outside n r
  trees_outside later no_trees r n are few = refl
  trees_outside later (tree t ts) r n are few =
      ap (deepens outside n) (append_assoc (comma_if later) (tree_text t ++ trees_text true ts) r) ∙ comma_outside later ((tree_text t ++ trees_text true ts) ++ r) n (omega (arith, few))
      ∙ ap (deepens outside n) (append_assoc (tree_text t) (trees_text true ts) r) ∙ tree_outside t (trees_text true ts ++ r) n are.0 (omega (arith, few)) ∙ trees_outside true ts r n are.1 (omega (arith, few))

  members_outside : (later : Bool) (ms : Members) (r : List ℕ) (n : ℕ) → HoldTrees ms → n + members_depth ms ≤ 100 → deepens outside n (members_text later ms ++ r) ≡ deepens outside n r
  members_outside later no_members r n hold few = refl
  members_outside later (member k t ms) r n hold few =
      let inner = 58 ∷ 32 ∷ (tree_text t ++ members_text true ms) in
      ap (deepens outside n) (append_assoc (comma_if later) (quoted k ++ inner) r) ∙ comma_outside later ((quoted k ++ inner) ++ r) n (omega (arith, few))
      ∙ ap (deepens outside n) (append_assoc (quoted k) inner r) ∙ quoted_outside k (inner ++ r) n (omega (arith, few))
      ∙ colon_space ((tree_text t ++ members_text true ms) ++ r) n (omega (arith, few))
      ∙ ap (deepens outside n) (append_assoc (tree_text t) (members_text true ms) r) ∙ tree_outside t (members_text true ms ++ r) n hold.0 (omega (arith, few)) ∙ members_outside true ms r n hold.1 (omega (arith, few))

-- the text of a tree that isn't too deep is read as that tree
pub read_tree-tree_text : (t : Tree) → IsTree t → depth t ≤ 100 → read_tree (tree_text t) ≡ Ok t
read_tree-tree_text t is few =
    let shallow = ap (deepens outside 0) (sym (append-nil (tree_text t))) ∙ tree_outside t [] 0 is (omega (arith, few)) in
    rw (shallow, read-tree_text t is (omega (arith, few)), has_float-data_of t, has_long_key-data_of t is) (ap Ok (of_data-data_of t is))
