-- The tokens of a printed tree, with the gaps before them, and what they are read as.
use Rattle.std.proofs.Common.{◌≡◌, ℕ, suc, max, ◌-◌, ◌^◌, ◌<◌, ◌≤◌, ℤ, pos, negsuc, Bool, true, false, ◌&&◌, ◌==◌, cond, List, [], ◌∷◌, ◌++◌, length, map, decimal, refl, sym, ap, ap₂, ◌∙◌, arith, append-nil, append_assoc, ne_eqb, Some, option_map, option_and_then, if◌then◌else◌, inl, subst}
use lib.Dec.{ltb→lt, leb→le}
use Rattle.std.specs.Fmt.{signed_decimal}
use Rattle.std.specs.Int.{IsInRange}
use Rattle.std.specs.Str.Parse.{AllDigits}
use Rattle.std.proofs.lemmas.Fmt.{decimal_is_IsNumeral}
use Rattle.std.proofs.lemmas.Str.Parse.{digit_from_value}
use Rattle.json.specs.Token.{Token}
use Rattle.json.specs.Word.{head, after_number}
use Rattle.json.specs.Lex.{tokens}
use Rattle.json.specs.Json as json
use Rattle.json.specs.Tree as json_size
use Rattle.json.specs.Tree.{json_tokens, items_tokens, members_tokens, HasNumbers, ItemsHaveNumbers, MembersHaveNumbers}
use Rattle.json.specs.Print.{IsNumber, ArePrintable, quoted}
use Rattle.json.specs.Spaced.{IsGap, AreGaps, print_spaced}
use Rattle.json.proofs.Printed.Decimals.{IsNumber-decimal}
use Rattle.json.proofs.Printed.Tokens.{tokens-print_spaced}
use Rattle.json.proofs.Printed.Trees.{value-json_tokens, ArePrintable-json_tokens}
use Rattle.serde_json.specs.Data as json_data
use Rattle.serde_json.specs.Read as json_read
use Rattle.serde_json.specs.Read.{read, of_json, number_of}
use Rattle.serde_json.proofs.Numbers.{number_of-decimal, number_of-negative}
use Rattle.tree_model.specs.Tree.{Tree, null, boolean, number, text, array, object, Trees, no_trees, tree, Members, no_members, member, depth, trees_depth, members_depth, IsWhole, IsTree, AreTrees, HoldTrees}
use Rattle.tree_model.specs.Text.{comma_if, tree_text, trees_text, members_text}
use Rattle.tree_model.proofs.DataOf.{num_of, data_of, items_of, members_of}

-- ---- the tree as JSON

abbrev mutual
  pub json_of : Tree → json.Json
  json_of null = json.null
  json_of (boolean b) = json.boolean b
  json_of (number z) = json.number (signed_decimal z)
  json_of (text s) = json.string s
  json_of (array ts) = json.array (json_items ts)
  json_of (object ms) = json.object (json_members ms)

  pub json_items : Trees → json.Items
  json_items no_trees = json.no_items
  json_items (tree t ts) = json.item (json_of t) (json_items ts)

  pub json_members : Members → json.Members
  json_members no_members = json.no_members
  json_members (member k t ms) = json.member k (json_of t) (json_members ms)

mutual
  json_depth : (t : Tree) → json_size.depth (json_of t) ≡ depth t
  json_depth null = refl
  json_depth (boolean b) = refl
  json_depth (number z) = refl
  json_depth (text s) = refl
  json_depth (array ts) = ap suc (json_items_depth ts)
  json_depth (object ms) = ap suc (json_members_depth ms)

  json_items_depth : (ts : Trees) → json_size.items_depth (json_items ts) ≡ trees_depth ts
  json_items_depth no_trees = refl
  json_items_depth (tree t ts) = ap₂ max (json_depth t) (json_items_depth ts)

  json_members_depth : (ms : Members) → json_size.members_depth (json_members ms) ≡ members_depth ms
  json_members_depth no_members = refl
  json_members_depth (member k t ms) = ap₂ max (json_depth t) (json_members_depth ms)

-- ---- its numbers

minus_number : (ds : List ℕ) → (head ds == 45) ≡ false → IsNumber ds → IsNumber (45 ∷ ds)
unfolding after_number
minus_number ds other h = rw other at h

no_minus : (ds : List ℕ) → 0 < length ds → AllDigits 10 ds → (head ds == 45) ≡ false
no_minus [] some all = absurd (omega (arith, some))
no_minus (d ∷ ds) some all = let range : IsInRange 48 57 d = digit_from_value d all.0 in ne_eqb d 45 (λ e. omega (arith, range.0, e))

-- a whole number from 0 on has 64 bits
pub whole_pos : (n : ℕ) → IsWhole (pos n) → n < 2 ^ 64
whole_pos n is = ltb→lt n (2 ^ 64) is.1.lt

-- a negative one has 63 and a sign
pub whole_negsuc : (n : ℕ) → IsWhole (negsuc n) → n < 2 ^ 63
whole_negsuc n is = let le : n ≤ 2 ^ 63 - 1 = leb→le n (2 ^ 63 - 1) is.0.le in omega (arith, le)

IsNumber-whole : (z : ℤ) → IsWhole z → IsNumber (signed_decimal z)
IsNumber-whole (pos n) is = IsNumber-decimal n (whole_pos n is)
IsNumber-whole (negsuc n) is =
    let fits : suc n < 2 ^ 64 = omega (arith, whole_negsuc n is) in
    let numeral = (decimal_is_IsNumeral (suc n) fits).0 in
    minus_number (decimal (suc n)) (no_minus (decimal (suc n)) numeral.0 numeral.1) (IsNumber-decimal (suc n) fits)

number_of-whole : (z : ℤ) → IsWhole z → number_of (signed_decimal z) ≡ Some (num_of z)
number_of-whole (pos n) is = number_of-decimal n (whole_pos n is)
number_of-whole (negsuc n) is = number_of-negative n (whole_negsuc n is)

mutual
  has_numbers : (t : Tree) → IsTree t → HasNumbers (json_of t)
  has_numbers null is = tt
  has_numbers (boolean b) is = tt
  has_numbers (number z) is = IsNumber-whole z is
  has_numbers (text s) is = tt
  has_numbers (array ts) is = items_have_numbers ts is
  has_numbers (object ms) is = members_have_numbers ms is.1

  items_have_numbers : (ts : Trees) → AreTrees ts → ItemsHaveNumbers (json_items ts)
  items_have_numbers no_trees are = tt
  items_have_numbers (tree t ts) are = (has_numbers t are.0, items_have_numbers ts are.1)

  members_have_numbers : (ms : Members) → HoldTrees ms → MembersHaveNumbers (json_members ms)
  members_have_numbers no_members hold = tt
  members_have_numbers (member k t ms) hold = (has_numbers t hold.0, members_have_numbers ms hold.1)

-- ---- what it is read as

mutual
  of_json-json_of : (t : Tree) → IsTree t → of_json (json_of t) ≡ Some (data_of t)
  of_json-json_of null is = refl
  of_json-json_of (boolean b) is = refl
  of_json-json_of (number z) is = ap (option_map json_data.number) (number_of-whole z is)
  of_json-json_of (text s) is = refl
  of_json-json_of (array ts) is = ap (option_map json_data.array) (of_items-json_items ts is)
  of_json-json_of (object ms) is = ap (option_map json_data.object) (of_members-json_members ms json_data.no_members is.1)

  of_items-json_items : (ts : Trees) → AreTrees ts → json_read.of_items (json_items ts) ≡ Some (items_of ts)
  of_items-json_items no_trees are = refl
  of_items-json_items (tree t ts) are = rw (of_json-json_of t are.0, of_items-json_items ts are.1) refl

  of_members-json_members : (ms : Members) (ds : json_data.Members) → HoldTrees ms → json_read.of_members (json_members ms) ds ≡ Some (members_of ms ds)
  of_members-json_members no_members ds hold = refl
  of_members-json_members (member k t ms) ds hold = rw (of_json-json_of t hold.0) (of_members-json_members ms (json_data.put k (data_of t) ds) hold.1)

-- ---- its tokens, each with the gap before it

abbrev Piece : Type 0
Piece = List ℕ × Token

abbrev gap : Bool → List ℕ
gap later = if later then 32 ∷ [] else []

abbrev mutual
  tree_pieces : List ℕ → Tree → List Piece → List Piece
  tree_pieces g null ps = (g, Token.null) ∷ ps
  tree_pieces g (boolean b) ps = (g, Token.boolean b) ∷ ps
  tree_pieces g (number z) ps = (g, Token.number (signed_decimal z)) ∷ ps
  tree_pieces g (text s) ps = (g, Token.string s) ∷ ps
  tree_pieces g (array ts) ps = (g, Token.begin_array) ∷ trees_pieces false ts (([], Token.end_array) ∷ ps)
  tree_pieces g (object ms) ps = (g, Token.begin_object) ∷ members_pieces false ms (([], Token.end_object) ∷ ps)

  trees_pieces : Bool → Trees → List Piece → List Piece
  trees_pieces later no_trees ps = ps
  trees_pieces later (tree t ts) ps = tree_pieces (gap later) t (trees_pieces true ts ps)

  members_pieces : Bool → Members → List Piece → List Piece
  members_pieces later no_members ps = ps
  members_pieces later (member k t ms) ps = (gap later, Token.key k) ∷ tree_pieces (32 ∷ []) t (members_pieces true ms ps)

abbrev token_of : Piece → Token
token_of p = p.1

mutual
  tree_tokens : (g : List ℕ) (t : Tree) (ps : List Piece) → map token_of (tree_pieces g t ps) ≡ json_tokens (json_of t) ++ map token_of ps
  tree_tokens g null ps = refl
  tree_tokens g (boolean b) ps = refl
  tree_tokens g (number z) ps = refl
  tree_tokens g (text s) ps = refl
  tree_tokens g (array ts) ps = ap (λ l. Token.begin_array ∷ l) (trees_tokens false ts ps)
  tree_tokens g (object ms) ps = ap (λ l. Token.begin_object ∷ l) (members_tokens_are false ms ps)

  trees_tokens : (later : Bool) (ts : Trees) (ps : List Piece) → map token_of (trees_pieces later ts (([], Token.end_array) ∷ ps)) ≡ items_tokens (json_items ts) ++ map token_of ps
  trees_tokens later no_trees ps = refl
  trees_tokens later (tree t ts) ps =
      tree_tokens (gap later) t (trees_pieces true ts (([], Token.end_array) ∷ ps)) ∙ ap (λ l. json_tokens (json_of t) ++ l) (trees_tokens true ts ps)
      ∙ sym (append_assoc (json_tokens (json_of t)) (items_tokens (json_items ts)) (map token_of ps))

  members_tokens_are : (later : Bool) (ms : Members) (ps : List Piece) → map token_of (members_pieces later ms (([], Token.end_object) ∷ ps)) ≡ members_tokens (json_members ms) ++ map token_of ps
  members_tokens_are later no_members ps = refl
  members_tokens_are later (member k t ms) ps =
      ap (λ l. Token.key k ∷ l)
      (tree_tokens (32 ∷ []) t (members_pieces true ms (([], Token.end_object) ∷ ps)) ∙ ap (λ l. json_tokens (json_of t) ++ l) (members_tokens_are true ms ps)
      ∙ sym (append_assoc (json_tokens (json_of t)) (members_tokens (json_members ms)) (map token_of ps)))

IsGap-gap : (later : Bool) → IsGap (gap later)
IsGap-gap true = (inl refl, tt)
IsGap-gap false = tt

mutual
  tree_gaps : (g : List ℕ) (t : Tree) (ps : List Piece) → IsGap g → AreGaps ps → AreGaps (tree_pieces g t ps)
  tree_gaps g null ps is are = (is, are)
  tree_gaps g (boolean b) ps is are = (is, are)
  tree_gaps g (number z) ps is are = (is, are)
  tree_gaps g (text s) ps is are = (is, are)
  tree_gaps g (array ts) ps is are = (is, trees_gaps false ts (([], Token.end_array) ∷ ps) (tt, are))
  tree_gaps g (object ms) ps is are = (is, members_gaps false ms (([], Token.end_object) ∷ ps) (tt, are))

  trees_gaps : (later : Bool) (ts : Trees) (ps : List Piece) → AreGaps ps → AreGaps (trees_pieces later ts ps)
  trees_gaps later no_trees ps are = are
  trees_gaps later (tree t ts) ps are = tree_gaps (gap later) t (trees_pieces true ts ps) (IsGap-gap later) (trees_gaps true ts ps are)

  members_gaps : (later : Bool) (ms : Members) (ps : List Piece) → AreGaps ps → AreGaps (members_pieces later ms ps)
  members_gaps later no_members ps are = are
  members_gaps later (member k t ms) ps are = (IsGap-gap later, tree_gaps (32 ∷ []) t (members_pieces true ms ps) (inl refl, tt) (members_gaps true ms ps are))

-- ---- their text

-- the comma before a value
abbrev comma : Bool → List ℕ
comma c = cond c (44 ∷ []) []

begun : (c : Bool) (xs : List ℕ) → cond (c && true) (44 ∷ []) [] ++ xs ≡ comma c ++ xs
begun true xs = refl
begun false xs = refl

closed : (c : Bool) (xs : List ℕ) → cond (c && false) (44 ∷ []) [] ++ xs ≡ xs
closed true xs = refl
closed false xs = refl

comma_gap : (later : Bool) (xs : List ℕ) → comma later ++ (gap later ++ xs) ≡ comma_if later ++ xs
comma_gap true xs = refl
comma_gap false xs = refl

mutual
  unfolding print_spaced

  tree_printed : (c : Bool) (g : List ℕ) (t : Tree) (ps : List Piece) → print_spaced c (tree_pieces g t ps) ≡ comma c ++ (g ++ (tree_text t ++ print_spaced true ps))
  tree_printed c g null ps = begun c _
  tree_printed c g (boolean true) ps = begun c _
  tree_printed c g (boolean false) ps = begun c _
  tree_printed c g (number z) ps = begun c _
  tree_printed c g (text s) ps = begun c _
  tree_printed c g (array ts) ps =
      begun c _ ∙ ap (λ l. comma c ++ (g ++ 91 ∷ l)) (trees_printed false ts ps ∙ sym (append_assoc (trees_text false ts) (93 ∷ []) (print_spaced true ps)))
  tree_printed c g (object ms) ps =
      begun c _ ∙ ap (λ l. comma c ++ (g ++ 123 ∷ l)) (members_printed false ms ps ∙ sym (append_assoc (members_text false ms) (125 ∷ []) (print_spaced true ps)))

  trees_printed : (later : Bool) (ts : Trees) (ps : List Piece) → print_spaced later (trees_pieces later ts (([], Token.end_array) ∷ ps)) ≡ trees_text later ts ++ 93 ∷ print_spaced true ps
  trees_printed later no_trees ps = closed later _
  trees_printed later (tree t ts) ps =
      tree_printed later (gap later) t (trees_pieces true ts (([], Token.end_array) ∷ ps)) ∙ comma_gap later _
      ∙ ap (λ l. comma_if later ++ (tree_text t ++ l)) (trees_printed true ts ps)
      ∙ ap (λ l. comma_if later ++ l) (sym (append_assoc (tree_text t) (trees_text true ts) (93 ∷ print_spaced true ps)))
      ∙ sym (append_assoc (comma_if later) (tree_text t ++ trees_text true ts) (93 ∷ print_spaced true ps))

  members_printed : (later : Bool) (ms : Members) (ps : List Piece) → print_spaced later (members_pieces later ms (([], Token.end_object) ∷ ps)) ≡ members_text later ms ++ 125 ∷ print_spaced true ps
  members_printed later no_members ps = closed later _
  members_printed later (member k t ms) ps =
      begun later _ ∙ comma_gap later _ ∙ ap (λ l. comma_if later ++ l) (append_assoc (quoted k) (58 ∷ []) _)
      ∙ ap (λ l. comma_if later ++ (quoted k ++ 58 ∷ l)) (tree_printed false (32 ∷ []) t (members_pieces true ms (([], Token.end_object) ∷ ps)))
      ∙ ap (λ l. comma_if later ++ (quoted k ++ 58 ∷ 32 ∷ (tree_text t ++ l))) (members_printed true ms ps)
      ∙ ap (λ l. comma_if later ++ (quoted k ++ 58 ∷ 32 ∷ l)) (sym (append_assoc (tree_text t) (members_text true ms) (125 ∷ print_spaced true ps)))
      ∙ ap (λ l. comma_if later ++ l) (sym (append_assoc (quoted k) (58 ∷ 32 ∷ (tree_text t ++ members_text true ms)) (125 ∷ print_spaced true ps)))
      ∙ sym (append_assoc (comma_if later) (quoted k ++ 58 ∷ 32 ∷ (tree_text t ++ members_text true ms)) (125 ∷ print_spaced true ps))

-- ---- the data of a printed tree

tokens-tree_text : (t : Tree) → IsTree t → tokens (tree_text t) ≡ json_tokens (json_of t) ++ []
unfolding print_spaced
tokens-tree_text t is =
    let same = tree_tokens [] t [] in
    let printable = subst ArePrintable (sym (same ∙ append-nil (json_tokens (json_of t)))) (ArePrintable-json_tokens (json_of t) (has_numbers t is)) in
    ap tokens (sym (tree_printed false [] t [] ∙ append-nil (tree_text t))) ∙ tokens-print_spaced (tree_pieces [] t []) (tree_gaps [] t [] tt tt) printable ∙ same

-- a tree's text is read as the tree's data
pub read-tree_text : (t : Tree) → IsTree t → depth t ≤ 127 → read (tree_text t) ≡ Some (data_of t)
read-tree_text t is shallow =
    ap (λ ts. option_and_then of_json (option_and_then (λ p. json.if_last p.0 p.1) (json.value 127 ts))) (tokens-tree_text t is)
    ∙ ap (λ o. option_and_then of_json (option_and_then (λ p. json.if_last p.0 p.1) o)) (value-json_tokens (json_of t) 127 [] (subst (λ n. n ≤ 127) (sym (json_depth t)) shallow))
    ∙ of_json-json_of t is
