-- The text of what stands in bytes, value by value.
use Rattle.std.proofs.Common.{◌≡◌, ℕ, zero, suc, ◌+◌, ◌-◌, ◌≤◌, ◌<◌, Bool, true, false, List, [], ◌∷◌, ◌++◌, length, map, Some, None, slice_index, pos, ◌*◌, Result, Ok, Err, OnOk, IsSomeAnd, slice_range, refl, sym, ap, subst, ◌∙◌, arith, append-nil, append_assoc}
use Rattle.json.specs.Print.{quoted}
use Rattle.tree_model.specs.Tree.{Tree, null, boolean, number, text, array, object, Trees, no_trees, tree, tree_list, Members, no_members, member, member_list, depth, trees_depth, members_depth}
use Rattle.tree_model.specs.Text.{tree_text, trees_text, members_text, comma_if}
use Rattle.binary_model.specs.Layout.{Form, Kind, literal, signed, unsigned, Spot, kind_at, number_at, string, text_range, array_in, object_in, Container, container_as, count, end, entries_end, values_floor, key_of, child}
use Rattle.binary_model.specs.Stands.{signed_of, IsLiteral, IsNumberAs, IsFrame, IsValue, AreKeys, AreElements, HoldValues}
use Rattle.std.proofs.lemmas.Bool.{le-leb}
use Rattle.binary_model.specs.FirstFault.{Fault, Truncated, ◌>>=◌, require, fits, literal_of}
use Rattle.json_binary.specs.declared.error.DecodeError.{DecodeError}
use Rattle.json_binary.specs.Decoding.{Gives, literal_at, signed_at, unsigned_at}
use Rattle.json_binary.proofs.DecodeLemmas.{array_c, object_c}
use Rattle.json_binary.proofs.UsageLemmas.{behind_first, none_behind, nth, array_shape, object_shape}
use Rattle.json_binary.proofs.EqualLemmas.{members_behind, none_members, nth_member}

-- ---- elements

module _ (bytes : List ℕ) (c : Container) (k floor nesting : ℕ) (ts : Trees) where
  -- a comma, where one is due, and the k-th value's shown
  pub element_text : (later : Bool) (whole before comma after : List ℕ) → AreElements bytes c 0 floor ts → k < length (tree_list ts) → trees_depth ts ≤ nesting
      → comma ≡ before ++ comma_if later → ((t : Tree) → IsValue bytes t (child bytes c k) → depth t ≤ nesting → after ≡ comma ++ tree_text t)
      → (before ++ trees_text later (behind_first k ts)) ≡ whole → (after ++ trees_text true (behind_first (k + 1) ts)) ≡ whole
  element_text later whole before comma after a lt deep e shown so_far =
      let n = nth bytes c 0 floor k ts a lt in
      let z : 0 + k ≡ k = omega arith in
      let one : k + 1 ≡ suc k = omega arith in
      let low = n.shallow in
      let this = shown n.first (subst (λ i. IsValue bytes n.first (child bytes c i)) z n.stands) (omega (arith, low, deep)) in
      let rest = trees_text true (behind_first (suc k) ts) in
      ap (λ i. after ++ trees_text true (behind_first i ts)) one
      ∙ ap (λ l. l ++ rest) (this ∙ ap (λ l. l ++ tree_text n.first) e)
      ∙ append_assoc (before ++ comma_if later) (tree_text n.first) rest ∙ append_assoc before (comma_if later) (tree_text n.first ++ rest)
      ∙ sym (ap (λ us. before ++ trees_text later us) n.rest) ∙ so_far

  -- behind the last element the text is whole
  pub elements_text : (later : Bool) (whole before : List ℕ) → length (tree_list ts) ≤ k → (before ++ trees_text later (behind_first k ts)) ≡ whole → before ≡ whole
  elements_text later whole before h so_far = sym (append-nil before) ∙ sym (ap (λ us. before ++ trees_text later us) (none_behind k ts h)) ∙ so_far

-- ---- members

module _ (bytes : List ℕ) (c : Container) (k start floor nesting : ℕ) (ms : Members) where
  -- one member's text more
  pub member_text : (later : Bool) (whole before comma key after : List ℕ) → AreKeys bytes c 0 start (map (λ m. m.0) (member_list ms)) → HoldValues bytes c 0 floor ms → k < length (member_list ms) → members_depth ms ≤ nesting
      → comma ≡ before ++ comma_if later → key ≡ comma ++ (quoted (key_of bytes c k) ++ 58 ∷ 32 ∷ [])
      → ((t : Tree) → IsValue bytes t (child bytes c k) → depth t ≤ nesting → after ≡ key ++ tree_text t)
      → (before ++ members_text later (members_behind k ms)) ≡ whole → (after ++ members_text true (members_behind (k + 1) ms)) ≡ whole
  member_text later whole before comma key after a h lt deep e f shown so_far =
      let n = nth_member bytes c 0 start floor k ms a h lt in
      let z : 0 + k ≡ k = omega arith in
      let one : k + 1 ≡ suc k = omega arith in
      let low = n.shallow in
      let this = shown n.first (subst (λ i. IsValue bytes n.first (child bytes c i)) z n.stands) (omega (arith, low, deep)) in
      let rest = members_text true (members_behind (suc k) ms) in
      let parts : members_behind k ms ≡ member (key_of bytes c k) n.first (members_behind (suc k) ms) = subst (λ i. members_behind k ms ≡ member (key_of bytes c i) n.first (members_behind (suc k) ms)) z n.rest in
      ap (λ i. after ++ members_text true (members_behind i ms)) one
      ∙ ap (λ l. l ++ rest) (this ∙ ap (λ l. l ++ tree_text n.first) (f ∙ ap (λ l. l ++ (quoted (key_of bytes c k) ++ 58 ∷ 32 ∷ [])) e))
      ∙ append_assoc ((before ++ comma_if later) ++ (quoted (key_of bytes c k) ++ 58 ∷ 32 ∷ [])) (tree_text n.first) rest
      ∙ append_assoc (before ++ comma_if later) (quoted (key_of bytes c k) ++ 58 ∷ 32 ∷ []) (tree_text n.first ++ rest)
      ∙ append_assoc before (comma_if later) ((quoted (key_of bytes c k) ++ 58 ∷ 32 ∷ []) ++ (tree_text n.first ++ rest))
      ∙ ap (λ l. before ++ (comma_if later ++ l)) (append_assoc (quoted (key_of bytes c k)) (58 ∷ 32 ∷ []) (tree_text n.first ++ rest))
      ∙ sym (ap (λ us. before ++ members_text later us) parts) ∙ so_far

  -- behind the last member the text is whole
  pub members_text_done : (later : Bool) (whole before : List ℕ) → length (member_list ms) ≤ k → (before ++ members_text later (members_behind k ms)) ≡ whole → before ≡ whole
  members_text_done later whole before h so_far = sym (append-nil before) ∙ sym (ap (λ us. before ++ members_text later us) (none_members k ms h)) ∙ so_far

-- ---- containers

bracketed : (before opened middle : List ℕ) (a b : ℕ) (shown : List ℕ) → opened ≡ before ++ a ∷ [] → middle ≡ opened ++ shown → middle ++ b ∷ [] ≡ before ++ a ∷ (shown ++ b ∷ [])
bracketed before opened middle a b shown e f =
    ap (λ l. l ++ b ∷ []) (f ∙ ap (λ l. l ++ shown) e) ∙ append_assoc (before ++ a ∷ []) shown (b ∷ []) ∙ append_assoc before (a ∷ []) (shown ++ b ∷ [])

-- brackets around the elements' text are the array's
pub array_text : (bytes : List ℕ) (s : Spot) (form : Form) (t : Tree) (nesting : ℕ) (before opened middle after : List ℕ) → kind_at bytes s.type_at ≡ array_in form → IsValue bytes t s → depth t ≤ nesting → opened ≡ before ++ 91 ∷ []
    → ((ts : Trees) (floor : ℕ) → AreElements bytes (array_c bytes s form) 0 floor ts → length (tree_list ts) ≡ count bytes (array_c bytes s form) → trees_depth ts ≤ nesting - 1 → middle ≡ opened ++ trees_text false ts)
    → after ≡ middle ++ 93 ∷ [] → after ≡ before ++ tree_text t
array_text bytes s form t nesting before opened middle after kind v deep e shown f =
    let (ts, is, (_, frame, many, elements)) = array_shape bytes s form t kind v in
    let d : suc (trees_depth ts) ≤ nesting = subst (λ u. depth u ≤ nesting) is deep in
    let g = shown ts (entries_end bytes (array_c bytes s form)) elements (sym many) (omega (arith, d)) in
    f ∙ bracketed before opened middle 91 93 (trees_text false ts) e g ∙ ap (λ u. before ++ tree_text u) (sym is)

-- and braces around the members' the object's
pub object_text : (bytes : List ℕ) (s : Spot) (form : Form) (t : Tree) (nesting : ℕ) (before opened middle after : List ℕ) → kind_at bytes s.type_at ≡ object_in form → IsValue bytes t s → depth t ≤ nesting → opened ≡ before ++ 123 ∷ []
    → ((ms : Members) (start floor : ℕ) → AreKeys bytes (object_c bytes s form) 0 start (map (λ m. m.0) (member_list ms)) → HoldValues bytes (object_c bytes s form) 0 floor ms
    → length (member_list ms) ≡ count bytes (object_c bytes s form) → members_depth ms ≤ nesting - 1 → middle ≡ opened ++ members_text false ms)
    → after ≡ middle ++ 125 ∷ [] → after ≡ before ++ tree_text t
object_text bytes s form t nesting before opened middle after kind v deep e shown f =
    let c = object_c bytes s form in
    let (ms, is, (_, frame, many, ks, held)) = object_shape bytes s form t kind v in
    let d : suc (members_depth ms) ≤ nesting = subst (λ u. depth u ≤ nesting) is deep in
    let g = shown ms (entries_end bytes c) (values_floor bytes c) ks held (sym many) (omega (arith, d)) in
    f ∙ bracketed before opened middle 123 125 (members_text false ms) e g ∙ ap (λ u. before ++ tree_text u) (sym is)

-- ---- texts

module _ (bytes : List ℕ) (s : Spot) (before after : List ℕ) (r : ℕ × ℕ) where
  -- a text's letters in quotes are its text
  pub letters_text : (t : Tree) → kind_at bytes s.type_at ≡ string → text_range bytes s.at s.limit ≡ Some r → after ≡ before ++ quoted (slice_range bytes r.0 r.1) → IsValue bytes t s → after ≡ before ++ tree_text t
  letters_text null e range h v = let k = v.0 in let no : ⊥ = cc in absurd no
  letters_text (boolean b) e range h v = let k = v.0 in let no : ⊥ = cc in absurd no
  letters_text (number z) e range h v = absurd (subst (λ k. IsNumberAs k bytes z s) e v)
  letters_text (text letters) e range h v = h ∙ ap (λ l. before ++ quoted l) (subst (λ o. IsSomeAnd o (λ q. slice_range bytes q.0 q.1 ≡ letters)) range v.1)
  letters_text (array ts) e range h v = absurd (subst (λ k. IsSomeAnd (container_as k s.at) (λ c. (c.is_object ≡ false) × IsFrame bytes c s.limit × (count bytes c ≡ length (tree_list ts)) × AreElements bytes c 0 (entries_end bytes c) ts)) e v)
  letters_text (object ms) e range h v = absurd (subst (λ k. IsSomeAnd (container_as k s.at) (λ c. (c.is_object ≡ true) × IsFrame bytes c s.limit × (count bytes c ≡ length (member_list ms)) × AreKeys bytes c 0 (entries_end bytes c) (map (λ m. m.0) (member_list ms))
      × HoldValues bytes c 0 (values_floor bytes c) ms)) e v)

-- what holds where a call succeeds
pub on_ok : {A E : Type 0} (P Q : Type 0) (r : Result A E) → (P → Q) → OnOk r P → OnOk r Q
on_ok P Q (Ok x) f h = f h
on_ok P Q (Err e) f h = tt

-- ---- scalars

module _ (bytes : List ℕ) (s : Spot) where
  no_array : (ts : Trees) (kind : Kind) → kind_at bytes s.type_at ≡ kind → container_as kind s.at ≡ None → IsValue bytes (array ts) s → ⊥
  no_array ts kind e n v = subst (λ o. IsSomeAnd o (λ c. (c.is_object ≡ false) × IsFrame bytes c s.limit × (count bytes c ≡ length (tree_list ts)) × AreElements bytes c 0 (entries_end bytes c) ts)) (ap (λ k. container_as k s.at) e ∙ n) v

  no_object : (ms : Members) (kind : Kind) → kind_at bytes s.type_at ≡ kind → container_as kind s.at ≡ None → IsValue bytes (object ms) s → ⊥
  no_object ms kind e n v = subst (λ o. IsSomeAnd o (λ c. (c.is_object ≡ true) × IsFrame bytes c s.limit × (count bytes c ≡ length (member_list ms)) × AreKeys bytes c 0 (entries_end bytes c) (map (λ m. m.0) (member_list ms))
      × HoldValues bytes c 0 (values_floor bytes c) ms)) (ap (λ k. container_as k s.at) e ∙ n) v

  found_as : {A : Type 0} (width : ℕ) (x : Result A Fault) → s.at + width ≤ s.limit → (fits s width >>= λ _. x) ≡ x
  found_as width x h = ap (λ b. require b (Truncated s.at) >>= λ _. x) (le-leb (s.at + width) s.limit h)

  literal_byte : (b : ℕ) → IsLiteral bytes b s → literal_at bytes s ≡ literal_of s.at b
  literal_byte b v = let h = v.1 in found_as 1 (literal_of s.at (slice_index bytes s.at)) (omega (arith, h)) ∙ ap (literal_of s.at) v.2

  -- a literal that stands is read
  pub literal_found : (t : Tree) → kind_at bytes s.type_at ≡ literal → IsValue bytes t s → literal_at bytes s ≡ Ok t
  literal_found null e v = literal_byte 0 v
  literal_found (boolean true) e v = literal_byte 1 v
  literal_found (boolean false) e v = literal_byte 2 v
  literal_found (number z) e v = absurd (subst (λ k. IsNumberAs k bytes z s) e v)
  literal_found (text letters) e v = let k = v.0 in let no : ⊥ = cc in absurd no
  literal_found (array ts) e v = absurd (no_array ts literal e refl v)
  literal_found (object ms) e v = absurd (no_object ms literal e refl v)

  -- so is a signed number
  pub signed_found : (width : ℕ) (t : Tree) → kind_at bytes s.type_at ≡ signed width → IsValue bytes t s → signed_at width bytes s ≡ Ok t
  signed_found width null e v = let k = v.0 in let no : ⊥ = cc in absurd no
  signed_found width (boolean b) e v = let k = v.0 in let no : ⊥ = cc in absurd no
  signed_found width (number z) e v = let h = subst (λ k. IsNumberAs k bytes z s) e v in found_as width (Ok (number (signed_of (8 * width) (number_at bytes width s.at)))) h.0 ∙ ap (λ x. Ok (number x)) h.1
  signed_found width (text letters) e v = let k = v.0 in let no : ⊥ = cc in absurd no
  signed_found width (array ts) e v = absurd (no_array ts (signed width) e refl v)
  signed_found width (object ms) e v = absurd (no_object ms (signed width) e refl v)

  -- and one without a sign
  pub unsigned_found : (width : ℕ) (t : Tree) → kind_at bytes s.type_at ≡ unsigned width → IsValue bytes t s → unsigned_at width bytes s ≡ Ok t
  unsigned_found width null e v = let k = v.0 in let no : ⊥ = cc in absurd no
  unsigned_found width (boolean b) e v = let k = v.0 in let no : ⊥ = cc in absurd no
  unsigned_found width (number z) e v = let h = subst (λ k. IsNumberAs k bytes z s) e v in found_as width (Ok (number (pos (number_at bytes width s.at)))) h.0 ∙ ap (λ x. Ok (number x)) h.1
  unsigned_found width (text letters) e v = let k = v.0 in let no : ⊥ = cc in absurd no
  unsigned_found width (array ts) e v = absurd (no_array ts (unsigned width) e refl v)
  unsigned_found width (object ms) e v = absurd (no_object ms (unsigned width) e refl v)

-- an answer gives what equals what it gives
pub given_as : {X Y : Type 0} (view : X → Y) (r : Result X DecodeError) (a b : Result Y Fault) → a ≡ b → Gives view r a → Gives view r b
given_as view r a b e h = subst (λ x. Gives view r x) e h
