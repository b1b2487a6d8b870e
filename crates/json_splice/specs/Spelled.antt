-- What stands canonically in bytes.
--     IsSpelledAt      a tree's canonical value stands at a spot
--     IsNumberAt, IsTextAt      the same of a number's and of a text's bytes
--     IsSized, IsEntryAt      a value's size; its canonical entry, and its bytes behind the entries
--     AreValuesAt, AreKeysAt      the same of all values, and of the keys
--     IsContainerAt      a container that stands canonically
--     container_bytes      a container in a form, of its keys and values; an array has no keys
--     NamesKeys      an object's keys as they stand, and none for an array
use Rattle.std.specs.Prelude.{◌≡◌, ◌≤◌, ℕ, ◌+◌, ℤ, Bool, true, false, List, [], ◌++◌, length, map, if◌then◌else◌}
use Rattle.tree_model.specs.Tree.{Tree, Trees, tree_list, trees_depth}
use Rattle.binary_model.specs.Layout as layout
use Rattle.binary_model.specs.Layout.{Form, small, Kind, is_inlined, array_in, object_in, Spot, kind_at, Container, count, key_entry, value_entry}
use Rattle.binary_model.specs.Stands.{AreKeys, AreElements}
use Rattle.binary_model.specs.Canonical.{Spelling, measured, spelling, number_kind, number_bytes, text_bytes, entries_size, size_in, form_for, all_behind, header, key_entries, value_entries, joined, values_behind}
use Rattle.binary_model.specs.Place.{Holds}
use Rattle.json_binary.specs.View.{kind_of}
use Rattle.json_binary.specs.Writing.{entry}
use Rattle.json_splice.specs.declared.entry.Size.{Size}
use Rattle.json_splice.specs.declared.canonical.Behind.{Behind}

-- offsets count from a container's own first byte, so these are the same bytes wherever it stands
pub record IsSpelledAt (bytes : List ℕ) (t : Tree) (s : Spot) (n : ℕ) : Type 0 where
  pub kind : kind_at bytes s.type_at ≡ (spelling t).0
  pub size : length (spelling t).1 ≡ n
  pub held : Holds bytes s.at (spelling t).1

pub record IsNumberAt (bytes : List ℕ) (k : Kind) (z : ℤ) (at n : ℕ) : Type 0 where
  pub kind : number_kind z ≡ k
  pub size : length (number_bytes z) ≡ n
  pub held : Holds bytes at (number_bytes z)

pub record IsTextAt (bytes : List ℕ) (letters : List ℕ) (at n : ℕ) : Type 0 where
  pub size : length (text_bytes letters) ≡ n
  pub held : Holds bytes at (text_bytes letters)

-- ---- entries

pub record IsSized (v : Spelling) (size : Size) : Type 0 where
  pub kind : kind_of size.kind ≡ v.0
  pub bytes : length v.1 ≡ size.bytes

-- the k-th value's entry, and the value at the offset where it isn't inlined
pub record IsEntryAt (bytes : List ℕ) (c : Container) (k offset : ℕ) (v : Spelling) (size : Size) :
    Type 0 where
  pub sized : IsSized v size
  pub held : Holds bytes (value_entry bytes c k) (entry c.form offset v)
  pub value : is_inlined c.form v.0 ≡ false → Holds bytes (c.at + offset) v.1

-- all entries, and the values from the offset on to the container's end
pub record AreValuesAt (bytes : List ℕ) (c : Container) (offset : ℕ) (vs : List Spelling)
    (b : Behind) : Type 0 where
  pub entries : Holds bytes (value_entry bytes c 0) (value_entries c.form offset vs)
  pub values : Holds bytes (c.at + offset) (values_behind c.form vs)
  pub end : offset + all_behind c.form (map measured vs) ≡ b.end
  pub small : all_behind small (map measured vs) ≡ b.small
  pub whole : c.at + b.end ≡ layout.end bytes c

-- the entries of all keys, and the keys from the offset on
pub record AreKeysAt (bytes : List ℕ) (c : Container) (offset : ℕ) (ks : List (List ℕ)) (n : ℕ) :
    Type 0 where
  pub entries : Holds bytes (key_entry c 0) (key_entries c.form offset ks)
  pub letters : Holds bytes (c.at + offset) (joined ks)
  pub size : length (joined ks) ≡ n

-- ---- containers

-- by the canonical encoding's parts, whether with keys or without
abbrev pub container_bytes : Bool → Form → List (List ℕ) → List Spelling → List ℕ
container_bytes is_object form ks vs =
    header form (length vs) (size_in is_object (length (joined ks)) (map measured vs) form)
    ++ (key_entries form (entries_size form is_object (length vs)) ks
    ++ (value_entries form (entries_size form is_object (length vs) + length (joined ks)) vs
    ++ (joined ks ++ values_behind form vs)))

abbrev pub container_in : Bool → Form → Kind
container_in is_object form = if is_object then object_in form else array_in form

-- a container of these keys and values stands canonically
pub record IsContainerAt (bytes : List ℕ) (c : Container) (ks : List (List ℕ))
    (vs : List Spelling) (n : ℕ) : Type 0 where
  pub form : c.form ≡ form_for c.is_object (length (joined ks)) (map measured vs)
  pub size : size_in c.is_object (length (joined ks)) (map measured vs) c.form ≡ n
  pub held : Holds bytes c.at (container_bytes c.is_object c.form ks vs)

-- a container by the form that its keys and values ask for
abbrev pub container_spelling : Bool → List (List ℕ) → List Spelling → Spelling
container_spelling is_object ks vs = (
  container_in is_object (form_for is_object (length (joined ks)) (map measured vs)),
  container_bytes is_object (form_for is_object (length (joined ks)) (map measured vs)) ks vs,
)

abbrev pub HasKeys : List ℕ → Container → List (List ℕ) → Bool → Type 0
HasKeys bytes c ks true = (length ks ≡ count bytes c) × ((start : ℕ) × AreKeys bytes c 0 start ks)
HasKeys bytes c ks false = ks ≡ []

-- the container's keys as they stand; an array has none
abbrev pub NamesKeys : List ℕ → Container → List (List ℕ) → Type 0
NamesKeys bytes c ks = HasKeys bytes c ks c.is_object

-- its values stand for the trees, none of which nests deeper
pub record HoldsTrees (bytes : List ℕ) (c : Container) (nesting : ℕ) (ts : Trees) : Type 0 where
  pub floor : ℕ
  pub elements : AreElements bytes c 0 floor ts
  pub number : length (tree_list ts) ≡ count bytes c
  pub shallow : trees_depth ts ≤ nesting
