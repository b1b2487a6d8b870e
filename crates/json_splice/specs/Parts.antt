-- The parts that a container is laid from.
--     keys_in, parts_in      its keys, and the spellings of its values, by where they stand
--     IsShapeIn, IsShape      what is known of it before it is written, in a form, and in its own
use Rattle.std.specs.Prelude.{◌≡◌, ◌≤◌, ℕ, Bool, List, length, map, slice_range, if◌then◌else◌}
use Rattle.binary_model.specs.Layout.{Form}
use Rattle.binary_model.specs.Canonical.{Spelling, measured, joined, entries_size, size_in, form_for, max_document_bytes}
use Rattle.json_binary.specs.View.{form_of, kind_of}
use Rattle.json_splice.specs.declared.shape.Shape.{Shape}
use Rattle.json_splice.specs.declared.parts.Part.{Part}
use Rattle.json_splice.specs.declared.parts.Range.{Range}

-- a key, by where it stands in the document
abbrev pub key_in : List ℕ → Range → List ℕ
key_in bytes r = slice_range bytes r.start r.end

-- a value's spelling, by where it stands: in the document, or among the new bytes
abbrev pub part_in : (old new : List ℕ) → Part → Spelling
part_in old new p = (
  kind_of p.kind,
  slice_range (if p.is_new then new else old) p.range.start p.range.end,
)

abbrev pub keys_in : List ℕ → List Range → List (List ℕ)
keys_in bytes rs = map (key_in bytes) rs

abbrev pub parts_in : (old new : List ℕ) → List Part → List Spelling
parts_in old new ps = map (part_in old new) ps

-- the shape in a form, with keys of this length in all
pub record IsShapeIn (b : Bool) (f : Form) (n : ℕ) (vs : List Spelling) (s : Shape) : Type 0 where
  pub is_object : s.is_object ≡ b
  pub form : form_of s.form ≡ f
  pub entries : entries_size f b (length vs) ≡ s.entries
  pub keys : n ≡ s.keys
  pub size : size_in b n (map measured vs) f ≡ s.size
  pub fits : s.size ≤ max_document_bytes

-- in the form that the keys and values ask for
abbrev pub IsShape : Bool → List (List ℕ) → List Spelling → Shape → Type 0
IsShape b ks vs = IsShapeIn b (form_for b (length (joined ks)) (map measured vs))
    (length (joined ks)) vs
