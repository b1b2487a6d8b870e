-- What one pair, or one path that removes, makes of a document's bytes in place.
--     edit_by, act_by      the edit of pairs, and of one pair, which may add a value or not
--     in_place      the definition's progress, while each pair was made in place
--     putting, taking      the pair's edit of the bytes, and the path's
--     StandFor, HasTree      the bytes stand for a tree, however deep it is
--     Makes      what a pair makes of them
--     Takes      what a path takes out of them
use Rattle.std.specs.Prelude.{◌≡◌, ◌≤◌, ℕ, Bool, true, false, List, length, Option, Some, None}
use Rattle.tree_model.specs.Tree.{Tree, IsTree}
use Rattle.tree_model.specs.Path.{Path}
use Rattle.tree_model.specs.Same.{same_tree}
use Rattle.tree_model.specs.Edit as model
use Rattle.tree_model.specs.Edit.{set, replace, try_remove}
use Rattle.binary_model.specs.Layout.{root, value_end}
use Rattle.binary_model.specs.Stands.{IsBytes, IsValue}
use Rattle.binary_model.specs.Canonical.{spelling, max_document_bytes}
use Rattle.binary_model.specs.Change.{Progress, positions, edited_at, with_value, without_value}
use Rattle.json_patch.specs.Writes.{AreWrites}
use Rattle.json_patch.specs.declared.writes.Write.{Write}
use Rattle.json_patch.specs.declared.pair.Made.{Made}
use Rattle.json_patch.specs.declared.pair.Made.TheVariants.{Kept, Written, Anew}

abbrev pub edit_by : Bool → List (Path × Tree) → model.Edit
edit_by true pairs = model.Set pairs
edit_by false pairs = model.Replace pairs

abbrev pub act_by : Bool → Path → Tree → Tree → Tree
act_by true = set
act_by false = replace

abbrev pub in_place : List ℕ → Tree → Progress
in_place bytes t = record { «tree» = t; edited = Some bytes }

abbrev pub putting : Path → Tree → Tree → List ℕ → Option (List ℕ)
putting path v t = edited_at (λ bytes. with_value bytes (spelling v)) (positions path t)

abbrev pub taking : Path → Tree → List ℕ → Option (List ℕ)
taking path t = edited_at without_value (positions path t)

-- the bytes stand for the tree, however deep it is
pub record StandFor (bytes : List ℕ) (t : Tree) : Type 0 where
  pub octets : IsBytes bytes
  pub is : IsTree t
  pub some : 1 ≤ length bytes
  pub value : IsValue bytes t (root bytes)
  pub whole : value_end bytes (root bytes) ≡ length bytes
  pub small : length bytes ≤ max_document_bytes

abbrev pub HasTree : List ℕ → Type 0
HasTree bytes = (t : Tree) × StandFor bytes t

-- another value, a tree, is put where these positions lead
pub record Puts (bytes : List ℕ) (u : Tree) (adding : Bool) (path : Path) (v : Tree) (ks : List ℕ)
    (ws : List Write) : Type 0 where
  pub other : same_tree u (act_by adding path v u) ≡ false
  pub is : IsTree v
  pub at : positions path u ≡ Some ks
  pub writes : AreWrites bytes (putting path v u bytes) ws

abbrev pub Makes : List ℕ → Tree → Bool → Path → Tree → Made → Type 0
Makes bytes u adding path v Kept = same_tree u (act_by adding path v u) ≡ true
Makes bytes u adding path v (Written ks ws) = Puts bytes u adding path v ks.items ws.items
Makes bytes u adding path v Anew =
    (same_tree u (act_by adding path v u) ≡ false) × (putting path v u bytes ≡ None)

-- a value is taken out
pub record TakesOut (bytes : List ℕ) (t : Tree) (path : Path) (ws : List Write) : Type 0 where
  pub other : Tree
  pub out : try_remove path t ≡ Some other
  pub writes : AreWrites bytes (taking path t bytes) ws

abbrev pub Takes : List ℕ → Tree → Path → Option (List Write) → Type 0
Takes bytes t path None = try_remove path t ≡ None
Takes bytes t path (Some ws) = TakesOut bytes t path ws
