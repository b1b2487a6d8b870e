-- The statement that some bytes are, or the first cause why they are none.
--     read_arguments      the edit that the array behind a change is
--     form_of      the form of a statement, by its first word
--     read_statement      the statement of a form, by what stands behind its word
use Rattle.std.specs.Prelude.{ℕ, ◌+◌, ◌*◌, ◌-◌, ◌^◌, ◌==◌, ◌&&◌, Bool, false, not, List, [], ◌∷◌, length, slice_index, codes, bytes_eq, nat_lt, nat_le, fold, option_map, Option, Some, None, Result, Ok, Err, if◌then◌else◌}
use Rattle.std.specs.List.{before_first, after_first, list_all, list_any}
use Rattle.std.specs.Char.{is_ascii_digit}
use Rattle.tree_model.specs.Tree as json_tree
use Rattle.tree_model.specs.Tree.{Tree, tree_list}
use Rattle.tree_model.specs.Text.{TextFault, Deep, Syntax, Float, LongKey, read_tree}
use Rattle.tree_model.specs.Path.{Path}
use Rattle.tree_model.specs.Edit.{Edit, Set, Replace, Remove}
use Rattle.path_model.specs.PathText as path_text
use Rattle.path_model.specs.PathText.{PathFault, read_path}
use Rattle.journal_model.specs.Causes.{Cause, document, deep, syntax, float, key, arguments, pairs, path, wildcard, range, root, ◌>>=◌, check, found}
use Rattle.journal_model.specs.Documents.{Insert, Change, Delete}
pub use Rattle.journal_model.specs.Journal.{max_session}
use Rattle.journal_model.specs.Journal.{Statement, call, get, size, begin, commit, rollback, rr, rc}

-- ---- words and numbers

abbrev pub is_space : ℕ → Bool
is_space c = c == 32

abbrev pub first_word : List ℕ → List ℕ
first_word text = before_first is_space text

-- what stands behind the first word and its space; nothing where there is none
abbrev pub behind : List ℕ → List ℕ
behind text = after_first is_space text

abbrev pub value_of : List ℕ → ℕ
value_of digits = fold (λ n c. 10 * n + (c - 48)) 0 digits

-- in decimal, without leading zeros
abbrev pub is_decimal : List ℕ → Bool
is_decimal text =
    nat_lt 0 (length text) && (list_all is_ascii_digit text && not (slice_index text 0 == 48))

-- a number from 1 to the greatest
abbrev pub number_up_to : ℕ → List ℕ → Option ℕ
number_up_to greatest text =
    if is_decimal text && nat_le (value_of text) greatest then Some (value_of text) else None

abbrev pub max_document : ℕ
max_document = 2 ^ 32 - 1

abbrev pub document_number : List ℕ → Option ℕ
document_number text = number_up_to max_document text

-- the number behind the `s` of a line's first word
abbrev pub session_number : List ℕ → Option ℕ
session_number text = number_up_to max_session text

abbrev pub max_steps : ℕ
max_steps = 1_000_000

-- ---- the text of a document

abbrev pub text_cause : TextFault → Cause
text_cause Deep = deep
text_cause Syntax = syntax
text_cause Float = float
text_cause LongKey = key

abbrev pub tree_or_cause : Result Tree TextFault → Result Tree Cause
tree_or_cause (Ok t) = Ok t
tree_or_cause (Err f) = Err (text_cause f)

-- ---- the arguments of a change: a JSON array of paths and values in turn, or of paths

abbrev pub max_pairs : ℕ
max_pairs = 256

abbrev pub elements : Tree → List Tree
elements (json_tree.array ts) = tree_list ts
elements t = []

abbrev pub texts_and_values : List Tree → Option (List (List ℕ × Tree))
texts_and_values [] = Some []
texts_and_values (json_tree.text p ∷ t ∷ ts) =
    option_map (λ more. (p, t) ∷ more) (texts_and_values ts)
texts_and_values ts = None

abbrev pub texts : List Tree → Option (List (List ℕ))
texts [] = Some []
texts (json_tree.text p ∷ ts) = option_map (λ more. p ∷ more) (texts ts)
texts ts = None

-- one at least
abbrev pub unless_empty : {A : Type 0} → Option (List A) → Option (List A)
unless_empty (Some []) = None
unless_empty xs = xs

abbrev pub path_cause : PathFault → Cause
path_cause (path_text.Wildcard place) = wildcard
path_cause (path_text.Range place) = range
path_cause (path_text.Syntax place) = path
path_cause path_text.LongKey = key

abbrev pub path_or_cause : Result Path PathFault → Result Path Cause
path_or_cause (Ok p) = Ok p
path_or_cause (Err f) = Err (path_cause f)

abbrev pub has_leg : Path → Bool
has_leg p = nat_lt 0 (length p)

-- the paths one after the other
abbrev pub read_pairs : List (List ℕ × Tree) → Result (List (Path × Tree)) Cause
read_pairs [] = Ok []
read_pairs (pair ∷ more) = do
  p ← path_or_cause (read_path pair.0)
  ps ← read_pairs more
  Ok ((p, pair.1) ∷ ps)

-- the root is not removed
abbrev pub path_to_remove : List ℕ → Result Path Cause
path_to_remove text = do
  p ← path_or_cause (read_path text)
  _ ← check (has_leg p) root
  Ok p

abbrev pub read_paths : List (List ℕ) → Result (List Path) Cause
read_paths [] = Ok []
read_paths (text ∷ more) = do
  p ← path_to_remove text
  ps ← read_paths more
  Ok (p ∷ ps)

abbrev pub pairs_of : List Tree → Result (List (Path × Tree)) Cause
pairs_of args = do
  ps ← found (unless_empty (texts_and_values args)) arguments
  _ ← check (nat_le (length ps) max_pairs) pairs
  read_pairs ps

abbrev pub paths_of : List Tree → Result (List Path) Cause
paths_of args = do
  ps ← found (unless_empty (texts args)) arguments
  _ ← check (nat_le (length ps) max_pairs) pairs
  read_paths ps

pub data EditWord : Type 0 where
  set : EditWord
  replace : EditWord
  remove : EditWord

abbrev pub edit_of : EditWord → List Tree → Result Edit Cause
edit_of set args = do
  ps ← pairs_of args
  Ok (Set ps)
edit_of replace args = do
  ps ← pairs_of args
  Ok (Replace ps)
edit_of remove args = do
  ps ← paths_of args
  Ok (Remove ps)

abbrev pub read_arguments : EditWord → List ℕ → Result Edit Cause
read_arguments w text = do
  args ← tree_or_cause (read_tree text)
  edit_of w (elements args)

-- ---- statements

pub data StatementKind : Type 0 where
  insert : StatementKind
  change : EditWord → StatementKind
  delete : StatementKind
  get_one : StatementKind
  size_one : StatementKind
  of_transaction : Statement → StatementKind

-- of a statement, by its first word; those of a transaction are words alone
abbrev pub form_of : List ℕ → List ℕ → Option StatementKind
form_of first text =
    if bytes_eq first (codes "insert") then Some insert
    else (if bytes_eq first (codes "set") then Some (change set)
    else (if bytes_eq first (codes "replace") then Some (change replace)
    else (if bytes_eq first (codes "remove") then Some (change remove)
    else (if bytes_eq first (codes "delete") then Some delete
    else (if bytes_eq first (codes "get") then Some get_one
    else (if bytes_eq first (codes "size") then Some size_one
    else (if bytes_eq text (codes "begin") then Some (of_transaction (begin rr))
    else (if bytes_eq text (codes "begin rr") then Some (of_transaction (begin rr))
    else (if bytes_eq text (codes "begin rc") then Some (of_transaction (begin rc))
    else (if bytes_eq text (codes "commit") then Some (of_transaction commit)
    else (if bytes_eq text (codes "rollback") then Some (of_transaction rollback)
    else None)))))))))))

-- a word stands behind the last one of the form
abbrev pub runs_on : StatementKind → List ℕ → Bool
runs_on insert rest = false
runs_on (change w) rest = false
runs_on delete rest = list_any is_space rest
runs_on get_one rest = list_any is_space rest
runs_on size_one rest = list_any is_space rest
runs_on (of_transaction st) rest = false

-- the statement of a form, by what stands behind its word
abbrev pub read_statement : StatementKind → List ℕ → Result Statement Cause
read_statement insert rest = do
  d ← found (document_number (first_word rest)) document
  t ← tree_or_cause (read_tree (behind rest))
  Ok (call (Insert d t))
read_statement (change w) rest = do
  d ← found (document_number (first_word rest)) document
  e ← read_arguments w (behind rest)
  Ok (call (Change d e))
read_statement delete rest = do
  d ← found (document_number rest) document
  Ok (call (Delete d))
read_statement get_one rest = do
  d ← found (document_number rest) document
  Ok (get d)
read_statement size_one rest = do
  d ← found (document_number rest) document
  Ok (size d)
read_statement (of_transaction st) rest = Ok st
