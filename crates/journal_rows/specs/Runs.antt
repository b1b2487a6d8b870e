-- Runs: the lines of a script, each with the entries that it makes, and those of the rounds behind
-- the last line.
--     Runs      its journal is legal and follows its lines
--     Allows      behind so many of its entries an entry is legal
use Rattle.std.specs.Prelude.{ℕ, List, [], ◌∷◌, ◌++◌, map, length, take}
use Rattle.tree_model.specs.Tree.{Tree}
use Rattle.tree_model.specs.Path.{Path}
use Rattle.tree_model.specs.Edit.{Set, Replace, Remove}
use Rattle.journal_model.specs.Documents.{Insert, Change, Delete}
use Rattle.journal_model.specs.Journal.{Opening, Script, Line, Statement, call, Entry}
use Rattle.journal_model.specs.Legal.{Legal}
use Rattle.journal_model.specs.Turns.{Turns}
use Rattle.journal_rows.specs.Cuts.{Cut}

pub record Run : Type 0 where
  pub lines : List (Line × List Entry)
  pub rounds : List Entry

abbrev pub joined : List (Line × List Entry) → List Entry → List Entry
joined [] rest = rest
joined (l ∷ ls) rest = l.1 ++ joined ls rest

abbrev pub script_of : Run → Script
script_of r = map (λ l. l.0) r.lines

abbrev pub entries_of : Run → List Entry
entries_of r = joined r.lines r.rounds

-- no purge runs by itself
abbrev pub cuts_of : Run → List Cut
cuts_of r = map (λ l. record { own = length l.1; purges = 0 }) r.lines

abbrev pub Runs : Opening → Run → Type 0
Runs o r = Legal o (script_of r) (entries_of r) × Turns o (script_of r) (entries_of r)

abbrev pub Allows : Opening → Run → ℕ → Entry → Type 0
Allows o r n e = Legal o (script_of r) (take n (entries_of r) ++ e ∷ [])

-- ---- statements

abbrev pub inserts : ℕ → Tree → Statement
inserts d t = call (Insert d t)

abbrev pub sets : ℕ → List (Path × Tree) → Statement
sets d pairs = call (Change d (Set pairs))

abbrev pub replaces : ℕ → List (Path × Tree) → Statement
replaces d pairs = call (Change d (Replace pairs))

abbrev pub removes : ℕ → List Path → Statement
removes d paths = call (Change d (Remove paths))

abbrev pub deletes : ℕ → Statement
deletes d = call (Delete d)
