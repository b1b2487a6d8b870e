-- An insert behind many commits that aren't purged.
use Rattle.std.specs.Prelude.{ℕ, pos, true, List, [], ◌∷◌, map}
use Rattle.tree_model.specs.Tree.{number}
use Rattle.journal_model.specs.Journal.{Opening, Script, say, full, Entry, Start, Did, Commit, Purged}
use Rattle.journal_model.specs.Locks.{numbers_from}
use Rattle.journal_rows.specs.Runs.{inserts}

abbrev pub after_commits : ℕ → Opening
after_commits n = record {
  pages = 4096;
  commits = n;
  purged = 0;
  documents = [];
  changes = [];
  held = [];
  index = [];
}

abbrev pub one_insert : Script
one_insert = say 1 true (inserts 1 (number (pos 1))) ∷ []

abbrev pub with_commit : ℕ → List Entry
with_commit n = Start 1 1 ∷ Did 1 1 full ∷ Commit 1 n ∷ []

abbrev pub purged_to : ℕ → List Entry
purged_to n = map Purged (numbers_from 1 n)
