-- Small stores, in which a change may need more pages than are free.
use Rattle.std.specs.Prelude.{pos, codes, true, [], ◌∷◌, replicate}
use Rattle.tree_model.specs.Tree.{number, text}
use Rattle.journal_model.specs.Journal.{get, say, no_room, full, doc, Start, View, Did, Commit}
use Rattle.journal_rows.specs.Runs.{Run, inserts}

-- ten pieces in a store of 16 pages
abbrev pub ten_pieces : Run
ten_pieces = record {
  lines =
      (say 1 true (inserts 1 (number (pos 1))), Start 1 1 ∷ Did 1 1 full ∷ Commit 1 1 ∷ [])
      ∷ (
        say 1 true (inserts 2 (text (replicate 150000 97))),
        Start 1 2 ∷ Did 1 2 (no_room 14 12) ∷ [],
      )
      ∷ (say 1 true (get 1), Start 1 3 ∷ View 1 1 ∷ Did 1 3 (doc (codes "1")) ∷ []) ∷ [];
  rounds = [];
}
