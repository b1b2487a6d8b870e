-- Transactions that end: by a rollback, with their session, or at a restart.
use Rattle.std.specs.Prelude.{pos, codes, true, false, [], ◌∷◌, ◌++◌, replicate}
use Rattle.tree_model.specs.Tree.{number, text, array, trees}
use Rattle.tree_model.specs.Path.{cell}
use Rattle.journal_model.specs.Journal.{rr, get, begin, commit, rollback, say, step, audit, restart, full, part, done, inside, doc, restarted, by_rollback, by_end, report, Start, View, Did, Commit, Undone, Audited, Restart}
use Rattle.journal_rows.specs.Runs.{Run, inserts, sets}

-- session 1 changes a document and rolls back while session 2 reads it
abbrev pub rollback_under_reader : Run
rollback_under_reader = record {
  lines = (
    say 1 true (inserts 1
        (array (trees ((number (pos 7)) ∷ (text (replicate 20000 97)) ∷ (text (codes "bbbb"))
        ∷ [])))),
    Start 1 1 ∷ Did 1 1 full ∷ Commit 1 1 ∷ [],
  )
      ∷ (say 2 true (begin rr), Start 2 1 ∷ Did 2 1 done ∷ [])
      ∷ (say 2 false (get 1), [])
      ∷ (step 2 1, Start 2 2 ∷ View 2 1 ∷ [])
      ∷ (say 1 true (begin rr), Start 1 2 ∷ Did 1 2 done ∷ [])
      ∷ (
        say 1 true (sets 1
            (((cell 0 ∷ []), number (pos 8)) ∷ ((cell 2 ∷ []), text (codes "cccc")) ∷ [])),
        Start 1 3 ∷ Did 1 3 (part 5) ∷ [],
      )
      ∷ (step 2 2, [])
      ∷ (say 1 true rollback, Start 1 4 ∷ Undone 1 by_rollback ∷ Did 1 4 done ∷ [])
      ∷ (
        say 2 true commit,
        Did 2 2
            (doc (codes "[7, \"" ++ replicate 20000 97 ++ codes "\", \"bbbb\"]")) ∷ Start 2 3
            ∷ Did 2 3 done ∷ [],
      ) ∷ [];
  rounds = [];
}

-- a transaction that is still open when the script ends
abbrev pub session_ends : Run
session_ends = record {
  lines =
      (say 1 true (begin rr), Start 1 1 ∷ Did 1 1 done ∷ [])
      ∷ (say 1 true (begin rr), Start 1 2 ∷ Did 1 2 inside ∷ [])
      ∷ (say 1 true (inserts 1 (number (pos 1))), Start 1 3 ∷ Did 1 3 full ∷ []) ∷ [];
  rounds = Undone 1 by_end ∷ [];
}

-- a restart while a change of session 2 is half done
abbrev pub restart_midway : Run
restart_midway = record {
  lines = (
    say 1 true (inserts 1
        (array (trees ((number (pos 7)) ∷ (text (replicate 20000 97)) ∷ (text (codes "bbbb"))
        ∷ [])))),
    Start 1 1 ∷ Did 1 1 full ∷ Commit 1 1 ∷ [],
  )
      ∷ (say 2 false (sets 1 (((cell 1 ∷ []), text (replicate 20000 99)) ∷ [])), [])
      ∷ (step 2 5, Start 2 1 ∷ [])
      ∷ (say 1 true (inserts 2 (number (pos 1))), Start 1 2 ∷ Did 1 2 full ∷ Commit 1 2 ∷ [])
      ∷ (restart, Restart 2 ∷ Did 2 1 restarted ∷ [])
      ∷ (
        say 1 true (get 1),
        Start 1 3 ∷ View 1 2
            ∷ Did 1 3 (doc (codes "[7, \"" ++ replicate 20000 97 ++ codes "\", \"bbbb\"]")) ∷ [],
      )
      ∷ (audit, Audited (report 2 2 3 3) ∷ []) ∷ [];
  rounds = [];
}
