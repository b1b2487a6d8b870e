-- Sessions that wait for a document, and circles of them.
use Rattle.std.specs.Prelude.{pos, codes, true, false, [], ◌∷◌, replicate}
use Rattle.tree_model.specs.Tree.{number, text, object, no_members, member}
use Rattle.tree_model.specs.Path.{key}
use Rattle.journal_model.specs.Journal.{rr, rc, get, begin, commit, rollback, say, step, purge, audit, deadlock, exists, same, full, part, done, absent, by_rollback, by_deadlock, report, Start, View, Wait, Did, Commit, Undone, Purged, Audited}
use Rattle.journal_rows.specs.Runs.{Run, inserts, sets, deletes}

-- sessions 1 and 2 each hold the document that the other asks for
abbrev pub circle_of_two : Run
circle_of_two = record {
  lines =
      (say 1 true (inserts 1 (number (pos 1))), Start 1 1 ∷ Did 1 1 full ∷ Commit 1 1 ∷ [])
      ∷ (say 1 true (inserts 2 (number (pos 2))), Start 1 2 ∷ Did 1 2 full ∷ Commit 1 2 ∷ [])
      ∷ (say 1 true (begin rr), Start 1 3 ∷ Did 1 3 done ∷ [])
      ∷ (say 1 true (sets 1 (([], number (pos 10)) ∷ [])), Start 1 4 ∷ Did 1 4 full ∷ [])
      ∷ (say 2 true (begin rr), Start 2 1 ∷ Did 2 1 done ∷ [])
      ∷ (say 2 true (sets 2 (([], number (pos 20)) ∷ [])), Start 2 2 ∷ Did 2 2 full ∷ [])
      ∷ (say 1 true (sets 2 (([], number (pos 11)) ∷ [])), Start 1 5 ∷ Wait 1 2 2 ∷ [])
      ∷ (
        say 2 true (sets 1 (([], number (pos 21)) ∷ [])),
        Start 2 3 ∷ Did 2 3 (deadlock (1 ∷ 2 ∷ [])) ∷ Undone 2 by_deadlock ∷ [],
      )
      ∷ (say 1 true commit, Did 1 5 full ∷ Start 1 6 ∷ Commit 1 3 ∷ Did 1 6 done ∷ [])
      ∷ (purge, Purged 1 ∷ Purged 2 ∷ Purged 3 ∷ [])
      ∷ (audit, Audited (report 2 2 2 2) ∷ []) ∷ [];
  rounds = [];
}

-- a circle of three sessions, whose rollback waits while purge runs; a rollback under readers
abbrev pub circle_of_three : Run
circle_of_three = record {
  lines =
      (say 1 true (inserts 1 (number (pos 1))), Start 1 1 ∷ Did 1 1 full ∷ Commit 1 1 ∷ [])
      ∷ (say 1 true (deletes 1), Start 1 2 ∷ Did 1 2 done ∷ Commit 1 2 ∷ [])
      ∷ (say 2 true (begin rr), Start 2 1 ∷ Did 2 1 done ∷ [])
      ∷ (
        say 2 true (inserts 1 (object (member (codes "n") (number (pos 1)) no_members))),
        Start 2 2 ∷ Did 2 2 full ∷ [],
      )
      ∷ (say 3 false (get 1), [])
      ∷ (step 3 1, Start 3 1 ∷ View 3 2 ∷ Did 3 1 absent ∷ [])
      ∷ (purge, Purged 1 ∷ Purged 2 ∷ [])
      ∷ (say 2 false rollback, [])
      ∷ (step 2 3, Start 2 3 ∷ Undone 2 by_rollback ∷ Did 2 3 done ∷ [])
      ∷ (step 3 1, [])
      ∷ (step 2 2, [])
      ∷ (step 2 2, [])
      ∷ (step 3 1, [])
      ∷ (step 2 4, [])
      ∷ (step 3 1, [])
      ∷ (step 2 3, [])
      ∷ (step 3 1, [])
      ∷ (step 2 1, [])
      ∷ (step 3 1, [])
      ∷ (audit, Audited (report 0 0 0 0) ∷ [])
      ∷ (say 1 true commit, Start 1 3 ∷ Did 1 3 done ∷ [])
      ∷ (say 2 true rollback, Start 2 4 ∷ Did 2 4 done ∷ [])
      ∷ (say 3 true rollback, Start 3 2 ∷ Did 3 2 done ∷ [])
      ∷ (say 4 true commit, Start 4 1 ∷ Did 4 1 done ∷ [])
      ∷ (step 1 9, [])
      ∷ (
        say 1 true (inserts 11 (object (member (codes "n") (number (pos 1)) no_members))),
        Start 1 4 ∷ Did 1 4 full ∷ Commit 1 3 ∷ [],
      )
      ∷ (
        say 1 true (inserts 12 (object (member (codes "n") (number (pos 1)) no_members))),
        Start 1 5 ∷ Did 1 5 full ∷ Commit 1 4 ∷ [],
      )
      ∷ (
        say 1 true (inserts 13 (object (member (codes "n") (number (pos 1)) no_members))),
        Start 1 6 ∷ Did 1 6 full ∷ Commit 1 5 ∷ [],
      )
      ∷ (say 1 true (begin rr), Start 1 7 ∷ Did 1 7 done ∷ [])
      ∷ (
        say 1 true (sets 11 (((key (codes "n") ∷ []), number (pos 2)) ∷ [])),
        Start 1 8 ∷ Did 1 8 (part 1) ∷ [],
      )
      ∷ (say 2 true (begin rc), Start 2 5 ∷ Did 2 5 done ∷ [])
      ∷ (
        say 2 true (sets 12 (((key (codes "n") ∷ []), number (pos 2)) ∷ [])),
        Start 2 6 ∷ Did 2 6 (part 1) ∷ [],
      )
      ∷ (say 3 true (begin rr), Start 3 3 ∷ Did 3 3 done ∷ [])
      ∷ (
        say 3 true (sets 13 (((key (codes "n") ∷ []), number (pos 1)) ∷ [])),
        Start 3 4 ∷ Did 3 4 same ∷ [],
      )
      ∷ (say 1 false (sets 12 (((key (codes "n") ∷ []), number (pos 5)) ∷ [])), [])
      ∷ (step 1 1, Start 1 9 ∷ Wait 1 12 2 ∷ [])
      ∷ (
        say 2 true (sets 13 (((key (codes "n") ∷ []), number (pos 5)) ∷ [])),
        Start 2 7 ∷ Wait 2 13 3 ∷ [],
      )
      ∷ (step 2 3, [])
      ∷ (say 3 false (sets 11 (((key (codes "n") ∷ []), number (pos 5)) ∷ [])), [])
      ∷ (step 3 2, Start 3 5 ∷ Did 3 5 (deadlock (1 ∷ 2 ∷ 3 ∷ [])) ∷ [])
      ∷ (step 1 2, [])
      ∷ (step 2 1, [])
      ∷ (step 3 3, [])
      ∷ (say 1 true rollback, [])
      ∷ (say 2 true rollback, [])
      ∷ (say 3 false commit, [])
      ∷ (say 4 true rollback, Start 4 2 ∷ Did 4 2 done ∷ [])
      ∷ (purge, Purged 3 ∷ Purged 4 ∷ Purged 5 ∷ [])
      ∷ (say 1 true (inserts 21 (text (replicate 300 100))), [])
      ∷ (say 1 true (deletes 21), [])
      ∷ (say 2 true (begin rr), [])
      ∷ (say 2 true (inserts 21 (object (member (codes "n") (number (pos 1)) no_members))), [])
      ∷ (say 2 true (sets 21 (((key (codes "n") ∷ []), number (pos 2)) ∷ [])), [])
      ∷ (say 2 true (sets 21 (((key (codes "n") ∷ []), number (pos 3)) ∷ [])), [])
      ∷ (say 2 true (sets 21 (((key (codes "n") ∷ []), number (pos 4)) ∷ [])), [])
      ∷ (say 2 true (sets 21 (((key (codes "n") ∷ []), number (pos 5)) ∷ [])), [])
      ∷ (say 2 true (sets 21 (((key (codes "n") ∷ []), number (pos 6)) ∷ [])), [])
      ∷ (say 2 true (sets 21 (((key (codes "n") ∷ []), number (pos 7)) ∷ [])), [])
      ∷ (say 2 true (sets 21 (((key (codes "n") ∷ []), number (pos 8)) ∷ [])), [])
      ∷ (say 3 false (get 21), [])
      ∷ (step 3 2, Undone 3 by_deadlock ∷ Start 3 6 ∷ Did 3 6 done ∷ [])
      ∷ (say 2 false commit, [])
      ∷ (
        step 2 4,
        Did 2 7 (part 1) ∷ Start 2 8 ∷ Undone 2 by_rollback ∷ Did 2 8 done ∷ Start 2 9
            ∷ Did 2 9 done ∷ Start 2 10 ∷ Did 2 10 full ∷ Start 2 11 ∷ Did 2 11 (part 1)
            ∷ Start 2 12 ∷ [],
      )
      ∷ (step 2 3, [])
      ∷ (step 2 1, [])
      ∷ (step 2 2, [])
      ∷ (step 2 1, [])
      ∷ (step 2 1, [])
      ∷ (step 3 1, Start 3 7 ∷ View 3 5 ∷ Did 3 7 absent ∷ [])
      ∷ (
        say 1 true (inserts 21 (number (pos 5))),
        Did 1 9 (part 1) ∷ Start 1 10
            ∷ Undone 1 by_rollback ∷ Did 1 10 done ∷ Start 1 11 ∷ Wait 1 21 2 ∷ [],
      )
      ∷ (audit, Audited (report 4 4 4 4) ∷ [])
      ∷ (say 1 true commit, [])
      ∷ (
        say 2 true rollback,
        Did 2 12 (part 1) ∷ Start 2 13 ∷ Did 2 13 (part 1) ∷ Start 2 14
            ∷ Did 2 14 (part 1) ∷ Start 2 15 ∷ Did 2 15 (part 1) ∷ Start 2 16 ∷ Did 2 16 (part 1)
            ∷ Start 2 17 ∷ Did 2 17 (part 1) ∷ Start 2 18 ∷ Commit 2 6 ∷ Did 2 18 done ∷ Start 2 19
            ∷ Did 2 19 done ∷ [],
      )
      ∷ (say 3 true commit, Start 3 8 ∷ Did 3 8 done ∷ [])
      ∷ (say 4 true rollback, Start 4 3 ∷ Did 4 3 done ∷ [])
      ∷ (
        step 1 9,
        Did 1 11 exists ∷ Start 1 12 ∷ Did 1 12 done ∷ Commit 1 7 ∷ Start 1 13
            ∷ Did 1 13 full ∷ Commit 1 8 ∷ Start 1 14 ∷ Did 1 14 done ∷ [],
      ) ∷ [];
  rounds = [];
}
