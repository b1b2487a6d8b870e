-- Runs on a store that another run left, with changes that are not purged.
use Rattle.std.specs.Prelude.{pos, codes, true, false, [], ◌∷◌, ◌++◌, replicate}
use Rattle.tree_model.specs.Tree.{boolean, number, text, array, object, trees, no_members, member}
use Rattle.tree_model.specs.Path.{key, cell, last}
use Rattle.journal_model.specs.Held.{inserted, rebuilt, versioned, patched, removed}
use Rattle.journal_model.specs.Journal.{Opening, rr, rc, get, size, begin, rollback, say, step, purge, audit, restart, missing, exists, same, full, part, done, inside, doc, sized, absent, by_end, report, busy, session, Start, View, Did, Commit, Undone, Purged, Audited, Restart}
use Rattle.journal_rows.specs.Runs.{Run, inserts, sets, removes, deletes}

-- a store with versions of two pieces, audits while changes are half done, and purge to the end
abbrev pub left_versions_opening : Opening
left_versions_opening =
    record {
      pages = 32;
      commits = 4;
      purged = 0;
      documents = (
        1,
        (
          (object (member (codes "s")
              (text (replicate 100 98 ++ replicate 100 97)) no_members)),
          ((0 ∷ 1 ∷ 0 ∷ 214 ∷ 0 ∷ 11 ∷ 0 ∷ 1 ∷ 0 ∷ 12 ∷ 12 ∷ 0 ∷ 115 ∷ 200 ∷ 1 ∷ [])
              ++ replicate 100 98 ++ replicate 100 97),
        ),
      )
          ∷ (
            2,
            (
              (object (member (codes "s") (text (replicate 200 98)) no_members)),
              ((0 ∷ 1 ∷ 0 ∷ 214 ∷ 0 ∷ 11 ∷ 0 ∷ 1 ∷ 0 ∷ 12 ∷ 12 ∷ 0 ∷ 115 ∷ 200 ∷ 1 ∷ [])
                  ++ replicate 200 98),
            ),
          ) ∷ [];
      changes = (4, 2, versioned (1 ∷ [])) ∷ (3, 1, patched) ∷ (2, 2, inserted 1)
          ∷ (1, 1, inserted 1) ∷ [];
      held = (1, (record { version = 1; pieces = ((1 ∷ []) ∷ []) } ∷ []))
          ∷ (2, (record { version = 2; pieces = ((2 ∷ 1 ∷ []) ∷ []) } ∷ [])) ∷ [];
      index = (1, 0) ∷ (2, 0) ∷ [];
    }

abbrev pub left_versions : Run
left_versions = record {
  lines =
      (audit, Audited (report 2 2 2 3) ∷ [])
      ∷ (
        say 2 true (inserts 1 (object (member (codes "s") (text (replicate 200 97)) no_members))),
        Start 2 1 ∷ Did 2 1 exists ∷ [],
      )
      ∷ (
        say 2 true (inserts 2 (object (member (codes "s") (text (replicate 200 97)) no_members))),
        Start 2 2 ∷ Did 2 2 exists ∷ [],
      )
      ∷ (
        say 2 true (sets 1
            ((
              (key (codes "s") ∷ []),
              (text (replicate 50 98 ++ replicate 150 97)),
            )
            ∷ [])),
        Start 2 3 ∷ Did 2 3 (part 50) ∷ Commit 2 5 ∷ [],
      )
      ∷ (
        say 1 true (sets 2
            (((key (codes "s") ∷ []), (array (trees ((number (pos 1)) ∷ [])))) ∷ [])),
        Start 1 1 ∷ Did 1 1 (part 8) ∷ Commit 1 6 ∷ [],
      )
      ∷ (
        say 2 true (sets 2
            (((key (codes "s") ∷ []), (text (replicate 100 98 ++ replicate 100 97))) ∷ [])),
        Start 2 4 ∷ Did 2 4 (part 108) ∷ Commit 2 7 ∷ [],
      )
      ∷ (
        say 2 true (sets 1
            (((key (codes "s") ∷ []), (text ((codes "b") ++ replicate 199 97))) ∷ [])),
        Start 2 5 ∷ Did 2 5 (part 49) ∷ Commit 2 8 ∷ [],
      )
      ∷ (
        say 1 false (sets 1
            (((key (codes "s") ∷ []), (text (replicate 100 99 ++ replicate 100 97))) ∷ [])),
        [],
      )
      ∷ (step 1 3, Start 1 2 ∷ [])
      ∷ (audit, Audited (busy (session 1)) ∷ [])
      ∷ (say 2 true (size 2), Start 2 6 ∷ View 2 8 ∷ Did 2 6 (sized 215 0) ∷ [])
      ∷ (audit, Audited (busy (session 1)) ∷ [])
      ∷ (
        say 1 true (size 2),
        Did 1 2 (part 100) ∷ Commit 1 9 ∷ Start 1 3 ∷ View 1 9 ∷ Did 1 3 (sized 215 0) ∷ [],
      )
      ∷ (
        say 2 true (sets 1 (((key (codes "s") ∷ []), (number (pos 2))) ∷ [])),
        Start 2 7 ∷ Did 2 7 (part 2) ∷ Commit 2 10 ∷ [],
      )
      ∷ (
        say 1 true (sets 1
            ((
              (key (codes "s") ∷ []),
              (text (replicate 150 98 ++ replicate 50 97)),
            )
            ∷ [])),
        Start 1 4 ∷ Did 1 4 (part 152) ∷ Commit 1 11 ∷ [],
      )
      ∷ (
        say 2 true (sets 2 (((key (codes "s") ∷ []), (text (codes "ab"))) ∷ [])),
        Start 2 8 ∷ Did 2 8 (part 2) ∷ Commit 2 12 ∷ [],
      )
      ∷ (say 2 true (get 3), Start 2 9 ∷ View 2 12 ∷ Did 2 9 absent ∷ [])
      ∷ (audit, Audited (report 2 2 2 5) ∷ [])
      ∷ (
        purge,
        Purged 1 ∷ Purged 2 ∷ Purged 3 ∷ Purged 4 ∷ Purged 5 ∷ Purged 6 ∷ Purged 7
            ∷ Purged 8 ∷ Purged 9 ∷ Purged 10 ∷ Purged 11 ∷ Purged 12 ∷ [],
      )
      ∷ (audit, Audited (report 2 2 2 2) ∷ []) ∷ [];
  rounds = [];
}

-- a store with version lists of two documents, and purge to the end
abbrev pub left_lists_opening : Opening
left_lists_opening =
    record {
      pages = 32;
      commits = 6;
      purged = 0;
      documents = (
        1,
        (
          (object (member (codes "s") (text ((codes "b") ++ replicate 199 97)) no_members)),
          ((0 ∷ 1 ∷ 0 ∷ 214 ∷ 0 ∷ 11 ∷ 0 ∷ 1 ∷ 0 ∷ 12 ∷ 12 ∷ 0 ∷ 115 ∷ 200 ∷ 1 ∷ 98 ∷ [])
              ++ replicate 199 97),
        ),
      ) ∷ (
        2,
        (
          (object (member (codes "s") (text (codes "ab")) no_members)),
          ((0 ∷ 1 ∷ 0 ∷ 214 ∷ 0 ∷ 11 ∷ 0 ∷ 1 ∷ 0 ∷ 12 ∷ 12 ∷ 0 ∷ 115 ∷ 2 ∷ 97 ∷ 98 ∷ [])
              ++ replicate 199 97),
        ),
      ) ∷ [];
      changes = (6, 2, patched) ∷ (5, 1, versioned (1 ∷ [])) ∷ (4, 1, versioned (1 ∷ []))
          ∷ (3, 1, patched) ∷ (2, 2, inserted 1) ∷ (1, 1, inserted 1) ∷ [];
      held = (1, (record { version = 3; pieces = ((3 ∷ 2 ∷ 1 ∷ []) ∷ []) } ∷ []))
          ∷ (2, (record { version = 1; pieces = ((1 ∷ []) ∷ []) } ∷ [])) ∷ [];
      index = (1, 0) ∷ (2, 0) ∷ [];
    }

abbrev pub left_lists : Run
left_lists = record {
  lines =
      (audit, Audited (report 2 2 2 4) ∷ [])
      ∷ (
        say 1 true (inserts 1 (object (member (codes "s") (text (replicate 200 97)) no_members))),
        Start 1 1 ∷ Did 1 1 exists ∷ [],
      )
      ∷ (
        say 1 true (inserts 2 (object (member (codes "s") (text (replicate 200 97)) no_members))),
        Start 1 2 ∷ Did 1 2 exists ∷ [],
      )
      ∷ (say 2 true (begin rr), Start 2 1 ∷ Did 2 1 done ∷ [])
      ∷ (
        say 1 true (get 1),
        Start 1 3 ∷ View 1 6
            ∷ Did 1 3 (doc ((codes "{\"s\": \"b") ++ (replicate 199 97 ++ (codes "\"}")))) ∷ [],
      )
      ∷ (step 2 2, [])
      ∷ (say 1 false (deletes 1), [])
      ∷ (say 2 true (begin rc), Start 2 2 ∷ Did 2 2 inside ∷ [])
      ∷ (
        say 1 true (sets 2 (((key (codes "s") ∷ []), (number (pos 70000))) ∷ [])),
        Start 1 4 ∷ Did 1 4 done ∷ Commit 1 7 ∷ Start 1 5 ∷ Did 1 5 (part 5) ∷ Commit 1 8 ∷ [],
      )
      ∷ (
        say 1 false (sets 1
            (((key (codes "s") ∷ []), (text ((codes "d") ++ replicate 199 97))) ∷ [])),
        [],
      )
      ∷ (step 1 3, Start 1 6 ∷ Did 1 6 missing ∷ [])
      ∷ (audit, Audited (report 1 2 2 4) ∷ [])
      ∷ (audit, Audited (report 1 2 2 4) ∷ [])
      ∷ (say 1 false (sets 2 (((key (codes "s") ∷ []), (boolean true)) ∷ [])), [])
      ∷ (
        say 1 true rollback,
        Start 1 7 ∷ Did 1 7 (part 2) ∷ Commit 1 9 ∷ Start 1 8 ∷ Did 1 8 done ∷ [],
      )
      ∷ (say 1 true (size 2), Start 1 9 ∷ View 1 9 ∷ Did 1 9 (sized 215 202) ∷ [])
      ∷ (
        say 2 true (sets 2
            ((
              (key (codes "s") ∷ []),
              (text (replicate 50 100 ++ replicate 150 97)),
            )
            ∷ [])),
        Start 2 3 ∷ Did 2 3 (part 54) ∷ [],
      )
      ∷ (audit, Audited (report 1 2 2 4) ∷ [])
      ∷ (
        purge,
        Purged 1 ∷ Purged 2 ∷ Purged 3 ∷ Purged 4 ∷ Purged 5 ∷ Purged 6 ∷ Purged 7
            ∷ Purged 8 ∷ Purged 9 ∷ [],
      )
      ∷ (audit, Audited (report 1 1 1 1) ∷ []) ∷ [];
  rounds = Undone 2 by_end ∷ [];
}

-- a store with a document that was deleted and whose versions are still held; a restart
abbrev pub left_deleted_opening : Opening
left_deleted_opening =
    record {
      pages = 32;
      commits = 4;
      purged = 0;
      documents = (
        1,
        (
          (array (trees
              ((text (codes "abcd")) ∷ (array (trees ((number (pos 1)) ∷ []))) ∷ []))),
          (2 ∷ 2 ∷ 0 ∷ 22 ∷ 0 ∷ 12 ∷ 10 ∷ 0 ∷ 2 ∷ 15 ∷ 0 ∷ 4 ∷ 97 ∷ 98 ∷ 99 ∷ 100 ∷ 1 ∷ 0 ∷ 7 ∷ 0
              ∷ 5 ∷ 1 ∷ 0 ∷ []),
        ),
      ) ∷ (
        3,
        (
          (array (trees ((text (codes "abcd")) ∷ (number (pos 7)) ∷ []))),
          (2 ∷ 2 ∷ 0 ∷ 15 ∷ 0 ∷ 12 ∷ 10 ∷ 0 ∷ 5 ∷ 7 ∷ 0 ∷ 4 ∷ 97 ∷ 98 ∷ 99 ∷ 100 ∷ []),
        ),
      ) ∷ [];
      changes = (4, 2, removed) ∷ (4, 1, rebuilt 1) ∷ (4, 3, inserted 1) ∷ (4, 1, patched)
          ∷ (3, 2, rebuilt 1) ∷ (2, 2, inserted 1) ∷ (1, 1, inserted 1) ∷ [];
      held = (
        1,
        (record { version = 1; pieces = ((1 ∷ []) ∷ []) }
            ∷ record { version = 1; pieces = ((1 ∷ []) ∷ []) } ∷ []),
      )
          ∷ (
            2,
            (record { version = 1; pieces = ((1 ∷ []) ∷ []) }
                ∷ record { version = 1; pieces = ((1 ∷ []) ∷ []) } ∷ []),
          )
          ∷ (3, (record { version = 1; pieces = ((1 ∷ []) ∷ []) } ∷ [])) ∷ [];
      index = (1, 0) ∷ (2, 0) ∷ (3, 0) ∷ [];
    }

abbrev pub left_deleted : Run
left_deleted = record {
  lines =
      (audit, Audited (report 2 5 5 5) ∷ [])
      ∷ (
        say 1 true (inserts 1
            (object (member (codes "m") (number (pos 5))
            (member (codes "n") (text (codes "abcd")) no_members)))),
        Start 1 1 ∷ Did 1 1 exists ∷ [],
      )
      ∷ (
        say 2 true (inserts 2 (array (trees ((text (codes "abcd")) ∷ (number (pos 7)) ∷ [])))),
        Start 2 1 ∷ Did 2 1 full ∷ Commit 2 5 ∷ [],
      )
      ∷ (say 1 true (begin rr), Start 1 2 ∷ Did 1 2 done ∷ [])
      ∷ (say 2 true (begin rr), Start 2 2 ∷ Did 2 2 done ∷ [])
      ∷ (say 2 true (size 3), Start 2 3 ∷ View 2 5 ∷ Did 2 3 (sized 16 0) ∷ [])
      ∷ (say 2 true (deletes 1), Start 2 4 ∷ Did 2 4 done ∷ [])
      ∷ (say 1 true (begin rr), Start 1 3 ∷ Did 1 3 inside ∷ [])
      ∷ (
        say 1 true (sets 2 (((last 0 ∷ []), (array (trees ((number (pos 1)) ∷ [])))) ∷ [])),
        Start 1 4 ∷ Did 1 4 full ∷ [],
      )
      ∷ (restart, Restart 5 ∷ [])
      ∷ (say 1 false (removes 1 ((cell 0 ∷ []) ∷ [])), [])
      ∷ (audit, Audited (report 3 6 6 6) ∷ [])
      ∷ (
        say 1 true (removes 3 ((key (codes "n") ∷ []) ∷ [])),
        Start 1 5 ∷ Did 1 5 (part 3) ∷ Commit 1 6 ∷ Start 1 6 ∷ Did 1 6 same ∷ [],
      )
      ∷ (audit, Audited (report 3 6 6 6) ∷ [])
      ∷ (say 1 true (begin rr), Start 1 7 ∷ Did 1 7 done ∷ [])
      ∷ (say 2 true (size 2), Start 2 5 ∷ View 2 6 ∷ Did 2 5 (sized 16 0) ∷ [])
      ∷ (purge, Purged 1 ∷ Purged 2 ∷ Purged 3 ∷ Purged 4 ∷ Purged 5 ∷ Purged 6 ∷ [])
      ∷ (audit, Audited (report 3 3 3 3) ∷ [])
      ∷ (purge, [])
      ∷ (audit, Audited (report 3 3 3 3) ∷ []) ∷ [];
  rounds = Undone 1 by_end ∷ [];
}
