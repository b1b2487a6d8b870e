-- Runs of several sessions, drawn at random.
use Rattle.std.specs.Prelude.{pos, neg_ℤ, codes, true, false, [], ◌∷◌, ◌++◌, replicate}
use Rattle.tree_model.specs.Tree.{boolean, number, text, array, object, trees, no_members, member}
use Rattle.tree_model.specs.Path.{cell, last}
use Rattle.journal_model.specs.Journal.{rr, rc, get, size, begin, commit, rollback, say, step, purge, audit, missing, exists, same, no_room, full, part, done, inside, doc, sized, absent, by_end, report, Start, View, Wait, Did, Commit, Undone, Purged, Audited}
use Rattle.journal_rows.specs.Runs.{Run, inserts, sets, removes, deletes}

-- four sessions in 16 pages: changes refused for want of pages, outside and inside transactions
abbrev pub small_store : Run
small_store = record {
  lines = (
    say 2 false (inserts 2
        (array (trees ((number (pos 7)) ∷ (text (replicate 50000 97)) ∷ (text (codes "bbbb"))
        ∷ [])))),
    [],
  )
      ∷ (step 1 3, [])
      ∷ (say 1 false rollback, [])
      ∷ (step 2 6, Start 2 1 ∷ Did 2 1 full ∷ Commit 2 1 ∷ [])
      ∷ (
        say 3 true (sets 3
            (((cell 1 ∷ []), text (replicate 99 97 ++ replicate 17000 121 ++ replicate 2901 97))
            ∷ [])),
        Start 3 1 ∷ Did 3 1 missing ∷ [],
      )
      ∷ (say 2 false (sets 1 (([], number (pos 1)) ∷ [])), [])
      ∷ (step 1 4, Start 1 1 ∷ Did 1 1 done ∷ [])
      ∷ (say 4 true (inserts 3 (number (pos 1))), Start 4 1 ∷ Did 4 1 full ∷ Commit 4 2 ∷ [])
      ∷ (say 4 true (deletes 5), Start 4 2 ∷ Did 4 2 missing ∷ [])
      ∷ (step 1 1, [])
      ∷ (say 4 true (inserts 1 (number (pos 1))), Start 4 3 ∷ Did 4 3 full ∷ Commit 4 3 ∷ [])
      ∷ (say 1 false (size 5), [])
      ∷ (step 3 1, [])
      ∷ (
        say 3 true (inserts 4
            (array (trees ((number (pos 7)) ∷ (text (replicate 20000 97)) ∷ (text (codes "bbbb"))
            ∷ [])))),
        Start 3 2 ∷ Did 3 2 (no_room 6 5) ∷ [],
      )
      ∷ (say 1 false (begin rc), [])
      ∷ (
        say 1 true commit,
        Start 1 2 ∷ View 1 3 ∷ Did 1 2 absent ∷ Start 1 3 ∷ Did 1 3 done
            ∷ Start 1 4 ∷ Did 1 4 done ∷ [],
      )
      ∷ (say 2 true commit, Start 2 2 ∷ Did 2 2 same ∷ Start 2 3 ∷ Did 2 3 done ∷ [])
      ∷ (audit, Audited (report 3 3 6 6) ∷ [])
      ∷ (say 4 true (inserts 4 (number (pos 1))), Start 4 4 ∷ Did 4 4 full ∷ Commit 4 4 ∷ [])
      ∷ (say 2 true (inserts 4 (number (pos 1))), Start 2 4 ∷ Did 2 4 exists ∷ [])
      ∷ (
        say 3 true (inserts 3
            (array (trees ((number (pos 7)) ∷ (text (replicate 20000 97)) ∷ (text (codes "bbbb"))
            ∷ [])))),
        Start 3 3 ∷ Did 3 3 exists ∷ [],
      )
      ∷ (say 2 true (get 3), Start 2 5 ∷ View 2 4 ∷ Did 2 5 (doc (codes "1")) ∷ [])
      ∷ (say 1 false (deletes 1), [])
      ∷ (step 4 3, [])
      ∷ (say 3 false (sets 5 (([], number (pos 7)) ∷ [])), [])
      ∷ (step 4 1, [])
      ∷ (say 2 false (sets 3 (((cell 0 ∷ []), number (pos 5)) ∷ [])), [])
      ∷ (
        say 3 true (inserts 5
            (array (trees ((number (pos 7)) ∷ (text (replicate 50000 97)) ∷ (text (codes "bbbb"))
            ∷ [])))),
        Start 3 4 ∷ Did 3 4 missing ∷ Start 3 5 ∷ Did 3 5 (no_room 8 3) ∷ [],
      )
      ∷ (step 4 2, [])
      ∷ (say 4 true (size 1), Start 4 5 ∷ View 4 4 ∷ Did 4 5 (sized 3 0) ∷ []) ∷ [];
  rounds = Start 1 5 ∷ Start 2 6 ∷ Did 1 5 (no_room 4 3) ∷ Did 2 6 (no_room 5 3) ∷ [];
}

-- reads of many steps, between whose steps others change, wait and delete
abbrev pub readers_between : Run
readers_between = record {
  lines = (
    say 1 true (inserts 1
        (array (trees ((number (pos 7)) ∷ (text (replicate 20000 97)) ∷ (text (codes "bbbb")) ∷
        (object (member (codes "k") (number (pos 1))
        (member (codes "t") (text (codes "tttt")) no_members))) ∷ [])))),
    Start 1 1 ∷ Did 1 1 full ∷ Commit 1 1 ∷ [],
  )
      ∷ (
        say 1 true (inserts 2
            (array (trees ((number (pos 7)) ∷ (text (replicate 20000 97)) ∷ (text (codes "bbbb")) ∷
            (object (member (codes "k") (number (pos 1))
            (member (codes "t") (text (codes "tttt")) no_members))) ∷ [])))),
        Start 1 2 ∷ Did 1 2 full ∷ Commit 1 2 ∷ [],
      )
      ∷ (say 3 false (get 2), [])
      ∷ (say 4 false (deletes 1), [])
      ∷ (
        say 2 false (sets 2
            (((cell 0 ∷ []), number (pos 84)) ∷ ((cell 2 ∷ []), text (codes "bbbb")) ∷ [])),
        [],
      )
      ∷ (
        say 2 true commit,
        Start 2 1 ∷ Did 2 1 (part 1) ∷ Commit 2 3 ∷ Start 2 2 ∷ Did 2 2 done ∷ [],
      )
      ∷ (step 4 4, Start 4 1 ∷ Did 4 1 done ∷ Commit 4 4 ∷ [])
      ∷ (step 2 2, [])
      ∷ (
        say 4 false (sets 2
            (((cell 1 ∷ []), text (replicate 8000 97 ++ codes "y" ++ replicate 11999 97)) ∷ [])),
        [],
      )
      ∷ (
        say 1 false (sets 1
            (((cell 0 ∷ []), number (pos 99)) ∷ ((cell 2 ∷ []), text (codes "cccc")) ∷ [])),
        [],
      )
      ∷ (say 2 true commit, Start 2 3 ∷ Did 2 3 done ∷ [])
      ∷ (
        say 3 false (sets 2
            (((cell 0 ∷ []), number (pos 16)) ∷ ((cell 2 ∷ []), text (codes "bbbb")) ∷ [])),
        [],
      )
      ∷ (say 4 false (get 1), [])
      ∷ (say 2 true commit, Start 2 4 ∷ Did 2 4 done ∷ [])
      ∷ (say 2 false (get 2), [])
      ∷ (say 4 false (deletes 2), [])
      ∷ (step 1 5, Start 1 3 ∷ Did 1 3 missing ∷ [])
      ∷ (audit, Audited (report 1 2 4 4) ∷ [])
      ∷ (step 4 4, Start 4 2 ∷ [])
      ∷ (
        say 4 false (sets 2
            (((cell 0 ∷ []), number (pos 57)) ∷ ((cell 2 ∷ []), text (codes "cccc")) ∷ [])),
        [],
      )
      ∷ (say 1 false (get 1), [])
      ∷ (step 1 5, Start 1 4 ∷ View 1 4 ∷ Did 1 4 absent ∷ [])
      ∷ (say 1 false (size 1), [])
      ∷ (
        step 3 4,
        Start 3 1 ∷ View 3 4 ∷ Did 3 1 (doc
            (codes "[84, \"" ++ replicate 20000 97
            ++ codes "\", \"bbbb\", {\"k\": 1, \"t\": \"tttt\"}]")) ∷ [],
      )
      ∷ (
        step 4 4,
        Did 4 2 (part 1) ∷ Commit 4 5 ∷ Start 4 3 ∷ View 4 5 ∷ Did 4 3 absent ∷ Start 4 4 ∷ [],
      )
      ∷ (say 3 false (sets 1 (((cell 0 ∷ []), number (pos 8)) ∷ [])), [])
      ∷ (say 4 false (size 2), [])
      ∷ (step 3 4, Start 3 2 ∷ Wait 3 2 4 ∷ [])
      ∷ (
        say 4 true (sets 2
            (((cell 1 ∷ []), text (codes "a" ++ replicate 150 122 ++ replicate 19849 97)) ∷ [])),
        Did 4 4 done ∷ Commit 4 6 ∷ Start 4 5 ∷ Did 4 5 missing ∷ Start 4 6 ∷ View 4 6
            ∷ Did 4 6 absent ∷ Start 4 7 ∷ Did 4 7 missing ∷ [],
      )
      ∷ (step 2 5, Start 2 5 ∷ View 2 6 ∷ Did 2 5 absent ∷ []) ∷ [];
  rounds = Start 1 5 ∷ View 1 6 ∷ Did 1 5 absent ∷ Did 3 2 missing ∷ Start 3 3 ∷ Did 3 3 missing
      ∷ [];
}

-- transactions of both levels, with purges and audits between them
abbrev pub levels_and_audits : Run
levels_and_audits = record {
  lines =
      (say 1 true (inserts 1 (object no_members)), Start 1 1 ∷ Did 1 1 full ∷ Commit 1 1 ∷ [])
      ∷ (
        say 1 true (inserts 2
            (array (trees
            ((object (member [] (boolean true)
            (member (codes "n") (text
            ((10 ∷ 9 ∷ [])
            ++ codes "\"\\")) (member (codes "s") (number (pos 6)) no_members)))) ∷ [])))),
        Start 1 2 ∷ Did 1 2 full ∷ Commit 1 2 ∷ [],
      )
      ∷ (say 1 true (inserts 3 (number (pos 1))), Start 1 3 ∷ Did 1 3 full ∷ Commit 1 3 ∷ [])
      ∷ (
        say 1 true (inserts 4
            (array (trees ((number (pos 7)) ∷ (text (replicate 33000 97)) ∷ (text (codes "bbbb")) ∷
            (object (member (codes "k") (number (pos 1))
            (member (codes "t") (text (codes "tttt")) no_members))) ∷ [])))),
        Start 1 4 ∷ Did 1 4 full ∷ Commit 1 4 ∷ [],
      )
      ∷ (say 1 true (get 1), Start 1 5 ∷ View 1 4 ∷ Did 1 5 (doc (codes "{}")) ∷ [])
      ∷ (purge, Purged 1 ∷ Purged 2 ∷ Purged 3 ∷ Purged 4 ∷ [])
      ∷ (audit, Audited (report 4 4 6 6) ∷ [])
      ∷ (say 3 true (get 3), Start 3 1 ∷ View 3 4 ∷ Did 3 1 (doc (codes "1")) ∷ [])
      ∷ (audit, Audited (report 4 4 6 6) ∷ [])
      ∷ (say 2 true commit, Start 2 1 ∷ Did 2 1 done ∷ [])
      ∷ (say 3 true (removes 1 ([] ∷ [])), Start 3 2 ∷ Did 3 2 same ∷ [])
      ∷ (say 3 true (get 1), Start 3 3 ∷ View 3 4 ∷ Did 3 3 (doc (codes "{}")) ∷ [])
      ∷ (say 1 true commit, Start 1 6 ∷ Did 1 6 done ∷ [])
      ∷ (say 2 true (removes 3 ([] ∷ [])), Start 2 2 ∷ Did 2 2 same ∷ [])
      ∷ (
        say 2 true (sets 4
            (((cell 1 ∷ []), text (replicate 101 97 ++ replicate 100 121 ++ replicate 32799 97))
            ∷ [])),
        Start 2 3 ∷ Did 2 3 (part 100) ∷ Commit 2 5 ∷ [],
      )
      ∷ (say 2 true (begin rr), Start 2 4 ∷ Did 2 4 done ∷ [])
      ∷ (
        say 1 true (sets 3
            ((
              (cell 7 ∷ []),
              array
                  (trees ((object (member (codes "a") (number (pos 7))
                  (member (codes "s") (boolean false)
                  (member (codes "zz") (number (neg_ℤ (pos 53)))
                  (member (codes "k y") (text (replicate 200 99)) no_members)))))
                  ∷ (number (pos 32768))
                  ∷ (number (neg_ℤ (pos 32768))) ∷ [])),
            ) ∷ [])),
        Start 1 7 ∷ Did 1 7 full ∷ Commit 1 6 ∷ [],
      )
      ∷ (say 3 true (size 1), Start 3 4 ∷ View 3 6 ∷ Did 3 4 (sized 5 0) ∷ [])
      ∷ (say 2 true (removes 3 ((last 0 ∷ []) ∷ [] ∷ [])), Start 2 5 ∷ Did 2 5 (part 1) ∷ [])
      ∷ (say 3 true (size 3), Start 3 5 ∷ View 3 6 ∷ Did 3 5 (sized 269 0) ∷ [])
      ∷ (say 3 true (size 1), Start 3 6 ∷ View 3 6 ∷ Did 3 6 (sized 5 0) ∷ [])
      ∷ (say 2 true (get 3), Start 2 6 ∷ View 2 6 ∷ Did 2 6 (doc (codes "[1]")) ∷ [])
      ∷ (say 2 true (begin rc), Start 2 7 ∷ Did 2 7 inside ∷ [])
      ∷ (purge, Purged 5 ∷ Purged 6 ∷ [])
      ∷ (purge, [])
      ∷ (say 3 true rollback, Start 3 7 ∷ Did 3 7 done ∷ [])
      ∷ (say 2 true (size 3), Start 2 8 ∷ Did 2 8 (sized 269 261) ∷ [])
      ∷ (
        say 2 true (sets 4
            (((cell 1 ∷ []), text (codes "a" ++ replicate 101 121 ++ replicate 32898 97)) ∷ [])),
        Start 2 9 ∷ Did 2 9 (part 199) ∷ [],
      )
      ∷ (audit, Audited (report 4 4 6 7) ∷ [])
      ∷ (say 3 true rollback, Start 3 8 ∷ Did 3 8 done ∷ []) ∷ [];
  rounds = Undone 2 by_end ∷ [];
}
