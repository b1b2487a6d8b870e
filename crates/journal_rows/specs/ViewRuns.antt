-- What sessions read while others change documents and purge runs.
use Rattle.std.specs.Prelude.{pos, codes, true, [], ◌∷◌, ◌++◌, replicate}
use Rattle.tree_model.specs.Tree.{number, text, object, no_members, member}
use Rattle.tree_model.specs.Path.{key}
use Rattle.journal_model.specs.Journal.{rr, rc, get, begin, commit, say, purge, audit, full, part, done, doc, by_end, report, Start, View, Did, Commit, Undone, Purged, Audited}
use Rattle.journal_rows.specs.Runs.{Run, inserts, sets}

-- session 2 reads document 1 at its view until it changes it
abbrev pub repeatable_read : Run
repeatable_read = record {
  lines = (
    say 1 true (inserts 1 (object (member (codes "n") (number (pos 1)) no_members))),
    Start 1 1 ∷ Did 1 1 full ∷ Commit 1 1 ∷ [],
  )
      ∷ (
        say 1 true (inserts 2 (object (member (codes "n") (number (pos 1)) no_members))),
        Start 1 2 ∷ Did 1 2 full ∷ Commit 1 2 ∷ [],
      )
      ∷ (say 2 true (begin rr), Start 2 1 ∷ Did 2 1 done ∷ [])
      ∷ (say 2 true (get 1), Start 2 2 ∷ View 2 2 ∷ Did 2 2 (doc (codes "{\"n\": 1}")) ∷ [])
      ∷ (
        say 1 true (sets 1 (((key (codes "n") ∷ []), number (pos 2)) ∷ [])),
        Start 1 3 ∷ Did 1 3 (part 1) ∷ Commit 1 3 ∷ [],
      )
      ∷ (
        say 1 true (sets 2 (((key (codes "n") ∷ []), number (pos 5)) ∷ [])),
        Start 1 4 ∷ Did 1 4 (part 1) ∷ Commit 1 4 ∷ [],
      )
      ∷ (
        say 2 true (sets 1 (((key (codes "k") ∷ []), number (pos 9)) ∷ [])),
        Start 2 3 ∷ Did 2 3 full ∷ [],
      )
      ∷ (say 2 true (get 1), Start 2 4 ∷ Did 2 4 (doc (codes "{\"k\": 9, \"n\": 2}")) ∷ [])
      ∷ (say 2 true (get 2), Start 2 5 ∷ Did 2 5 (doc (codes "{\"n\": 1}")) ∷ []) ∷ [];
  rounds = Undone 2 by_end ∷ [];
}

-- session 2 takes a view for each read
abbrev pub read_committed : Run
read_committed = record {
  lines = (
    say 1 true (inserts 1 (object (member (codes "n") (number (pos 1)) no_members))),
    Start 1 1 ∷ Did 1 1 full ∷ Commit 1 1 ∷ [],
  )
      ∷ (
        say 1 true (inserts 2 (object (member (codes "n") (number (pos 1)) no_members))),
        Start 1 2 ∷ Did 1 2 full ∷ Commit 1 2 ∷ [],
      )
      ∷ (say 2 true (begin rc), Start 2 1 ∷ Did 2 1 done ∷ [])
      ∷ (say 2 true (get 1), Start 2 2 ∷ View 2 2 ∷ Did 2 2 (doc (codes "{\"n\": 1}")) ∷ [])
      ∷ (
        say 1 true (sets 1 (((key (codes "n") ∷ []), number (pos 2)) ∷ [])),
        Start 1 3 ∷ Did 1 3 (part 1) ∷ Commit 1 3 ∷ [],
      )
      ∷ (
        say 1 true (sets 2 (((key (codes "n") ∷ []), number (pos 5)) ∷ [])),
        Start 1 4 ∷ Did 1 4 (part 1) ∷ Commit 1 4 ∷ [],
      )
      ∷ (say 2 true (get 1), Start 2 3 ∷ View 2 4 ∷ Did 2 3 (doc (codes "{\"n\": 2}")) ∷ []) ∷ [];
  rounds = Undone 2 by_end ∷ [];
}

-- four sessions read one document at four commits, and purge runs behind each
abbrev pub four_views : Run
four_views = record {
  lines = (
    say 1 true (inserts 1 (object (member (codes "s") (text (replicate 200 97)) no_members))),
    Start 1 1 ∷ Did 1 1 full ∷ Commit 1 1 ∷ [],
  )
      ∷ (say 2 true (begin rr), Start 2 1 ∷ Did 2 1 done ∷ [])
      ∷ (
        say 2 true (get 1),
        Start 2 2 ∷ View 2 1
            ∷ Did 2 2 (doc (codes "{\"s\": \"" ++ replicate 200 97 ++ codes "\"}")) ∷ [],
      )
      ∷ (
        say 1 true (sets 1 (((key (codes "s") ∷ []), text (codes "b" ++ replicate 199 97)) ∷ [])),
        Start 1 2 ∷ Did 1 2 (part 1) ∷ Commit 1 2 ∷ [],
      )
      ∷ (say 3 true (begin rr), Start 3 1 ∷ Did 3 1 done ∷ [])
      ∷ (
        say 3 true (get 1),
        Start 3 2 ∷ View 3 2
            ∷ Did 3 2 (doc (codes "{\"s\": \"b" ++ replicate 199 97 ++ codes "\"}")) ∷ [],
      )
      ∷ (
        say 1 true (sets 1
            (((key (codes "s") ∷ []), text (replicate 150 99 ++ replicate 50 97)) ∷ [])),
        Start 1 3 ∷ Did 1 3 (part 150) ∷ Commit 1 3 ∷ [],
      )
      ∷ (say 4 true (begin rr), Start 4 1 ∷ Did 4 1 done ∷ [])
      ∷ (
        say 4 true (get 1),
        Start 4 2 ∷ View 4 3
            ∷ Did 4 2 (doc (codes "{\"s\": \"" ++ replicate 150 99 ++ replicate 50 97
            ++ codes "\"}"))
            ∷ [],
      )
      ∷ (
        say 1 true (sets 1
            ((
              (key (codes "s") ∷ []),
              text (codes "d" ++ replicate 149 99
                  ++ replicate 50 97),
            ) ∷ [])),
        Start 1 4 ∷ Did 1 4 (part 1) ∷ Commit 1 4 ∷ [],
      )
      ∷ (say 5 true (begin rr), Start 5 1 ∷ Did 5 1 done ∷ [])
      ∷ (
        say 5 true (get 1),
        Start 5 2 ∷ View 5 4 ∷ Did 5 2 (doc
            (codes "{\"s\": \"d" ++ replicate 149 99 ++ replicate 50 97 ++ codes "\"}")) ∷ [],
      )
      ∷ (purge, Purged 1 ∷ [])
      ∷ (
        say 2 true (get 1),
        Start 2 3 ∷ Did 2 3 (doc (codes "{\"s\": \"" ++ replicate 200 97 ++ codes "\"}")) ∷ [],
      )
      ∷ (
        say 3 true (get 1),
        Start 3 3 ∷ Did 3 3 (doc (codes "{\"s\": \"b" ++ replicate 199 97 ++ codes "\"}")) ∷ [],
      )
      ∷ (
        say 4 true (get 1),
        Start 4 3 ∷ Did 4 3 (doc (codes "{\"s\": \"" ++ replicate 150 99 ++ replicate 50 97
            ++ codes "\"}"))
            ∷ [],
      )
      ∷ (
        say 5 true (get 1),
        Start 5 3 ∷ Did 5 3 (doc
            (codes "{\"s\": \"d" ++ replicate 149 99 ++ replicate 50 97 ++ codes "\"}")) ∷ [],
      )
      ∷ (audit, Audited (report 1 1 1 2) ∷ [])
      ∷ (say 2 true commit, Start 2 4 ∷ Did 2 4 done ∷ [])
      ∷ (say 3 true commit, Start 3 4 ∷ Did 3 4 done ∷ [])
      ∷ (say 4 true commit, Start 4 4 ∷ Did 4 4 done ∷ [])
      ∷ (say 5 true commit, Start 5 4 ∷ Did 5 4 done ∷ [])
      ∷ (purge, Purged 2 ∷ Purged 3 ∷ Purged 4 ∷ [])
      ∷ (audit, Audited (report 1 1 1 1) ∷ []) ∷ [];
  rounds = [];
}
