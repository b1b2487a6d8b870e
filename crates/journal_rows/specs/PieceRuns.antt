-- Documents of several pieces, small and large changes, and what an audit counts.
use Rattle.std.specs.Prelude.{pos, codes, true, false, [], ◌∷◌, ◌++◌, replicate}
use Rattle.tree_model.specs.Tree.{number, text, array, object, trees, no_members, member}
use Rattle.tree_model.specs.Path.{key, cell}
use Rattle.journal_model.specs.Journal.{rr, get, begin, commit, say, step, purge, audit, full, part, done, doc, report, Start, View, Did, Commit, Purged, Audited}
use Rattle.journal_rows.specs.Runs.{Run, inserts, sets}

-- 15,680 bytes
abbrev pub one_piece : Run
one_piece = record {
  lines = (
    say 1 true (inserts 1 (text (replicate 15677 97))),
    Start 1 1 ∷ Did 1 1 full ∷ Commit 1 1 ∷ [],
  )
      ∷ (audit, Audited (report 1 1 1 1) ∷ []) ∷ [];
  rounds = [];
}

-- 15,681 bytes
abbrev pub two_pieces : Run
two_pieces = record {
  lines = (
    say 1 true (inserts 1 (text (replicate 15678 97))),
    Start 1 1 ∷ Did 1 1 full ∷ Commit 1 1 ∷ [],
  )
      ∷ (audit, Audited (report 1 1 2 2) ∷ []) ∷ [];
  rounds = [];
}

-- a change of 100 bytes, and one of 101
abbrev pub small_and_large : Run
small_and_large = record {
  lines = (
    say 1 true (inserts 1 (object (member (codes "s") (text (replicate 200 97)) no_members))),
    Start 1 1 ∷ Did 1 1 full ∷ Commit 1 1 ∷ [],
  )
      ∷ (
        say 1 true (sets 1
            (((key (codes "s") ∷ []), text (replicate 100 98 ++ replicate 100 97)) ∷ [])),
        Start 1 2 ∷ Did 1 2 (part 100) ∷ Commit 1 2 ∷ [],
      )
      ∷ (audit, Audited (report 1 1 1 1) ∷ [])
      ∷ (
        say 1 true (sets 1
            (((key (codes "s") ∷ []), text (replicate 101 99 ++ replicate 99 97)) ∷ [])),
        Start 1 3 ∷ Did 1 3 (part 101) ∷ Commit 1 3 ∷ [],
      )
      ∷ (audit, Audited (report 1 1 1 2) ∷ []) ∷ [];
  rounds = [];
}

-- session 2 reads a document of two pieces while session 1 changes both
abbrev pub read_in_pieces : Run
read_in_pieces = record {
  lines = (
    say 1 true (inserts 1
        (array (trees ((number (pos 7)) ∷ (text (replicate 20000 97)) ∷ (text (codes "bbbb"))
        ∷ [])))),
    Start 1 1 ∷ Did 1 1 full ∷ Commit 1 1 ∷ [],
  )
      ∷ (say 2 true (begin rr), Start 2 1 ∷ Did 2 1 done ∷ [])
      ∷ (say 2 false (get 1), [])
      ∷ (step 2 2, Start 2 2 ∷ View 2 1 ∷ [])
      ∷ (
        say 1 true (sets 1
            (((cell 0 ∷ []), number (pos 8)) ∷ ((cell 2 ∷ []), text (codes "cccc")) ∷ [])),
        Start 1 2 ∷ Did 1 2 (part 5) ∷ Commit 1 2 ∷ [],
      )
      ∷ (
        say 2 true commit,
        Did 2 2
            (doc (codes "[7, \"" ++ replicate 20000 97 ++ codes "\", \"bbbb\"]")) ∷ Start 2 3
            ∷ Did 2 3 done ∷ [],
      ) ∷ [];
  rounds = [];
}

-- the same, and purge
abbrev pub purged_behind : Run
purged_behind = record {
  lines = (
    say 1 true (inserts 1 (object (member (codes "s") (text (replicate 200 97)) no_members))),
    Start 1 1 ∷ Did 1 1 full ∷ Commit 1 1 ∷ [],
  )
      ∷ (
        say 1 true (sets 1
            (((key (codes "s") ∷ []), text (replicate 100 98 ++ replicate 100 97)) ∷ [])),
        Start 1 2 ∷ Did 1 2 (part 100) ∷ Commit 1 2 ∷ [],
      )
      ∷ (audit, Audited (report 1 1 1 1) ∷ [])
      ∷ (
        say 1 true (sets 1
            (((key (codes "s") ∷ []), text (replicate 101 99 ++ replicate 99 97)) ∷ [])),
        Start 1 3 ∷ Did 1 3 (part 101) ∷ Commit 1 3 ∷ [],
      )
      ∷ (audit, Audited (report 1 1 1 2) ∷ [])
      ∷ (purge, Purged 1 ∷ Purged 2 ∷ Purged 3 ∷ [])
      ∷ (audit, Audited (report 1 1 1 1) ∷ []) ∷ [];
  rounds = [];
}
