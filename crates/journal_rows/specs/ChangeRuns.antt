-- One session: what a change is answered, and what is read and measured behind it.
use Rattle.std.specs.Prelude.{pos, neg_ℤ, codes, true, [], ◌∷◌, replicate}
use Rattle.tree_model.specs.Tree.{number, text, array, object, trees, no_members, member}
use Rattle.tree_model.specs.Path.{key, cell, last}
use Rattle.journal_model.specs.Journal.{rr, get, size, begin, commit, say, missing, exists, same, full, part, done, doc, sized, absent, Start, View, Did, Commit}
use Rattle.journal_rows.specs.Runs.{Run, inserts, sets, replaces, removes}

-- an insert, and the size of the document
abbrev pub measured : Run
measured = record {
  lines = (
    say 1 true (inserts 1
        (object (member (codes "a") (number (pos 1000))
        (member (codes "b") (text (codes "wxyz"))
        (member (codes "c") (text (codes "[1, 3, 5, 7]")) no_members))))),
    Start 1 1 ∷ Did 1 1 full ∷ Commit 1 1 ∷ [],
  )
      ∷ (say 1 true (size 1), Start 1 2 ∷ View 1 1 ∷ Did 1 2 (sized 47 0) ∷ []) ∷ [];
  rounds = [];
}

-- a text is set to a shorter one in place, and then to the old one and to a longer one
abbrev pub shorter_text : Run
shorter_text = record {
  lines = (
    say 1 true (inserts 1
        (object (member (codes "a") (number (pos 1000))
        (member (codes "b") (text (codes "wxyz"))
        (member (codes "c") (text (codes "[1, 3, 5, 7]")) no_members))))),
    Start 1 1 ∷ Did 1 1 full ∷ Commit 1 1 ∷ [],
  )
      ∷ (
        say 1 true (sets 1 (((key (codes "b") ∷ []), text (codes "a")) ∷ [])),
        Start 1 2 ∷ Did 1 2 (part 2) ∷ Commit 1 2 ∷ [],
      )
      ∷ (say 1 true (size 1), Start 1 3 ∷ View 1 2 ∷ Did 1 3 (sized 47 3) ∷ [])
      ∷ (
        say 1 true (get 1),
        Start 1 4 ∷ View 1 2
            ∷ Did 1 4 (doc (codes "{\"a\": 1000, \"b\": \"a\", \"c\": \"[1, 3, 5, 7]\"}")) ∷ [],
      )
      ∷ (
        say 1 true (sets 1 (((key (codes "b") ∷ []), text (codes "wxyz")) ∷ [])),
        Start 1 5 ∷ Did 1 5 (part 2) ∷ Commit 1 3 ∷ [],
      )
      ∷ (say 1 true (size 1), Start 1 6 ∷ View 1 3 ∷ Did 1 6 (sized 47 0) ∷ [])
      ∷ (
        say 1 true (sets 1 (((key (codes "b") ∷ []), text (codes "abcde")) ∷ [])),
        Start 1 7 ∷ Did 1 7 full ∷ Commit 1 4 ∷ [],
      )
      ∷ (say 1 true (size 1), Start 1 8 ∷ View 1 4 ∷ Did 1 8 (sized 48 0) ∷ []) ∷ [];
  rounds = [];
}

-- a member is removed in place
abbrev pub removed_member : Run
removed_member = record {
  lines = (
    say 1 true (inserts 1
        (object (member (codes "a") (number (pos 1000))
        (member (codes "b") (text (codes "wxyz"))
        (member (codes "c") (text (codes "[1, 3, 5, 7]")) no_members))))),
    Start 1 1 ∷ Did 1 1 full ∷ Commit 1 1 ∷ [],
  )
      ∷ (
        say 1 true (removes 1 ((key (codes "c") ∷ []) ∷ [])),
        Start 1 2 ∷ Did 1 2 (part 7) ∷ Commit 1 2 ∷ [],
      )
      ∷ (say 1 true (size 1), Start 1 3 ∷ View 1 2 ∷ Did 1 3 (sized 47 21) ∷ []) ∷ [];
  rounds = [];
}

-- a text is set to a number in its entry, and back
abbrev pub inlined_number : Run
inlined_number = record {
  lines = (
    say 1 true (inserts 1
        (object (member (codes "a") (number (pos 1000))
        (member (codes "b") (text (codes "wxyz"))
        (member (codes "c") (text (codes "[1, 3, 5, 7]")) no_members))))),
    Start 1 1 ∷ Did 1 1 full ∷ Commit 1 1 ∷ [],
  )
      ∷ (
        say 1 true (sets 1 (((key (codes "b") ∷ []), number (pos 1)) ∷ [])),
        Start 1 2 ∷ Did 1 2 (part 2) ∷ Commit 1 2 ∷ [],
      )
      ∷ (say 1 true (size 1), Start 1 3 ∷ View 1 2 ∷ Did 1 3 (sized 47 5) ∷ [])
      ∷ (
        say 1 true (sets 1 (((key (codes "b") ∷ []), text (codes "wxyz")) ∷ [])),
        Start 1 4 ∷ Did 1 4 (part 2) ∷ Commit 1 3 ∷ [],
      )
      ∷ (say 1 true (size 1), Start 1 5 ∷ View 1 3 ∷ Did 1 5 (sized 47 0) ∷ []) ∷ [];
  rounds = [];
}

-- `$[1]` on a number makes a list, `$[last-3]` has no effect
abbrev pub cell_of_scalar : Run
cell_of_scalar = record {
  lines =
      (say 1 true (inserts 1 (number (pos 1))), Start 1 1 ∷ Did 1 1 full ∷ Commit 1 1 ∷ [])
      ∷ (say 1 true (sets 1 (((last 3 ∷ []), number (pos 9)) ∷ [])), Start 1 2 ∷ Did 1 2 same ∷ [])
      ∷ (
        say 1 true (sets 1 (((cell 1 ∷ []), number (pos 2)) ∷ [])),
        Start 1 3 ∷ Did 1 3 full ∷ Commit 1 2 ∷ [],
      )
      ∷ (say 1 true (get 1), Start 1 4 ∷ View 1 2 ∷ Did 1 4 (doc (codes "[1, 2]")) ∷ []) ∷ [];
  rounds = [];
}

-- `$[0]` on a number is the number
abbrev pub scalar_itself : Run
scalar_itself = record {
  lines =
      (say 1 true (inserts 1 (number (pos 1))), Start 1 1 ∷ Did 1 1 full ∷ Commit 1 1 ∷ [])
      ∷ (
        say 1 true (sets 1 (((cell 0 ∷ []), number (pos 5)) ∷ [])),
        Start 1 2 ∷ Did 1 2 full ∷ Commit 1 2 ∷ [],
      )
      ∷ (say 1 true (get 1), Start 1 3 ∷ View 1 2 ∷ Did 1 3 (doc (codes "5")) ∷ []) ∷ [];
  rounds = [];
}

-- changes that leave the tree, and refusals
abbrev pub no_effect : Run
no_effect = record {
  lines = (
    say 1 true (inserts 1
        (object (member (codes "a") (number (pos 1000))
        (member (codes "b") (text (codes "wxyz"))
        (member (codes "c") (text (codes "[1, 3, 5, 7]")) no_members))))),
    Start 1 1 ∷ Did 1 1 full ∷ Commit 1 1 ∷ [],
  )
      ∷ (
        say 1 true (sets 1 (((key (codes "d") ∷ []), number (pos 1)) ∷ [])),
        Start 1 2 ∷ Did 1 2 full ∷ Commit 1 2 ∷ [],
      )
      ∷ (
        say 1 true (replaces 1 (((key (codes "e") ∷ []), number (pos 1)) ∷ [])),
        Start 1 3 ∷ Did 1 3 same ∷ [],
      )
      ∷ (say 1 true (removes 1 ((key (codes "e") ∷ []) ∷ [])), Start 1 4 ∷ Did 1 4 same ∷ [])
      ∷ (
        say 1 true (sets 1 (((key (codes "a") ∷ []), number (pos 1000)) ∷ [])),
        Start 1 5 ∷ Did 1 5 same ∷ [],
      )
      ∷ (say 1 true (inserts 1 (number (pos 1))), Start 1 6 ∷ Did 1 6 exists ∷ [])
      ∷ (say 1 true (sets 9 (([], number (pos 1)) ∷ [])), Start 1 7 ∷ Did 1 7 missing ∷ [])
      ∷ (say 1 true (get 9), Start 1 8 ∷ View 1 2 ∷ Did 1 8 absent ∷ []) ∷ [];
  rounds = [];
}

-- the greatest and the least number
abbrev pub wide_numbers : Run
wide_numbers = record {
  lines = (
    say 1 true (inserts 1
        (array (trees ((number (pos 18446744073709551615)) ∷
        (number (neg_ℤ (pos 9223372036854775808))) ∷ [])))),
    Start 1 1 ∷ Did 1 1 full ∷ Commit 1 1 ∷ [],
  )
      ∷ (
        say 1 true (get 1),
        Start 1 2 ∷ View 1 1
            ∷ Did 1 2 (doc (codes "[18446744073709551615, -9223372036854775808]")) ∷ [],
      )
      ∷ (say 1 true (size 1), Start 1 3 ∷ View 1 1 ∷ Did 1 3 (sized 27 0) ∷ []) ∷ [];
  rounds = [];
}

-- a list of 65,536 bytes
abbrev pub small_form : Run
small_form = record {
  lines = (
    say 1 true (inserts 1
        (array (trees ((text (replicate 65518 117)) ∷ (number (pos 100000)) ∷ [])))),
    Start 1 1 ∷ Did 1 1 full ∷ Commit 1 1 ∷ [],
  )
      ∷ (say 1 true (size 1), Start 1 2 ∷ View 1 1 ∷ Did 1 2 (sized 65536 0) ∷ []) ∷ [];
  rounds = [];
}

-- the same with one letter more
abbrev pub large_form : Run
large_form = record {
  lines = (
    say 1 true (inserts 1
        (array (trees ((text (replicate 65519 117)) ∷ (number (pos 100000)) ∷ [])))),
    Start 1 1 ∷ Did 1 1 full ∷ Commit 1 1 ∷ [],
  )
      ∷ (say 1 true (size 1), Start 1 2 ∷ View 1 1 ∷ Did 1 2 (sized 65541 0) ∷ []) ∷ [];
  rounds = [];
}

-- changes of a transaction, one of which leaves its document as it is
abbrev pub in_one_transaction : Run
in_one_transaction = record {
  lines = (
    say 1 true (inserts 1 (object (member (codes "n") (number (pos 1)) no_members))),
    Start 1 1 ∷ Did 1 1 full ∷ Commit 1 1 ∷ [],
  )
      ∷ (say 1 true (begin rr), Start 1 2 ∷ Did 1 2 done ∷ [])
      ∷ (
        say 1 true (sets 1 (((key (codes "n") ∷ []), number (pos 2)) ∷ [])),
        Start 1 3 ∷ Did 1 3 (part 1) ∷ [],
      )
      ∷ (
        say 1 true (sets 1 (((key (codes "n") ∷ []), number (pos 2)) ∷ [])),
        Start 1 4 ∷ Did 1 4 same ∷ [],
      )
      ∷ (say 1 true (inserts 2 (array (trees []))), Start 1 5 ∷ Did 1 5 full ∷ [])
      ∷ (say 1 true commit, Start 1 6 ∷ Commit 1 2 ∷ Did 1 6 done ∷ []) ∷ [];
  rounds = [];
}
