-- Worked reads on small data: a document of two pieces that is changed in place, and one of one
-- piece that is changed in place, by a new version, and in place again.
use Rattle.std.specs.Prelude.{ℕ, zero, suc, List, [], ◌∷◌, map, Some, nat_le}
use Rattle.page_model.specs.Pages.{Address}
use Rattle.store_data.specs.Pieces.{Part, pushed, popped}
use Rattle.store_data.specs.Store.{Run, Row, live, Version, Body, patched, versioned}
use Rattle.store_model.specs.Runs.{lobs_laid}
use Rattle.store_model.specs.Steps.{on_lob, at_version, at_piece, with_nodes}
use Rattle.read_model.specs.Patches.{Entry}
use Rattle.read_model.specs.Document.{Document, Sees}
use Rattle.read_model.specs.Flight.{Flight}
use Rattle.read_model.specs.Steps.{opened, event_of_read}
use Rattle.read_model.specs.Events.{Event, reads, adds, removes, all_after, last_of, frees, touches}
use Rattle.read_model.specs.Kinds.{with_change, without_change, on_lobs}

abbrev pub place : ℕ → ℕ → Address
place page at = record { page = page; at = at }

abbrev pub run : ℕ → ℕ → List ℕ → Run
run page at bytes = record { page = page; at = at; bytes = bytes }

abbrev pub row_of : ℕ → Address → ℕ → ℕ → Row
row_of trx roll version length =
    record {
      state = live;
      trx = trx;
      roll = Some roll;
      lob = record { page = 3; version = version; length = length };
    }

abbrev pub version_of : Address → ℕ → ℕ → ℕ → List ℕ → Version
version_of at number page start bytes =
    record {
      place = at;
      number = number;
      page = page;
      at = start;
      bytes = bytes;
      creator = 1;
      modifier = number;
      creator_undo = 0;
      modifier_undo = 0;
    }

abbrev pub entry_of : Address → Row → Body → Entry
entry_of a before body = (a, record { number = 0; doc = 1; before = before; body = body })

-- the first k transactions
abbrev pub sees_to : ℕ → Sees
sees_to k trx = nat_le trx k

-- ---- two pieces

abbrev pub two_row : Row
two_row = row_of 1 (place 9 107) 1 6

abbrev pub two_pieces : Document
two_pieces = record {
  row = two_row;
  records = [];
  lobs = record {
    page = 3;
    version = 1;
    pieces = record { head = version_of (place 3 96) 1 3 696 (7 ∷ 97 ∷ []); older = [] }
        ∷ record { head = version_of (place 3 156) 1 4 49 (98 ∷ 98 ∷ 98 ∷ 98 ∷ []); older = [] }
        ∷ [];
    index = [];
    free = [];
  } ∷ [];
}

abbrev pub both_changed : Entry
both_changed = entry_of (place 8 107) two_row
    (patched (run 3 696 (7 ∷ []) ∷ run 4 49 (98 ∷ 98 ∷ 98 ∷ 98 ∷ []) ∷ []))

abbrev pub two_changed : Document
two_changed = with_change both_changed (row_of 2 (place 8 107) 1 6)
    (lobs_laid (run 3 696 (8 ∷ []) ∷ run 4 49 (99 ∷ 99 ∷ 99 ∷ 99 ∷ []) ∷ [])) two_pieces

-- the record stands where that of the first row stood, whose log is purged
abbrev pub at_purged : Entry
at_purged = entry_of (place 9 107) two_row (patched (run 3 696 (7 ∷ []) ∷ []))

abbrev pub two_reused : Document
two_reused = with_change at_purged (row_of 2 (place 9 107) 1 6)
    (lobs_laid (run 3 696 (8 ∷ []) ∷ [])) two_pieces

abbrev pub own : Document → Event × Document
own doc = (reads, doc)

-- the change comes between the copies of the two pieces
abbrev pub changed_between : Flight
changed_between = all_after (sees_to 1) two_pieces
    (own two_pieces ∷ (adds both_changed, two_changed) ∷ own two_changed ∷ own two_changed ∷ [])
    (opened (sees_to 1) two_pieces)

abbrev pub done_and_undone : List (Event × Document)
done_and_undone = (adds both_changed, two_changed) ∷ own two_changed ∷ own two_changed ∷
    (removes both_changed, two_pieces) ∷ own two_pieces ∷ []

-- both are copied, and then the change is undone
abbrev pub undone_behind : Flight
undone_behind = all_after (sees_to 1) two_pieces done_and_undone (opened (sees_to 1) two_pieces)

-- or one is, and the change is undone
abbrev pub undone_between : Flight
undone_between = all_after (sees_to 1) two_pieces
    ((adds both_changed, two_changed) ∷ own two_changed ∷
    (removes both_changed, two_pieces) ∷ own two_pieces ∷ own two_pieces ∷ [])
    (opened (sees_to 1) two_pieces)

abbrev pub reused_read : Flight
reused_read = all_after (sees_to 1) two_pieces
    ((adds at_purged, two_reused) ∷ own two_reused ∷ own two_reused ∷ own two_reused ∷ [])
    (opened (sees_to 1) two_pieces)

-- ---- changed in place, by a new version, in place again

abbrev pub made : Document
made = record {
  row = row_of 1 (place 9 107) 1 4;
  records = [];
  lobs = record {
    page = 3;
    version = 1;
    pieces = record {
      head = version_of (place 3 96) 1 3 696 (97 ∷ 97 ∷ 97 ∷ 97 ∷ []);
      older = [];
    } ∷ [];
    index = [];
    free = place 3 156 ∷ [];
  } ∷ [];
}

abbrev pub small : Entry
small = entry_of (place 10 107) made.row (patched (run 3 696 (97 ∷ []) ∷ []))

abbrev pub made_small : Document
made_small = with_change small (row_of 2 (place 10 107) 1 4)
    (lobs_laid (run 3 696 (98 ∷ []) ∷ [])) made

abbrev pub large : Entry
large = entry_of (place 11 107) made_small.row (versioned 1 (1 ∷ []))

abbrev pub large_begun : Document
large_begun = with_change large (row_of 3 (place 11 107) 2 4) (on_lob 3 (at_version 2)) made_small

abbrev pub made_large : Document
made_large = on_lobs (on_lob 3
    (λ l. with_nodes [] [] (at_piece 0
    (pushed (place 3 156) (version_of (place 0 0) 2 5 49 (99 ∷ 99 ∷ 99 ∷ 97 ∷ []))) l))) large_begun

abbrev pub small_again : Entry
small_again = entry_of (place 12 107) made_large.row (patched (run 5 49 (99 ∷ []) ∷ []))

abbrev pub made_again : Document
made_again = with_change small_again (row_of 4 (place 12 107) 2 4)
    (lobs_laid (run 5 49 (100 ∷ []) ∷ [])) made_large

-- a read of it by the view of the first k transactions
abbrev pub read_at : ℕ → Flight
read_at k = all_after (sees_to k) made_again (own made_again ∷ own made_again ∷ [])
    (opened (sees_to k) made_again)

-- the large change is undone while a read stands at the node of the older version
abbrev pub large_popped : Document
large_popped = on_lobs (on_lob 3
    (λ l. record (at_piece 0 popped l) { free = place 3 156 ∷ [] })) made_large

abbrev pub undone_large : Document
undone_large = without_change large made_small.records (on_lob 3 (at_version 1)) large_popped

-- read by the view of the first k while the large change comes and goes
abbrev pub read_through : ℕ → Flight
read_through k = all_after (sees_to k) made_small
    ((adds large, large_begun) ∷ (touches, made_large) ∷ own made_large ∷
    (frees (place 3 156) (place 3 96), large_popped) ∷
    (removes large, undone_large) ∷ own undone_large ∷ [])
    (opened (sees_to k) made_small)

-- ---- ten changes of one transaction, which are undone under a read that seeks through them

abbrev pub deep_row : ℕ → Row
deep_row zero = row_of 1 (place 9 107) 1 1
deep_row (suc n) = row_of 2 (place 20 (suc n)) 1 1

abbrev pub deep_entry : ℕ → Entry
deep_entry n = entry_of (place 20 (suc n)) (deep_row n) (patched [])

abbrev pub deep_records : ℕ → List Entry
deep_records zero = []
deep_records (suc n) = deep_entry n ∷ deep_records n

abbrev pub deep : ℕ → Document
deep n = record {
  row = deep_row n;
  records = deep_records n;
  lobs = record {
    page = 3;
    version = 1;
    pieces = record { head = version_of (place 3 96) 1 3 696 (7 ∷ []); older = [] } ∷ [];
    index =
        [];
    free = [];
  } ∷ [];
}

-- so many of the changes are undone, from n on
abbrev pub all_undone : ℕ → ℕ → List (Event × Document)
all_undone zero n = []
all_undone (suc times) zero = []
all_undone (suc times) (suc n) = (removes (deep_entry n), deep n) ∷ all_undone times n

-- behind the first event of a read
abbrev pub seeking : ℕ → Flight
seeking times = all_after (sees_to 1) (deep 10) (all_undone times 10) (opened (sees_to 1) (deep 10))

abbrev pub sought_on : ℕ → Flight
sought_on times = event_of_read (sees_to 1) (last_of (deep 10) (all_undone times 10))
    (seeking times)

-- ---- ten versions, of which a read wants the oldest

abbrev pub many : ℕ → List Version
many zero = []
many (suc n) = version_of (place 6 (suc n)) (suc n) 3 696 (suc n ∷ []) ∷ many n

abbrev pub ten_versions : Document
ten_versions = record {
  row = row_of 1 (place 9 107) 1 1;
  records = [];
  lobs = record {
    page = 3;
    version = 10;
    pieces = record { head = version_of (place 3 96) 10 5 49 (10 ∷ []); older = many 9 } ∷ [];
    index = 6 ∷ [];
    free = [];
  } ∷ [];
}

abbrev pub one_popped : Document → Document
one_popped doc = on_lobs (on_lob 3 (at_piece 0 popped)) doc

-- pops, from the node of the n-th version on
abbrev pub all_popped : ℕ → ℕ → Document → List (Event × Document)
all_popped zero n doc = []
all_popped (suc times) zero doc = []
all_popped (suc times) (suc n) doc =
    (frees (place 6 (suc n)) (place 3 96), one_popped doc) ∷ all_popped times n (one_popped doc)

-- eight nodes are looked at, then the pops come
abbrev pub looking : ℕ → Flight
looking times = all_after (sees_to 1) ten_versions
    (own ten_versions ∷ all_popped times 9 ten_versions) (opened (sees_to 1) ten_versions)

-- and the read goes on
abbrev pub looked_on : ℕ → Flight
looked_on times = event_of_read (sees_to 1) (last_of ten_versions (all_popped times 9 ten_versions))
    (looking times)

abbrev pub bytes_of : Flight → List (List ℕ)
bytes_of f = map (λ (p : Part). p.bytes) f.copied
