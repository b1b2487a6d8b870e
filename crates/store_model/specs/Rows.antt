-- Worked stores, by hand. Document 7 is inserted in two pieces, changed in place, given a new
-- version of its first piece, and deleted.
use Rattle.std.specs.Prelude.{ℕ, ◌+◌, List, [], ◌∷◌}
use Rattle.page_model.specs.Pages.{Address}
use Rattle.store_data.specs.Store.{Version, Lob, Run, Body, inserted, rebuilt, versioned, patched, removed, Record, Store}
use Rattle.store_model.specs.History.{row_before}
use Rattle.store_model.specs.Events.{Plan, log_begun, record_of, insert_begun, rebuild_begun, version_begun, patch_made, delete_made, piece_added, version_pushed, committed_by}
use Rattle.store_model.specs.Undo.{undone_record, piece_freed, purge_begun, version_dropped, record_passed, log_purged}

abbrev pub new_store : Store
new_store = record {
  next_trx = 1;
  commits = 0;
  purged = 0;
  rows = [];
  row_pages = [];
  active = [];
  committed = [];
  lobs = [];
}

abbrev pub at : ℕ → ℕ → Address
at page place = record { page = page; at = place }

abbrev pub entry : Address → ℕ → ℕ → ℕ → List ℕ → Version
entry place number page start bytes =
    record {
      place = place;
      number = number;
      page = page;
      at = start;
      bytes = bytes;
      creator = 0;
      modifier = 0;
      creator_undo = 0;
      modifier_undo = 0;
    }

abbrev pub run : ℕ → ℕ → List ℕ → Run
run page place bytes = record { page = page; at = place; bytes = bytes }

abbrev pub plan : ℕ → Plan
plan trx = record { trx = trx; doc = 7; number = 0; place = at (20 + trx) 107 }

abbrev pub lob : Lob
lob = record {
  page = 10;
  version = 1;
  pieces = record { head = entry (at 10 96) 1 10 696 (1 ∷ 2 ∷ []); older = [] } ∷ [];
  index =
      [];
  free = [];
}

abbrev pub inserted_store : Store
inserted_store = piece_added 10
    (record { head = entry (at 10 156) 1 11 49 (3 ∷ 4 ∷ []); older = [] }) [] []
    (insert_begun (plan 1) lob 4 (log_begun 1 21 new_store))

abbrev pub first : Store
first = committed_by 1 inserted_store

abbrev pub patched_store : Store
patched_store = patch_made (plan 2) (run 11 50 (4 ∷ []) ∷ []) (run 11 50 (9 ∷ []) ∷ [])
    (log_begun 2 22 first)

abbrev pub second : Store
second = committed_by 2 patched_store

abbrev pub versioned_store : Store
versioned_store = version_pushed 10 0 (at 10 216) (entry (at 0 0) 2 12 49 (8 ∷ 2 ∷ [])) [] []
    (version_begun (plan 3) 2 (0 ∷ []) (log_begun 3 23 second))

abbrev pub third : Store
third = committed_by 3 versioned_store

abbrev pub fourth : Store
fourth = committed_by 4 (delete_made (plan 4) (log_begun 4 24 third))

-- the records, as they stand in the logs
abbrev pub record_by : Plan → Store → Body → Record
record_by p store body = record_of p (row_before store 7) body

abbrev pub unversioned : Store
unversioned = undone_record 3 (record_by (plan 3) second (versioned 2 (0 ∷ []))) versioned_store

abbrev pub unpatched : Store
unpatched = undone_record 2
    (record_by (plan 2) first (patched (run 11 50 (4 ∷ []) ∷ []))) patched_store

abbrev pub purged_first : Store
purged_first = log_purged
    (record_passed (at 21 107) 1 (record_by (plan 1) new_store (inserted 10)) (purge_begun third))

abbrev pub purged_second : Store
purged_second = log_purged
    (record_passed (at 22 107) 2 (record_by (plan 2) first (patched (run 11 50 (4 ∷ []) ∷ [])))
    (purge_begun purged_first))

abbrev pub purged_third : Store
purged_third = log_purged
    (record_passed (at 23 107) 3 (record_by (plan 3) second (versioned 2 (0 ∷ [])))
    (version_dropped 10 0 [] (purge_begun purged_second)))

-- the deletion is purged too: its record frees the LOB, and the row goes
abbrev pub purged_fourth : Store
purged_fourth = log_purged
    (record_passed (at 24 107) 4 (record_by (plan 4) third removed)
    (purge_begun (committed_by 4 (delete_made (plan 4) (log_begun 4 24 purged_third)))))

-- an insert over the deleted row, committed, or undone; the deletion purged before or not
abbrev pub other_lob : Lob
other_lob = record {
  page = 30;
  version = 1;
  pieces = record { head = entry (at 30 96) 1 30 696 (5 ∷ []); older = [] } ∷ [];
  index =
      [];
  free = [];
}

abbrev pub inserted_over : Store → Store
inserted_over store = insert_begun (plan 5) other_lob 1 (log_begun 5 25 store)

abbrev pub undone_over : Store → Store
undone_over store = undone_record 5 (record_by (plan 5) store (inserted 30)) (inserted_over store)

abbrev pub fifth : Store
fifth = committed_by 5 (inserted_over fourth)

-- the first three commits are purged, and the LOB that the deletion freed is half gone
abbrev pub purged_to_fourth : Store
purged_to_fourth = purge_begun
    (committed_by 5 (inserted_over
    (committed_by 4 (delete_made (plan 4) (log_begun 4 24 purged_third)))))

abbrev pub half_purged : Store
half_purged = piece_freed 10 [] purged_to_fourth

abbrev pub passed_over : Store
passed_over = record_passed (at 24 107) 4 (record_by (plan 4) third removed)
    (piece_freed 10 [] half_purged)

-- the deletion is purged while the insert over it is still open, which is then undone
abbrev pub open_over : Store
open_over = record_passed (at 24 107) 4 (record_by (plan 4) third removed)
    (purge_begun (inserted_over
    (committed_by 4 (delete_made (plan 4) (log_begun 4 24 purged_third)))))

abbrev pub undone_late : Store
undone_late = undone_record 5 (record_by (plan 5) fourth (inserted 30)) (log_purged open_over)

-- two transactions at work: one patches document 7, the other inserts document 8 and commits first
abbrev pub plan_for : ℕ → ℕ → Plan
plan_for d trx = record { trx = trx; doc = d; number = 0; place = at (20 + trx) 107 }

abbrev pub small_lob : ℕ → List ℕ → Lob
small_lob page bytes = record {
  page = page;
  version = 1;
  pieces = record { head = entry (at page 96) 1 page 696 bytes; older = [] } ∷ [];
  index =
      [];
  free = [];
}

abbrev pub both_open : Store
both_open = insert_begun (plan_for 8 3) (small_lob 40 (6 ∷ 6 ∷ [])) 2 (log_begun 3 23 patched_store)

abbrev pub later_first : Store
later_first = committed_by 3 both_open

abbrev pub both_done : Store
both_done = committed_by 2 later_first

-- then document 8 gets a new LOB, whose undoing is half done, done, or which is committed and
-- purged with all before it
abbrev pub rebuilt_store : Store
rebuilt_store = rebuild_begun (plan_for 8 4) (small_lob 50 (7 ∷ 7 ∷ 7 ∷ [])) 3
    (log_begun 4 24 both_done)

abbrev pub half_undone : Store
half_undone = piece_freed 50 [] rebuilt_store

abbrev pub rebuilt_undone : Store
rebuilt_undone = undone_record 4
    (record_of (plan_for 8 4) (row_before both_done 8) (rebuilt 50)) half_undone

abbrev pub gone_1 : Store
gone_1 = log_purged (record_passed (at 21 107) 1 (record_by (plan 1) new_store (inserted 10))
    (purge_begun (committed_by 4 rebuilt_store)))

abbrev pub gone_2 : Store
gone_2 = log_purged (record_passed (at 23 107) 3
    (record_of (plan_for 8 3) (row_before first 8) (inserted 40)) (purge_begun gone_1))

abbrev pub gone_3 : Store
gone_3 = log_purged (record_passed (at 22 107) 2
    (record_by (plan 2) first (patched (run 11 50 (4 ∷ []) ∷ []))) (purge_begun gone_2))

abbrev pub rebuilt_purged : Store
rebuilt_purged = log_purged
    (record_passed (at 24 107) 4 (record_of (plan_for 8 4) (row_before both_done 8) (rebuilt 50))
    (purge_begun gone_3))

-- ---- document 9, of one piece: small, large, small, small. The first byte is changed in place on
--         the first page, three bytes
-- come as a new version on page 61, and then the first byte of that page is changed in place, twice

abbrev pub small : Store
small = committed_by 2 (patch_made (plan_for 9 2) (run 60 696 (1 ∷ []) ∷ [])
    (run 60 696 (2 ∷ []) ∷ []) (log_begun 2 22
    (committed_by 1 (insert_begun (plan_for 9 1) (small_lob 60 (1 ∷ 1 ∷ 1 ∷ 1 ∷ [])) 4
    (log_begun 1 21 new_store)))))

abbrev pub large : Store
large = committed_by 3 (version_pushed 60 0 (at 60 156)
    (entry (at 0 0) 2 61 49 (3 ∷ 3 ∷ 3 ∷ 1 ∷ [])) [] []
    (version_begun (plan_for 9 3) 1 (0 ∷ []) (log_begun 3 23 small)))

abbrev pub small_again : Store
small_again = committed_by 4
    (patch_made (plan_for 9 4) (run 61 49 (3 ∷ []) ∷ []) (run 61 49 (4 ∷ []) ∷ [])
    (log_begun 4 24 large))

abbrev pub small_twice : Store
small_twice = committed_by 5
    (patch_made (plan_for 9 5) (run 61 49 (4 ∷ []) ∷ []) (run 61 49 (5 ∷ []) ∷ [])
    (log_begun 5 25 small_again))
