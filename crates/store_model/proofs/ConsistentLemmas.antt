-- A consistent store stays so, event by event.
use Rattle.std.proofs.Common.{◌≡◌, ◌≢◌, ℕ, suc, ◌<◌, ◌≤◌, Bool, true, false, ◌==◌, if◌then◌else◌, List, [], ◌∷◌, ◌++◌, Option, Some, None, refl, sym, ap, subst, ◌∙◌, arith}
use Rattle.page_model.specs.Pages.{Address}
use Rattle.page_model.specs.Counts.{times}
use Rattle.store_data.specs.Store.{live, Version, Piece, Lob, Run, Body, inserted, rebuilt, versioned, patched, removed, Record, Log, Store, AreRising}
use Rattle.store_model.specs.Lobs.{lob_of}
use Rattle.store_model.specs.Runs.{lobs_laid}
use Rattle.store_model.specs.History.{changes, row_before, row_of}
use Rattle.store_model.specs.Steps.{on_log, on_lob, on_lobs, at_version, without_index, last_in, with_row, without_row, log_of}
use Rattle.store_model.specs.Events.{Plan, log_begun, with_log_pages, with_row_pages, new_row, raised_row, patched_row, deleted_row, insert_begun, rebuild_begun, version_begun, patch_made, delete_made, version_pushed, piece_added, committed_by, moved}
use Rattle.store_model.specs.Undo.{log_pages_left, is_gone, without_newest, undo_ended, piece_freed, index_freed, version_popped, version_dropped, swept, cleared, is_newest, record_passed, purge_begun, log_purged}
use Rattle.store_model.specs.Moves.{MayChange, IsNewest}
use Rattle.store_model.specs.Owned.{owned, owned_lobs, row_lobs, lob_pages, log_pages, rest_of, data_page, data_pages, log_lobs, record_lobs, IsNotAmong, IsAmong, AreDifferent, AreSound}
use Rattle.store_model.specs.Takes.{AreUnowned, piece_of}
use Rattle.store_model.specs.Versions.{AreUpTo, AreOlderUpTo, IsLowered}
use Rattle.store_model.specs.Well.{IsNew, AllIn, NoLog}
use Rattle.store_model.specs.Ids.{base_of}
use Rattle.store_model.specs.Consistent.{IsConsistent}
use Rattle.store_model.proofs.LogLemmas.{Some_same}
use Rattle.store_model.proofs.OwnedLemmas.{not_parts, lobs_owned, unowned_lob}
use Rattle.store_model.proofs.CountLemmas.{different_once, once_different}
use Rattle.page_model.proofs.CountLemmas.{times-append}
use Rattle.store_model.proofs.SoundMoves.{sound_takes, push_counts, pop_counts, drop_counts, add_counts, free_counts, index_counts}
use Rattle.store_model.proofs.TakesLemmas.{insert_takes, rebuild_takes, version_takes, patch_takes, delete_takes}
use Rattle.store_model.proofs.GivesBack.{undo_gives}
use Rattle.store_model.proofs.PassGives.{rising_put, rising_out, commit_owns, log_begun_owns, pass_gives, purged_gives}
use Rattle.store_model.proofs.HeldLemmas.{unowned_none, insert_lobs, rebuild_lobs, version_lobs, patch_lobs, delete_lobs, lob_lobs, begun_lobs, commit_lobs, undo_keeps_lobs, pass_keeps_lobs, first_lobs, purged_lobs}
use Rattle.store_model.proofs.IdLemmas.{well_log_begun, ids_log_begun}
use Rattle.store_model.proofs.IdEventLemmas.{below_parts, below_join, below_on, ids_begins, ids_lobs, ids_undone, ids_commit}
use Rattle.store_model.proofs.IdBackLemmas.{ids_passed, ids_first, ids_purged}
use Rattle.store_model.proofs.WellLemmas.{well_insert, well_rebuild, well_version, well_patch, well_delete, well_lobs, well_commit}
use Rattle.store_model.proofs.WellBackLemmas.{well_passed, well_begun, well_pages, well_purged}
use Rattle.store_model.proofs.PageLemmas.{row_pages_well, log_pages_well, pages_changes}
use Rattle.store_model.proofs.DistinctLemmas.{none_on, none_parts, none_join}
use Rattle.store_model.proofs.GivesLemmas.{well_undo}
use Rattle.store_model.proofs.VersionEvents.{HoldsOf, insert_versions, rebuild_versions, version_versions, patch_versions, delete_versions, lob_versions, commit_versions, up_pushed, up_popped, up_dropped, up_added, up_front}
use Rattle.store_model.proofs.VersionBack.{undo_versions, pass_versions, begun_versions, first_versions, purged_versions}

-- ---- soundness

pub sound_less : (old new : Store) → AreSound old → ((n : ℕ) → times n (owned new) ≤ times n (owned old)) → AreSound new
sound_less old new sound less = once_different (owned new) (λ n. let a = less n in let b = different_once n (owned old) sound in omega (arith, a, b))

pub none_unowned : (page : ℕ) (store : Store) → IsNotAmong page (owned store) → IsNotAmong page (owned_lobs store)
none_unowned page store not_there =
    let r = not_parts page (0 ∷ store.row_pages) (log_pages store.active ++ (log_pages store.committed ++ lob_pages store.lobs (owned_lobs store))) not_there in
    let s = not_parts page (log_pages store.active) (log_pages store.committed ++ lob_pages store.lobs (owned_lobs store)) r.1 in
    let t = not_parts page (log_pages store.committed) (lob_pages store.lobs (owned_lobs store)) s.1 in lobs_owned page store.lobs (owned_lobs store) t.1

-- ---- changes

module _ (p : Plan) (store : Store) (all : IsConsistent store) (may : MayChange p store) (new : IsNew p.place (changes store p.doc)) where
  pub insert_consistent : (lob : Lob) (len : ℕ) → AreDifferent (lob.page ∷ rest_of (Some lob)) → AreUnowned (lob.page ∷ rest_of (Some lob)) store → lob.version ≡ 1 → AreUpTo 1 lob.pieces
      → (row_before store p.doc).state ≢ live → IsConsistent (insert_begun p lob len store)
  insert_consistent lob len different unowned one up before =
      let none = none_unowned lob.page store unowned.0 in
      let unnamed = unowned_lob lob.page store all.well none in
      let fresh = unowned_none lob.page store all.lobs none in record {
        well = well_insert p lob len store all.well may new unnamed before;
        ids = ids_begins p (new_row p lob.page len) (inserted lob.page) (λ ls. ls ++ lob ∷ []) store all.ids may refl;
        lobs = insert_lobs p lob len store all.rising may before all.lobs;
        versions = insert_versions p store may all.well all.versions lob len unnamed fresh one up;
        sound = sound_takes (lob.page ∷ rest_of (Some lob)) store (insert_begun p lob len store) all.sound different unowned (insert_takes p lob len store all.rising may none fresh before);
        rising = rising_put p.doc (new_row p lob.page len (row_before store p.doc)) store.rows all.rising;
      }

  pub rebuild_consistent : (lob : Lob) (len : ℕ) → AreDifferent (lob.page ∷ rest_of (Some lob)) → AreUnowned (lob.page ∷ rest_of (Some lob)) store → lob.version ≡ 1 → AreUpTo 1 lob.pieces
      → (row_before store p.doc).state ≡ live → IsConsistent (rebuild_begun p lob len store)
  rebuild_consistent lob len different unowned one up before =
      let none = none_unowned lob.page store unowned.0 in
      let unnamed = unowned_lob lob.page store all.well none in
      let fresh = unowned_none lob.page store all.lobs none in record {
        well = well_rebuild p lob len store all.well may new unnamed before;
        ids = ids_begins p (new_row p lob.page len) (rebuilt lob.page) (λ ls. ls ++ lob ∷ []) store all.ids may refl;
        lobs = rebuild_lobs p lob len store all.rising may before all.lobs;
        versions = rebuild_versions p store may all.well all.versions lob len unnamed fresh one up before;
        sound = sound_takes (lob.page ∷ rest_of (Some lob)) store (rebuild_begun p lob len store) all.sound different unowned (rebuild_takes p lob len store all.rising may none fresh before);
        rising = rising_put p.doc (new_row p lob.page len (row_before store p.doc)) store.rows all.rising;
      }

  pub version_consistent : (pieces : ℕ) (touched : List ℕ) → (row_before store p.doc).state ≡ live → IsConsistent (version_begun p pieces touched store)
  version_consistent pieces touched before = record {
    well = well_version p pieces touched store all.well may new before;
    ids = ids_begins p (raised_row p) (versioned pieces touched) (on_lob (row_before store p.doc).lob.page (at_version (suc (row_before store p.doc).lob.version))) store all.ids may refl;
    lobs = version_lobs p pieces touched store all.rising may before all.lobs;
    versions = version_versions p store may all.well all.versions pieces touched before;
    sound = sound_takes [] store (version_begun p pieces touched store) all.sound tt tt (version_takes p pieces touched store all.rising may before);
    rising = rising_put p.doc (raised_row p (row_before store p.doc)) store.rows all.rising;
  }

  pub patch_consistent : (old fresh : List Run) → (row_before store p.doc).state ≡ live → IsConsistent (patch_made p old fresh store)
  patch_consistent old fresh before = record {
    well = well_patch p old fresh store all.well may new before;
    ids = ids_begins p (patched_row p) (patched old) (lobs_laid fresh) store all.ids may refl;
    lobs = patch_lobs p old fresh store all.rising may before all.lobs;
    versions = patch_versions p store may all.well all.versions old fresh before;
    sound = sound_takes [] store (patch_made p old fresh store) all.sound tt tt (patch_takes p old fresh store all.rising may before);
    rising = rising_put p.doc (patched_row p (row_before store p.doc)) store.rows all.rising;
  }

  pub delete_consistent : (row_before store p.doc).state ≡ live → IsConsistent (delete_made p store)
  delete_consistent before = record {
    well = well_delete p store all.well may new before;
    ids = ids_begins p (deleted_row p) removed (λ ls. ls) store all.ids may refl;
    lobs = delete_lobs p store all.rising may before all.lobs;
    versions = delete_versions p store may all.well all.versions before;
    sound = sound_takes [] store (delete_made p store) all.sound tt tt (delete_takes p store all.rising may before);
    rising = rising_put p.doc (deleted_row p (row_before store p.doc)) store.rows all.rising;
  }

-- a store stays consistent where a log is begun on a page that isn't owned, with a new id
pub log_begun_consistent : (trx page : ℕ) (store : Store) → IsConsistent store → store.next_trx ≤ trx → 1 ≤ trx → IsNotAmong page (owned store) → IsConsistent (log_begun trx page store)
log_begun_consistent trx page store all up some none = record {
  well = well_log_begun trx page store all.well all.ids up;
  ids = ids_log_begun trx page store all.ids up some;
  lobs = begun_lobs trx page store all.lobs;
  versions = begun_versions trx page store all.versions;
  sound = sound_takes (page ∷ []) store (log_begun trx page store) all.sound (tt, tt) (none, tt) (log_begun_owns trx page store);
  rising = all.rising;
}

-- ---- one LOB changes

pub lob_consistent : (page : ℕ) (f : Lob → Lob) (store : Store) → IsConsistent store → ((l : Lob) → (f l).page ≡ l.page) → ((l : Lob) → (f l).version ≡ l.version)
    → ((l : Lob) → lob_of store.lobs page ≡ Some l → AreUpTo l.version l.pieces → AreUpTo l.version (f l).pieces) → AreSound (on_lobs (on_lob page f) store) → IsConsistent (on_lobs (on_lob page f) store)
lob_consistent page f store all same version keeps sound = record {
  well = well_lobs (on_lob page f) store all.well;
  ids = ids_lobs (on_lob page f) store all.ids;
  lobs = lob_lobs page f store same all.lobs;
  versions = lob_versions page f store all.well same version keeps all.versions;
  sound = sound;
  rising = all.rising;
}

module _ (page : ℕ) (l : Lob) (store : Store) (all : IsConsistent store) (there : lob_of store.lobs page ≡ Some l) (among : IsAmong page (owned_lobs store)) where
  -- index pages that are taken stand in front of the others
  pub push_consistent : (k : ℕ) (p : Piece) (node : Address) (v : Version) (taken : List ℕ) (free : List Address) → piece_of k l.pieces ≡ Some p → v.number ≤ l.version
      → AreDifferent (taken ++ data_page l.page v) → AreUnowned (taken ++ data_page l.page v) store → IsConsistent (version_pushed page k node v (taken ++ l.index) free store)
  push_consistent k p node v taken free is up different unowned = lob_consistent page _ store all (λ m. refl) (λ m. refl)
      (λ m found numbers. up_pushed m.version k node v m.pieces (subst (λ (x : Lob). v.number ≤ x.version) (same_lob m found) up) numbers)
      (sound_takes (taken ++ data_page l.page v) store (version_pushed page k node v (taken ++ l.index) free store) all.sound different unowned
      (λ n. let a = push_counts page l store all.sound there among k p node v (taken ++ l.index) free n is in let b = times-append n taken l.index in let c = times-append n taken (data_page l.page v) in omega (arith, a, b, c)))
    where
      same_lob : (m : Lob) → lob_of store.lobs page ≡ Some m → l ≡ m
      same_lob m found = Some_same l m (sym there ∙ found)

  pub add_consistent : (p : Piece) (taken : List ℕ) (free : List Address) → AreOlderUpTo l.version (p.head ∷ p.older)
      → AreDifferent (taken ++ data_pages l.page (p.head ∷ p.older)) → AreUnowned (taken ++ data_pages l.page (p.head ∷ p.older)) store → IsConsistent (piece_added page p (taken ++ l.index) free store)
  add_consistent p taken free up different unowned = lob_consistent page _ store all (λ m. refl) (λ m. refl)
      (λ m found numbers. up_added m.version p m.pieces (subst (λ (x : Lob). AreOlderUpTo x.version (p.head ∷ p.older)) (Some_same l m (sym there ∙ found)) up) numbers)
      (sound_takes (taken ++ data_pages l.page (p.head ∷ p.older)) store (piece_added page p (taken ++ l.index) free store) all.sound different unowned
      (λ n. let a = add_counts page l store all.sound there among p (taken ++ l.index) free n in let b = times-append n taken l.index in let c = times-append n taken (data_pages l.page (p.head ∷ p.older)) in omega (arith, a, b, c)))

  pub pop_consistent : (k : ℕ) (p : Piece) (x : Version) (xs : List Version) (free : List Address) → piece_of k l.pieces ≡ Some p → p.older ≡ x ∷ xs → IsConsistent (version_popped page k free store)
  pop_consistent k p x xs free is older = lob_consistent page _ store all (λ m. refl) (λ m. refl) (λ m found numbers. up_popped m.version k m.pieces numbers)
      (sound_less store (version_popped page k free store) all.sound (λ n. let a = pop_counts page l store all.sound there among k p x xs free n is older in omega (arith, a)))

  pub drop_consistent : (k : ℕ) (p : Piece) (free : List Address) → piece_of k l.pieces ≡ Some p → IsConsistent (version_dropped page k free store)
  drop_consistent k p free is = lob_consistent page _ store all (λ m. refl) (λ m. refl) (λ m found numbers. up_dropped m.version k m.pieces numbers)
      (sound_less store (version_dropped page k free store) all.sound (λ n. let a = drop_counts page l store all.sound there among k p free n is in omega (arith, a)))

  pub free_consistent : (free : List Address) → IsConsistent (piece_freed page free store)
  free_consistent free = lob_consistent page _ store all (λ m. refl) (λ m. refl) (λ m found numbers. up_front m.version m.pieces numbers)
      (sound_less store (piece_freed page free store) all.sound (λ n. let a = free_counts page l store all.sound there among free n in omega (arith, a)))

  pub index_consistent : (i : ℕ) (is : List ℕ) → l.index ≡ i ∷ is → IsConsistent (index_freed page store)
  index_consistent i is e = lob_consistent page without_index store all (λ m. refl) (λ m. refl) (λ m found numbers. numbers)
      (sound_less store (index_freed page store) all.sound (λ n. let a = index_counts page l store all.sound there among i is n e in omega (arith, a)))

-- ---- commit, rollback, purge

-- a store stays consistent where a transaction is committed
pub commit_consistent : (trx : ℕ) (store : Store) → IsConsistent store → IsConsistent (committed_by trx store)
commit_consistent trx store all = record {
  well = well_commit trx store all.well;
  ids = ids_commit trx store all.well all.ids;
  lobs = commit_lobs trx store all.lobs;
  versions = commit_versions trx store all.well all.versions;
  sound = sound_less store (committed_by trx store) all.sound (λ n. let a = commit_owns trx store n in omega (arith, a));
  rising = rows (log_of store.active trx);
}
  where
    rows : (o : Option Log) → AreRising (moved trx o store).rows
    rows None = all.rising
    rows (Some l) = all.rising

-- so where the newest record of a transaction is undone, once no entry of a raised version is left
pub undo_consistent : (trx : ℕ) (place : Address) (u : Record) (store : Store) → IsConsistent store → IsNewest trx place u store → IsLowered u.body u.before store.lobs → IsConsistent (undo_ended trx u store)
undo_consistent trx place u store all new lowered = record {
  well = well_undo trx place u store all.well new;
  ids = ids_undone trx place u store all.well all.ids new;
  lobs = undo_keeps_lobs trx place u store all.rising new all.well all.sound all.lobs;
  versions = undo_versions trx place u store all.well new all.versions lowered;
  sound = sound_less store (undo_ended trx u store) all.sound (λ n. let a = undo_gives trx place u store all.rising new all.well all.sound n in omega (arith, a));
  rising = rows (is_gone (without_newest trx u store) u.before.state u.before);
}
  where
    rows : (b : Bool) → AreRising (if b then without_row u.doc (without_newest trx u store) else with_row u.doc u.before (without_newest trx u store)).rows
    rows true = rising_out u.doc store.rows all.rising
    rows false = rising_put u.doc u.before store.rows all.rising

rising_swept : (body : Body) (a : Address) (trx d : ℕ) (store : Store) → AreRising store.rows → AreRising (swept body a trx d store).rows
rising_swept (inserted page) a trx d store all = all
rising_swept (rebuilt page) a trx d store all = all
rising_swept (versioned pieces touched) a trx d store all = all
rising_swept (patched old) a trx d store all = all
rising_swept removed a trx d store all = by_test (is_newest a trx (row_of store d))
  where
    by_test : (b : Bool) → AreRising (if b then without_row d store else store).rows
    by_test true = rising_out d store.rows all
    by_test false = all

-- so where purge passes the oldest record of the first committed log
pub pass_consistent : (a : Address) (u : Record) (store : Store) (l : Log) (ls : List Log) → IsConsistent store → store.committed ≡ l ∷ ls → last_in l.records ≡ (a, u) ∷ [] → IsConsistent (record_passed a l.trx u store)
pass_consistent a u store l ls all first oldest = record {
  well = well_passed a u store l ls all.well first oldest;
  ids = ids_passed a u store l ls all.well all.ids first oldest;
  lobs = pass_keeps_lobs a u store l ls all.well all.sound all.rising first oldest all.lobs;
  versions = pass_versions a u store l ls all.well first oldest all.versions;
  sound = sound_less store (record_passed a l.trx u store) all.sound (λ n. let b = pass_gives a u store l ls all.well all.sound all.rising first oldest n in omega (arith, b));
  rising = rising_swept u.body a l.trx u.doc (on_lobs (cleared u.body u.before) store) all.rising;
}

-- so where the first committed log goes, which has no records left
pub purged_consistent : (store : Store) (l : Log) (ls : List Log) → IsConsistent store → store.committed ≡ l ∷ ls → l.records ≡ [] → IsConsistent (log_purged store)
purged_consistent store l ls all first none = record {
  well = well_purged store l ls all.well first none;
  ids = ids_purged store l ls all.ids first none;
  lobs = purged_lobs store l ls first none all.lobs;
  versions = purged_versions store l ls first none all.versions;
  sound = sound_less store (log_purged store) all.sound (λ n. let a = purged_gives store l ls n first none in omega (arith, a));
  rising = all.rising;
}

-- so where purge of the first committed log begins
pub begun_consistent : (store : Store) → IsConsistent store → IsConsistent (purge_begun store)
begun_consistent store all = record {
  well = well_begun store all.well;
  ids = ids_first _ store (λ l. refl) (λ l. refl) all.ids;
  lobs = first_lobs _ store (λ l. refl) all.lobs;
  versions = first_versions _ store (λ l. refl) (λ l. refl) all.versions;
  sound = by_logs store.committed refl;
  rising = all.rising;
}
  where
    by_logs : (ls : List Log) → store.committed ≡ ls → AreSound (purge_begun store)
    by_logs [] e = subst AreDifferent (same e refl) all.sound
      where
        same : store.committed ≡ [] → owned store ≡ owned store → owned store ≡ owned (purge_begun store)
        same e q = ap (λ ms. owned (record store { committed = ms })) e ∙ sym (ap (λ ms. owned (purge_begun (record store { committed = ms }))) e)
    by_logs (l ∷ ls) e = subst AreDifferent (ap (λ ms. owned (record store { committed = ms })) e ∙ sym (ap (λ ms. owned (purge_begun (record store { committed = ms }))) e)) all.sound

-- ---- lists of pages

-- a store stays consistent where the rows get other pages, if no page is owned twice then
pub row_pages_consistent : (pages : List ℕ) (store : Store) → IsConsistent store → AreSound (with_row_pages pages store) → IsConsistent (with_row_pages pages store)
row_pages_consistent pages store all sound = record {
  well = row_pages_well pages store all.well;
  ids = record { some = all.ids.some; logs = all.ids.logs; rows = all.ids.rows; bases = all.ids.bases };
  lobs = all.lobs;
  versions = all.versions;
  sound = sound;
  rising = all.rising;
}

-- the same of other pages for the first committed log
pub pages_left_consistent : (pages : List ℕ) (store : Store) → IsConsistent store → AreSound (log_pages_left pages store) → IsConsistent (log_pages_left pages store)
pages_left_consistent pages store all sound = record {
  well = well_pages pages store all.well;
  ids = ids_first _ store (λ l. refl) (λ l. refl) all.ids;
  lobs = first_lobs _ store (λ l. refl) all.lobs;
  versions = first_versions _ store (λ l. refl) (λ l. refl) all.versions;
  sound = sound;
  rising = all.rising;
}

paged_lobs : (trx : ℕ) (pages : List ℕ) (ls : List Log) → log_lobs (on_log trx (λ l. record l { pages = pages }) ls) ≡ log_lobs ls
paged_lobs trx pages [] = refl
paged_lobs trx pages (l ∷ ls) = by_test (l.trx == trx) (paged_lobs trx pages ls)
  where
    by_test : (b : Bool) → log_lobs (on_log trx (λ l. record l { pages = pages }) ls) ≡ log_lobs ls → log_lobs (if b then (record l { pages = pages }) ∷ ls else l ∷ on_log trx (λ l. record l { pages = pages }) ls) ≡ record_lobs l.records ++ log_lobs ls
    by_test true rest = refl
    by_test false rest = ap (λ ps. record_lobs l.records ++ ps) rest

-- the same of other pages for the active log of a transaction
pub log_pages_consistent : (trx : ℕ) (pages : List ℕ) (store : Store) → IsConsistent store → AreSound (with_log_pages trx pages store) → IsConsistent (with_log_pages trx pages store)
log_pages_consistent trx pages store all sound = record {
  well = log_pages_well trx pages store all.well;
  ids = record {
    some = let r = none_parts 0 store.active store.committed all.ids.some in none_join 0 _ store.committed (none_on trx 0 (λ l. record l { pages = pages }) store.active (λ l. refl) r.0) r.1;
    logs = let r = below_parts store.next_trx store.active store.committed all.ids.logs in below_join store.next_trx _ store.committed (below_on store.next_trx trx (λ l. record l { pages = pages }) store.active (λ l. refl) r.0) r.1;
    rows = λ d. subst (AllIn (λ r. r.trx < store.next_trx) (row_before store d)) (sym (pages_changes trx pages d store)) (all.ids.rows d);
    bases = λ d. none_on trx _ (λ l. record l { pages = pages }) store.active (λ l. refl) (subst (λ cs. NoLog (base_of (row_before store d) cs).trx store.active) (sym (pages_changes trx pages d store)) (all.ids.bases d));
  };
  lobs = λ n. ap (λ ps. times n (row_lobs store.rows ++ (ps ++ log_lobs store.committed))) (paged_lobs trx pages store.active) ∙ all.lobs n;
  versions = λ d. subst (HoldsOf store.lobs (row_before store d)) (sym (pages_changes trx pages d store)) (all.versions d);
  sound = sound;
  rising = all.rising;
}
