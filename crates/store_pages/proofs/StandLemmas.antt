-- The row pages stand on where another part of a store changes.
use Rattle.std.proofs.Common.{◌≡◌, ℕ, ◌≤◌, List, [], ◌∷◌, Some, arith}
use Rattle.page_model.specs.Pages.{Pages}
use Rattle.page_model.specs.Spans.{Span, SameOutside, AreApart}
use Rattle.page_model.specs.Counts.{times}
use Rattle.page_model.proofs.CountLemmas.{times_here}
use Rattle.store_data.specs.Store.{active, Lob, Log, Store}
use Rattle.lob_model.specs.Places.{whole_page}
use Rattle.lob_model.specs.Lobs.{lob_pages, lob_spans}
use Rattle.undo_model.specs.Data.{Record, Log as LogThere}
use Rattle.undo_model.specs.Logs.{IsLog}
use Rattle.store_model.specs.Lobs.{lob_of}
use Rattle.store_model.specs.Steps.{log_of as log_in}
use Rattle.store_data.specs.Logs.{with_entry}
use Rattle.store_parts.specs.Shows.{IsStore, log_of, record_of}
use Rattle.store_parts.specs.Keeps.{Keeps, AreAsMany}
use Rattle.store_parts.specs.Appends.{AppendsRecord}
use Rattle.store_parts.specs.Logs.{ChangesLog, GivesLog, CommitsLog, ChangesOldest, PurgesLog}
use Rattle.store_parts.proofs.CountLemmas.{on_wider, on_pages}
use Rattle.store_parts.proofs.KeepLemmas.{keeps_take, keeps_give, keeps_write, keeps_then}
use Rattle.store_pages.specs.Lobs.{TakesFor, GivesOf}
use Rattle.store_pages.specs.Stands.{RowsStand}
use Rattle.store_pages.proofs.LogStoreLemmas.{log_at_rows}
use Rattle.store_pages.proofs.OldestLemmas.{oldest_at_rows}
use Rattle.store_pages.proofs.CommitLemmas.{log_committed_rows}
use Rattle.store_pages.proofs.AppendLemmas.{append_changes}
use Rattle.store_pages.proofs.LobStoreLemmas.{lob_rows}

-- ---- logs

pub by_change : (old new : Pages) (store : Store) (trx : ℕ) (x : Log) (f : Log → Log) → IsStore old store → log_in store.active trx ≡ Some x
    → ((l : LogThere) → IsLog old l → log_of l ≡ x → l.state ≡ active → ChangesLog f l old new) → RowsStand old new
by_change old new store trx x f is there changes =
    let b = log_at_rows old store trx x is there in
    b.1.changed new f (changes b.0.log b.0.stands b.0.shows b.0.is_active)

pub by_append : (old new : Pages) (store : Store) (trx roll : ℕ) (x : Log) (r : Record) → IsStore old store → log_in store.active trx ≡ Some x
    → ((l : LogThere) → IsLog old l → log_of l ≡ x → l.state ≡ active → AppendsRecord l r roll old new) → RowsStand old new
by_append old new store trx roll x r is there appends =
    let b = log_at_rows old store trx x is there in
    let a = appends b.0.log b.0.stands b.0.shows b.0.is_active in
    b.1.changed new (with_entry a.at (record_of r)) (append_changes b.0.log r roll old new b.0.stands b.0.is_active a)

pub by_going : (old new : Pages) (store : Store) (trx : ℕ) (x : Log) → IsStore old store → log_in store.active trx ≡ Some x
    → ((l : LogThere) → IsLog old l → log_of l ≡ x → l.state ≡ active → GivesLog l old new) → RowsStand old new
by_going old new store trx x is there gives =
    let b = log_at_rows old store trx x is there in
    b.1.gone new (gives b.0.log b.0.stands b.0.shows b.0.is_active)

pub by_commit : (old new : Pages) (store : Store) (trx : ℕ) (x : Log) → IsStore old store → log_in store.active trx ≡ Some x
    → ((l : LogThere) → IsLog old l → log_of l ≡ x → (m : LogThere) × CommitsLog l m store.commits old new) → RowsStand old new
by_commit old new store trx x is there commits = (log_committed_rows old new store trx x is there commits).1

pub by_purge : (old new : Pages) (store : Store) (x : Log) (xs : List Log) (f : Log → Log) → IsStore old store → store.committed ≡ x ∷ xs
    → ((l : LogThere) → IsLog old l → log_of l ≡ x → ChangesOldest f l old new) → RowsStand old new
by_purge old new store x xs f is there changes =
    let b = oldest_at_rows old store x xs is there in
    b.1.changed new f (changes b.0.log b.0.stands b.0.shows)

pub by_last : (old new : Pages) (store : Store) (x : Log) (xs : List Log) → IsStore old store → store.committed ≡ x ∷ xs
    → ((l : LogThere) → IsLog old l → log_of l ≡ x → PurgesLog l store.purged old new) → RowsStand old new
by_last old new store x xs is there purges =
    let b = oldest_at_rows old store x xs is there in
    b.1.purged new (purges b.0.log b.0.stands b.0.shows)

-- ---- LOBs

none : (ss : List Span) → AreApart ss []
none ss = tt

nowhere : (ms : List ℕ) (n : ℕ) → times n [] ≤ times n ms
nowhere ms n = omega arith

writes : (old new : Pages) (l : Lob) → SameOutside (lob_spans l) old new → Keeps [] (lob_pages l) (lob_pages l) old new
writes old new l same = keeps_write [] (lob_pages l) (lob_spans l) old new (nowhere (lob_pages l)) (none (lob_spans l)) same (on_pages (lob_pages l))

pub by_write : (old new : Pages) (store : Store) (page : ℕ) (l : Lob) → IsStore old store → lob_of store.lobs page ≡ Some l → SameOutside (lob_spans l) old new → RowsStand old new
by_write old new store page l is there same = lob_rows old new store is page l (lob_pages l) there (writes old new l same)

pub by_take : (old new : Pages) (store : Store) (page : ℕ) (l : Lob) (p : ℕ) → IsStore old store → lob_of store.lobs page ≡ Some l → TakesFor l p old new → RowsStand old new
by_take old new store page l p is there steps =
    let own = p ∷ lob_pages l in
    lob_rows old new store is page l own there
    (keeps_then [] (lob_pages l) (lob_pages l) own old steps.written new (writes old steps.written l steps.writes)
    (keeps_then [] (lob_pages l) own own steps.written steps.taken new
    (keeps_take [] (lob_pages l) p steps.written steps.taken (nowhere (lob_pages l)) steps.takes)
    (keeps_write [] own (whole_page p ∷ lob_spans l) steps.taken new (nowhere own) (none (whole_page p ∷ lob_spans l)) steps.fills
    (times_here p (lob_pages l), on_wider (lob_pages l) own (lob_spans l) (λ n. omega arith) (on_pages (lob_pages l))))))

pub by_give : (old new : Pages) (store : Store) (page : ℕ) (l : Lob) (p : ℕ) (own : List ℕ) → IsStore old store → lob_of store.lobs page ≡ Some l → GivesOf l p old new → AreAsMany (lob_pages l) (p ∷ own)
    → RowsStand old new
by_give old new store page l p own is there steps many =
    lob_rows old new store is page l own there
    (keeps_then [] (lob_pages l) (lob_pages l) own old steps.written new (writes old steps.written l steps.writes)
    (keeps_give [] (lob_pages l) own p steps.written new (nowhere (lob_pages l)) (λ n. let m = many n in omega (arith, m)) steps.gives))
