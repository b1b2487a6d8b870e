-- The oldest committed log changed, and gone.
use Rattle.std.proofs.Common.{◌≡◌, ◌≢◌, ℕ, suc, ◌+◌, ◌≤◌, List, [], ◌∷◌, length, refl, sym, ap, subst, ◌∙◌, arith}
use Rattle.page_model.specs.Pages.{Pages}
use Rattle.page_model.specs.Spans.{span}
use Rattle.page_model.specs.Lists.{list_spans}
use Rattle.page_model.specs.Counts.{times}
use Rattle.store_data.specs.Store.{active, committed, Log, Store}
use Rattle.undo_model.specs.Data.{Log as LogThere}
use Rattle.undo_model.specs.LogLists.{pages_in, all_pages, log_nodes, committed_base, AreWaiting, AreCommitted}
use Rattle.store_model.specs.Steps.{all_but_first}
use Rattle.store_model.specs.Undo.{on_first}
use Rattle.store_parts.specs.Stored.{with_committed, out}
use Rattle.store_parts.specs.Standing.{IsStoreBut, AreOutIn}
use Rattle.store_parts.specs.Shows.{log_of, logs_of, AreIn, IsStore}
use Rattle.store_parts.specs.Logs.{ChangesOldest, PurgesLog}
use Rattle.store_pages.specs.Oldest.{OldestAt}
use Rattle.store_pages.specs.Stands.{RowsStand}
use Rattle.store_parts.proofs.CountLemmas.{first_on}
use Rattle.store_pages.proofs.NodeLemmas.{off_none}
use Rattle.store_pages.proofs.PartLemmas.{committed_out, committed_in}
use Rattle.store_parts.proofs.KeepLemmas.{recounted}
use Rattle.store_pages.proofs.CounterLemmas.{purged_set}
use Rattle.store_pages.proofs.LobStoreLemmas.{plus_none, none_out}
use Rattle.store_pages.proofs.LogStoreLemmas.{out_at, all_out, some_parts}
use Rattle.store_pages.proofs.CommittedLemmas as Committed

pub record First (logs : List LogThere) (x : Log) (xs : List Log) : Type 0 where
  pub log : LogThere
  pub rest : List LogThere
  pub cut : logs ≡ log ∷ rest
  pub shows : log_of log ≡ x

abbrev head_or : Log → List Log → Log
head_or d [] = d
head_or d (y ∷ ys) = y

first_log : (logs : List LogThere) (x : Log) (xs : List Log) → logs_of logs ≡ x ∷ xs → First logs x xs
first_log [] x xs is = absurd (cc_none is)
  where
    cc_none : [] ≡ x ∷ xs → ⊥
    cc_none = λ e. cc
first_log (l ∷ ls) x xs is = record { log = l; rest = ls; cut = refl; shows = first_same is }
  where
    first_same : log_of l ∷ logs_of ls ≡ x ∷ xs → log_of l ≡ x
    first_same e = ap (head_or x) e

waiting_committed : (n : ℕ) (ls : List LogThere) → AreWaiting n ls → AreCommitted n ls
waiting_committed n [] are = tt
waiting_committed n (l ∷ ls) are = ((λ e. other (sym are.0 ∙ e)), are.1, are.2)
  where
    other : committed ≢ active
    other = λ e. cc

-- the row pages stand on where it changes, and where it is purged
pub record OldestRows (old : Pages) (l : LogThere) (count : ℕ) : Type 0 where
  pub changed : (new : Pages) (f : Log → Log) → ChangesOldest f l old new → RowsStand old new
  pub purged : (new : Pages) → PurgesLog l count old new → RowsStand old new

-- the oldest committed log stands in pages, and the store changes as it changes there, or is purged;
-- the row pages stand on
pub oldest_at_rows : (old : Pages) (store : Store) (x : Log) (xs : List Log) → IsStore old store → store.committed ≡ x ∷ xs → (a : OldestAt old store x) × OldestRows old a.log store.purged
oldest_at_rows old store x xs is there =
    let s = is.stored in
    let at = first_log s.committed x xs (sym is.shows.committed ∙ there) in
    let l = at.log in
    let ls = at.rest in
    let all_in : AreIn (l ∷ ls) = subst AreIn at.cut is.whole.committed_in in
    let numbers : AreCommitted (suc s.purged) (l ∷ ls) = subst (AreCommitted (suc s.purged)) at.cut is.whole.committed in
    let many : length s.committed ≡ suc (length ls) = ap length at.cut in
    let parts = committed_out [] old s [] l ls all_in.0 (subst (λ ks. IsStoreBut [] old (with_committed ks s)) at.cut is.standing) in
    let rest : IsStoreBut (pages_in l.parts) old (with_committed (out l ∷ ls) s) = recounted _ (pages_in l.parts) old _ (plus_none (pages_in l.parts)) parts.1 in
    let shown : store.committed ≡ log_of l ∷ logs_of ls = is.shows.committed ∙ ap logs_of at.cut in
    let after : (new : Pages) (f : Log → Log) (c : ChangesOldest f l old new) → IsStoreBut (pages_in c.after.parts) new (with_committed (out l ∷ ls) s) =
    λ new f c. c.keeps (with_committed (out l ∷ ls) s) (all_out (l.page ∷ []) s.active is.whole.active_in) (out_at [] l ls all_in) rest in
    let own = pages_in l.parts in
    let s1 = with_committed (out l ∷ ls) s in
    let v = suc store.purged in
    let emptied : (new : Pages) → PurgesLog l store.purged old new → IsStoreBut [] new (record s { purged = v; committed = ls }) =
    λ new c. (
    let un = c.unlinks ls rest.committed_list in
    let here : 1 ≤ times l.page own = first_on old l.page l.parts parts.0.parts in
    let outs : AreOutIn own (out l ∷ ls) = ((λ e. here), all_out own ls all_in.1) in
    let count : (n : ℕ) → times n (all_pages ls) + times n own ≡ times n (all_pages (out l ∷ ls)) + times n own = λ n. refl in
    let st1 : IsStoreBut own c.unlinked (with_committed ls s) =
    Committed.relisted own own (out l ∷ ls) old c.unlinked s1 rest rest.committed (λ n. refl) outs un.1 own ls
    (off_none (list_spans committed_base (log_nodes (out l ∷ ls))) s.active is.whole.active_in) un.0 (λ are. are.1) count in
    let st2 = c.gives (with_committed ls s) (none_out s.active is.whole.active_in) (none_out ls all_in.1) st1 in
    purged_set [] c.given new (with_committed ls s) st2 v c.counts (off_none (span 0 54 8 ∷ []) s.active is.whole.active_in) (off_none (span 0 54 8 ∷ []) ls all_in.1)
    ) in (
      record {
        log = l;
        stands = parts.0;
        shows = at.shows;
        changed = λ new f c.
            let m = c.after in
            record {
              stored = with_committed (m ∷ ls) s;
              standing = committed_in (pages_in m.parts) new s [] (out l) ls [] m refl c.same_page (after new f c) c.stands (λ n. omega arith);
              whole = record {
                active = is.whole.active;
                committed = (c.state, c.number ∙ numbers.1, numbers.2);
                count = (let k = is.whole.count in omega (arith, k, many));
                active_in = is.whole.active_in;
                committed_in = (some_parts new m.page m.parts c.stands.parts, all_in.1);
              };
              shows = record {
                next_trx = is.shows.next_trx;
                commits = is.shows.commits;
                purged = is.shows.purged;
                rising = is.shows.rising;
                rows = is.shows.rows;
                row_pages = is.shows.row_pages;
                active = is.shows.active;
                committed = ap (on_first f) shown ∙ ap (λ (y : Log). y ∷ logs_of ls) (sym c.shows);
                lobs = is.shows.lobs;
              };
            };
        purged = λ new c.
            let same : store.purged ≡ s.purged = is.shows.purged in
            record {
              stored = record s { purged = v; committed = ls };
              standing = emptied new c;
              whole = record {
                active = is.whole.active;
                committed = waiting_committed (suc v) ls (subst (λ n. AreWaiting (suc (suc n)) ls) (sym same) numbers.2);
                count = (let k = is.whole.count in omega (arith, k, many, same));
                active_in = is.whole.active_in;
                committed_in = all_in.1;
              };
              shows = record {
                next_trx = is.shows.next_trx;
                commits = is.shows.commits;
                purged = refl;
                rising = is.shows.rising;
                rows = is.shows.rows;
                row_pages = is.shows.row_pages;
                active = is.shows.active;
                committed = ap all_but_first shown;
                lobs = is.shows.lobs;
              };
            };
      },
      record {
        changed = λ new f c. record { rows = s.rows; before = is.standing.rows; behind = (after new f c).rows };
        purged = λ new c. record { rows = s.rows; before = is.standing.rows; behind = (emptied new c).rows };
      },
    )

pub oldest_at : (old : Pages) (store : Store) (x : Log) (xs : List Log) → IsStore old store → store.committed ≡ x ∷ xs → OldestAt old store x
oldest_at old store x xs is there = (oldest_at_rows old store x xs is there).0
