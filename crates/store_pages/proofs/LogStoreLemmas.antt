-- One active log of a store changed.
use Rattle.std.proofs.Common.{◌≡◌, ◌≢◌, inl, inr, ℕ, ◌+◌, ◌≤◌, Bool, if◌then◌else◌, List, [], ◌∷◌, ◌++◌, Some, refl, sym, ap, subst, ◌∙◌, arith}
use Rattle.std.proofs.lemmas.Bool.Decides.{eqb_tells}
use Rattle.page_model.specs.Pages.{Pages}
use Rattle.page_model.specs.Spans.{SameOutside}
use Rattle.page_model.specs.Lists.{IsList, list_spans}
use Rattle.page_model.specs.Counts.{times}
use Rattle.store_data.specs.Store.{active, Log, Store}
use Rattle.undo_model.specs.Data.{Part, Log as LogThere}
use Rattle.undo_model.specs.Logs.{AreParts}
use Rattle.undo_model.specs.LogLists.{pages_in, all_pages, log_nodes, active_base, AreActive}
use Rattle.undo_model.proofs.OptionLemmas.{some_some, not_some}
use Rattle.store_model.specs.Steps.{on_log, without_log, log_of as log_in_list}
use Rattle.store_parts.specs.Stored.{part_pages, with_active, out}
use Rattle.store_parts.specs.Standing.{IsStoreBut, AreOutIn}
use Rattle.store_parts.specs.Shows.{log_of, logs_of, AreIn, IsStore}
use Rattle.store_parts.specs.Logs.{ChangesLog, GivesLog}
use Rattle.store_pages.specs.Changes.{LogAt}
use Rattle.store_pages.specs.Stands.{RowsStand}
use Rattle.page_model.proofs.CountLemmas.{times_here}
use Rattle.store_parts.proofs.CountLemmas.{first_on}
use Rattle.store_parts.proofs.FrameLemmas.{times-parts}
use Rattle.store_pages.proofs.NodeLemmas.{off_none, there_cut}
use Rattle.store_pages.proofs.RoomLemmas.{can_append}
use Rattle.store_pages.proofs.ActiveLemmas as Active
use Rattle.store_pages.proofs.PartLemmas.{log_out, log_in as put_log, times-logs, nodes_same}
use Rattle.store_parts.proofs.KeepLemmas.{recounted}
use Rattle.store_pages.proofs.LobStoreLemmas.{plus_none, none_out}

-- ---- the log of a transaction

pub record FoundLog (logs : List LogThere) (trx : ℕ) (x : Log) : Type 0 where
  pub before : List LogThere
  pub log : LogThere
  pub after : List LogThere
  pub cut : logs ≡ before ++ log ∷ after
  pub shows : log_of log ≡ x
  pub changed : (f : Log → Log) (m : LogThere) → log_of m ≡ f (log_of log) → on_log trx f (logs_of logs) ≡ logs_of (before ++ m ∷ after)
  pub gone : without_log trx (logs_of logs) ≡ logs_of (before ++ after)

-- a transaction's log that is found is one in the list, where it alone is changed or taken out
pub found_log : (logs : List LogThere) (trx : ℕ) (x : Log) → log_in_list (logs_of logs) trx ≡ Some x → FoundLog logs trx x
found_log [] trx x is = absurd (not_some x is)
found_log (m ∷ ms) trx x is = elim (eqb_tells m.trx trx) [
  | inl same ↦ record {
    before = [];
    log = m;
    after = ms;
    cut = refl;
    shows = some_some (log_of m) x (ap (λ (b : Bool). if b then Some (log_of m) else log_in_list (logs_of ms) trx) (sym same.0) ∙ is);
    changed = λ f n e. ap (λ (b : Bool). if b then f (log_of m) ∷ logs_of ms else log_of m ∷ on_log trx f (logs_of ms)) same.0 ∙ ap (λ y. y ∷ logs_of ms) (sym e);
    gone = ap (λ (b : Bool). if b then logs_of ms else log_of m ∷ without_log trx (logs_of ms)) same.0;
  }
  | inr other ↦ (
      let rest = found_log ms trx x (ap (λ (b : Bool). if b then Some (log_of m) else log_in_list (logs_of ms) trx) (sym other.0) ∙ is) in
      record {
        before = m ∷ rest.before;
        log = rest.log;
        after = rest.after;
        cut = ap (λ ls. m ∷ ls) rest.cut;
        shows = rest.shows;
        changed = λ f n e. ap (λ (b : Bool). if b then f (log_of m) ∷ logs_of ms else log_of m ∷ on_log trx f (logs_of ms)) other.0 ∙ ap (λ ls. log_of m ∷ ls) (rest.changed f n e);
        gone = ap (λ (b : Bool). if b then logs_of ms else log_of m ∷ without_log trx (logs_of ms)) other.0 ∙ ap (λ ls. log_of m ∷ ls) rest.gone;
      }
      )
]

-- ---- facts of all logs, but for one that changes

-- where no log is taken out, each of them has pages
pub in_at : (vs : List LogThere) (l : LogThere) (bs : List LogThere) → AreIn (vs ++ l ∷ bs) → l.parts ≢ []
in_at [] l bs all = all.0
in_at (v ∷ vs) l bs all = in_at vs l bs all.1

in_set : (vs : List LogThere) (l m : LogThere) (bs : List LogThere) → m.parts ≢ [] → AreIn (vs ++ l ∷ bs) → AreIn (vs ++ m ∷ bs)
in_set [] l m bs some all = (some, all.1)
in_set (v ∷ vs) l m bs some all = (all.0, in_set vs l m bs some all.1)

-- with one log taken out, those that are begin in its first page
pub out_at : (vs : List LogThere) (l : LogThere) (bs : List LogThere) → AreIn (vs ++ l ∷ bs) → AreOutIn (l.page ∷ []) (vs ++ out l ∷ bs)
out_at [] l bs all = ((λ is. times_here l.page []), wider bs all.1)
  where
    wider : (ls : List LogThere) → AreIn ls → AreOutIn (l.page ∷ []) ls
    wider [] are = tt
    wider (k ∷ ks) are = ((λ is. absurd (are.0 is)), wider ks are.1)
out_at (v ∷ vs) l bs all = ((λ is. absurd (all.0 is)), out_at vs l bs all.1)

-- where no log is taken out, those that are begin in whatever pages
pub all_out : (firsts : List ℕ) (ls : List LogThere) → AreIn ls → AreOutIn firsts ls
all_out firsts [] are = tt
all_out firsts (k ∷ ks) are = ((λ is. absurd (are.0 is)), all_out firsts ks are.1)

active_at : (vs : List LogThere) (l : LogThere) (bs : List LogThere) → AreActive (vs ++ l ∷ bs) → l.state ≡ active
active_at [] l bs all = all.0
active_at (v ∷ vs) l bs all = active_at vs l bs all.1

active_set : (vs : List LogThere) (l m : LogThere) (bs : List LogThere) → m.state ≡ active → AreActive (vs ++ l ∷ bs) → AreActive (vs ++ m ∷ bs)
active_set [] l m bs is all = (is, all.1)
active_set (v ∷ vs) l m bs is all = (all.0, active_set vs l m bs is all.1)

-- a log that stands in pages has at least one
pub some_parts : (pages : Pages) (first : ℕ) (parts : List Part) → AreParts pages first parts → parts ≢ []
some_parts pages first [] are = absurd are
some_parts pages first (p ∷ older) are = λ e. cc

-- where no log is taken out, none is without one of them in the list
pub in_cut : (vs : List LogThere) (l : LogThere) (bs : List LogThere) → AreIn (vs ++ l ∷ bs) → AreIn (vs ++ bs)
in_cut [] l bs all = all.1
in_cut (v ∷ vs) l bs all = (all.0, in_cut vs l bs all.1)

-- where all logs are active, all are without one of them in the list
pub active_cut : (vs : List LogThere) (l : LogThere) (bs : List LogThere) → AreActive (vs ++ l ∷ bs) → AreActive (vs ++ bs)
active_cut [] l bs all = all.1
active_cut (v ∷ vs) l bs all = (all.0, active_cut vs l bs all.1)

-- where one log at most is taken out, which begins in an own page, those taken out begin in these
pub outs_at : (own : List ℕ) (vs : List LogThere) (m : LogThere) (bs : List LogThere) → 1 ≤ times m.page own → AreIn vs → AreIn bs → AreOutIn own (vs ++ m ∷ bs)
outs_at own [] m bs here all more = ((λ is. here), all_out own bs more)
outs_at own (v ∷ vs) m bs here all more = ((λ is. absurd (all.0 is)), outs_at own vs m bs here all.1 more)

-- where no log is taken out, none of those before one is
pub in_before : (vs : List LogThere) (l : LogThere) (bs : List LogThere) → AreIn (vs ++ l ∷ bs) → AreIn vs
in_before [] l bs all = tt
in_before (v ∷ vs) l bs all = (all.0, in_before vs l bs all.1)

-- and none of those behind it
pub in_behind : (vs : List LogThere) (l : LogThere) (bs : List LogThere) → AreIn (vs ++ l ∷ bs) → AreIn bs
in_behind [] l bs all = all.1
in_behind (v ∷ vs) l bs all = in_behind vs l bs all.1

-- ---- in a store

-- the row pages stand on where a log changes, and where it goes
pub record LogRows (old : Pages) (l : LogThere) : Type 0 where
  pub changed : (new : Pages) (f : Log → Log) → ChangesLog f l old new → RowsStand old new
  pub gone : (new : Pages) → GivesLog l old new → RowsStand old new

-- a transaction's active log stands in pages, and the store changes as it changes there; the row
-- pages stand on
pub log_at_rows : (old : Pages) (store : Store) (trx : ℕ) (x : Log) → IsStore old store → log_in_list store.active trx ≡ Some x → (a : LogAt old store trx x) × LogRows old a.log
log_at_rows old store trx x is there =
    let s = is.stored in
    let at = found_log s.active trx x (ap (λ ls. log_in_list ls trx) (sym is.shows.active) ∙ there) in
    let l = at.log in
    let held_in : (n : ℕ) → times n (pages_in l.parts) ≤ times n (part_pages s) = λ n. (let p = times-parts n s in let a : times n (all_pages s.active) ≡ times n (all_pages (at.before ++ l ∷ at.after)) = ap (λ ls. times n (all_pages ls)) at.cut in
    let b = times-logs n at.before l at.after in omega (arith, p, a, b)) in
    let is_active : l.state ≡ active = active_at at.before l at.after (subst AreActive at.cut is.whole.active) in
    let all_in : AreIn (at.before ++ l ∷ at.after) = subst AreIn at.cut is.whole.active_in in
    let parts = log_out [] old s at.before l at.after (in_at at.before l at.after all_in) (subst (λ ls. IsStoreBut [] old (with_active ls s)) at.cut is.standing) in
    let rest : IsStoreBut (pages_in l.parts) old (with_active (at.before ++ out l ∷ at.after) s) = recounted _ (pages_in l.parts) old _ (plus_none (pages_in l.parts)) parts.1 in
    let after : (new : Pages) (f : Log → Log) (c : ChangesLog f l old new) → IsStoreBut (pages_in c.after.parts) new (with_active (at.before ++ out l ∷ at.after) s) =
    λ new f c. c.keeps (with_active (at.before ++ out l ∷ at.after) s) (out_at at.before l at.after all_in) (all_out (l.page ∷ []) s.committed is.whole.committed_in) rest in
    let vs = at.before in
    let bs = at.after in
    let own = pages_in l.parts in
    let left_in = in_cut vs l bs all_in in
    let emptied : (new : Pages) → GivesLog l old new → IsStoreBut [] new (with_active (vs ++ bs) s) =
    λ new c. (
    let nodes = nodes_same vs (out l) l bs refl in
    let un = c.unlinks vs bs (subst (IsList old active_base) nodes rest.active_list) in
    let here : 1 ≤ times l.page own = first_on old l.page l.parts parts.0.parts in
    let count : (n : ℕ) → times n (all_pages (vs ++ bs)) + times n own ≡ times n (all_pages (vs ++ out l ∷ bs)) + times n own = λ n. (let a = times-logs n vs (out l) bs in omega (arith, a)) in
    let st1 : IsStoreBut own c.unlinked (with_active (vs ++ bs) s) =
    Active.relisted own own (vs ++ out l ∷ bs) old c.unlinked (with_active (vs ++ out l ∷ bs) s) rest rest.active (λ n. refl) (outs_at own vs (out l) bs here (in_before vs l bs all_in) (in_behind vs l bs all_in))
    (subst (λ ns. SameOutside (list_spans active_base ns) old c.unlinked) (sym nodes) un.1)
    own (vs ++ bs) (off_none (list_spans active_base (log_nodes (vs ++ out l ∷ bs))) s.committed is.whole.committed_in) un.0 (there_cut c.unlinked vs (out l) bs) count in
    c.gives (with_active (vs ++ bs) s) (none_out (vs ++ bs) left_in) (none_out s.committed is.whole.committed_in) st1
    ) in (
      record {
        log = l;
        stands = parts.0;
        room = can_append old s l is.standing parts.0 is_active held_in;
        shows = at.shows;
        is_active = is_active;
        changed = λ new f c.
            let m = c.after in
            record {
              stored = with_active (at.before ++ m ∷ at.after) s;
              standing = put_log (pages_in m.parts) new s at.before (out l) at.after [] m refl c.same_page (after new f c) c.stands (λ n. omega arith);
              whole = record {
                active = active_set at.before l m at.after c.is_active (subst AreActive at.cut is.whole.active);
                committed = is.whole.committed;
                count = is.whole.count;
                active_in = in_set at.before l m at.after (some_parts new m.page m.parts c.stands.parts) all_in;
                committed_in = is.whole.committed_in;
              };
              shows = record {
                next_trx = is.shows.next_trx;
                commits = is.shows.commits;
                purged = is.shows.purged;
                rising = is.shows.rising;
                rows = is.shows.rows;
                row_pages = is.shows.row_pages;
                active = ap (λ ls. on_log trx f ls) is.shows.active ∙ at.changed f m c.shows;
                committed = is.shows.committed;
                lobs = is.shows.lobs;
              };
            };
        gone = λ new c.
            record {
              stored = with_active (vs ++ bs) s;
              standing = emptied new c;
              whole = record {
                active = active_cut vs l bs (subst AreActive at.cut is.whole.active);
                committed = is.whole.committed;
                count = is.whole.count;
                active_in = left_in;
                committed_in = is.whole.committed_in;
              };
              shows = record {
                next_trx = is.shows.next_trx;
                commits = is.shows.commits;
                purged = is.shows.purged;
                rising = is.shows.rising;
                rows = is.shows.rows;
                row_pages = is.shows.row_pages;
                active = ap (λ ls. without_log trx ls) is.shows.active ∙ at.gone;
                committed = is.shows.committed;
                lobs = is.shows.lobs;
              };
            };
      },
      record {
        changed = λ new f c. record { rows = s.rows; before = is.standing.rows; behind = (after new f c).rows };
        gone = λ new c. record { rows = s.rows; before = is.standing.rows; behind = (emptied new c).rows };
      },
    )

pub log_at : (old : Pages) (store : Store) (trx : ℕ) (x : Log) → IsStore old store → log_in_list store.active trx ≡ Some x → LogAt old store trx x
log_at old store trx x is there = (log_at_rows old store trx x is there).0
