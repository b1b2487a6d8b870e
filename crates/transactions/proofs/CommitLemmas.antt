-- A transaction committed.
use Rattle.std.proofs.Common.{◌≡◌, ℕ, suc, List, [], ◌∷◌, ◌++◌, Option, Some, Result, Ok, Err, OnOk, refl, sym, ap, subst, ◌∙◌}
use Rattle.page_model.specs.Pages.{Pages, Address}
use Rattle.page_model.specs.Lists.{IsList}
use Rattle.page_model.specs.Steps.{Becomes}
use Rattle.engine_base.specs.declared.fault.Fault.{Fault}
use Rattle.store_data.specs.Store.{Log, Store}
use Rattle.undo_model.specs.Data.{Log as LogThere}
use Rattle.undo_model.specs.Logs.{IsLog, log_node}
use Rattle.undo_model.specs.LogLists.{AreLogs, AreActive, AreDifferent, pages_in, all_pages, log_nodes, active_base}
use Rattle.undo_model.specs.LogSteps.{marked_committed}
use Rattle.undo_model.specs.Rows.{RowPage}
use Rattle.undo_model.proofs.OptionLemmas.{some_some}
use Rattle.undo_logs.specs.Commits.{CanCommit}
use Rattle.store_model.specs.Steps.{log_of as log_in}
use Rattle.store_model.specs.Events.{committed_by}
use Rattle.store_model.specs.Consistent.{IsConsistent}
use Rattle.store_model.proofs.ConsistentLemmas.{commit_consistent}
use Rattle.store_parts.specs.Shows.{log_of, IsStore}
use Rattle.store_parts.specs.Logs.{CommitsLog}
use Rattle.store_pages.proofs.AllLogsLemmas.{logs_at}
use Rattle.store_pages.proofs.CommitLemmas.{log_committed_rows}
use Rattle.store_steps.specs.Standing.{StandsOn}
use Rattle.transactions.specs.Commits.{Commits}
use Rattle.transactions.proofs.StandLemmas.{stays_on}

-- ---- a log that shows what another one of a list shows may stand in its place

module _ (pages : Pages) (l m : LogThere) (same : log_of l ≡ log_of m) where
  nodes_as : (vs bs : List LogThere) → log_nodes (vs ++ m ∷ bs) ≡ log_nodes (vs ++ l ∷ bs)
  nodes_as [] bs =
      ap (λ (n : ℕ). log_node n ∷ log_nodes bs) (ap (λ (x : Log). x.page) (sym same))
  nodes_as (v ∷ vs) bs = ap (λ (ns : List Address). log_node v.page ∷ ns) (nodes_as vs bs)

  pages_as : (vs bs : List LogThere) → all_pages (vs ++ m ∷ bs) ≡ all_pages (vs ++ l ∷ bs)
  pages_as [] bs = ap (λ (ns : List ℕ). ns ++ all_pages bs) (ap (λ (x : Log). x.pages) (sym same))
  pages_as (v ∷ vs) bs = ap (λ (ns : List ℕ). pages_in v.parts ++ ns) (pages_as vs bs)

  logs_as : IsLog pages l → (vs bs : List LogThere) → AreLogs pages (vs ++ m ∷ bs)
      → AreLogs pages (vs ++ l ∷ bs)
  logs_as there [] bs are = (there, are.1)
  logs_as there (v ∷ vs) bs are = (are.0, logs_as there vs bs are.1)

  active_as : (vs bs : List LogThere) → AreActive (vs ++ m ∷ bs) → AreActive (vs ++ l ∷ bs)
  active_as [] bs are = (ap (λ (x : Log). x.state) same ∙ are.0, are.1)
  active_as (v ∷ vs) bs are = (are.0, active_as vs bs are.1)

pages_with : (vs cs : List LogThere) (l : LogThere) (bs : List LogThere)
    → (vs ++ l ∷ bs) ++ cs ≡ vs ++ l ∷ (bs ++ cs)
pages_with [] cs l bs = refl
pages_with (v ∷ vs) cs l bs = ap (λ (ls : List LogThere). v ∷ ls) (pages_with vs cs l bs)

-- an active log of a store may be committed
pub can_commit : (pages : Pages) (store : Store) (trx : ℕ) (x : Log) (l : LogThere)
    → IsStore pages store → log_in store.active trx ≡ Some x → IsLog pages l → log_of l ≡ x
    → CanCommit l store.commits pages
can_commit pages store trx x l is found there shows =
    let a = logs_at pages store is in
    let f = a.found trx x found in
    let vs = f.before in
    let m = f.log in
    let bs = f.behind in
    let cs = a.logs.committed in
    let same : log_of l ≡ log_of m = shows ∙ sym f.shows in
    let st = a.stands in
    let once : AreDifferent (0 ∷ all_pages (vs ++ m ∷ (bs ++ cs))) =
    subst (λ (ls : List LogThere). AreDifferent (0 ∷ all_pages ls)) (pages_with vs cs m bs)
    (subst (λ (ls : List LogThere). AreDifferent (0 ∷ all_pages (ls ++ cs))) f.here st.once) in
    record {
      logs = record { active = vs ++ l ∷ bs; committed = cs; purged = a.logs.purged };
      stands = record {
        active_list = subst (IsList pages active_base) (nodes_as pages l m same vs bs)
            (subst (λ (ls : List LogThere). IsList pages active_base (log_nodes ls)) f.here
            st.active_list);
        committed_list = st.committed_list;
        active_logs = logs_as pages l m same there vs bs
            (subst (AreLogs pages) f.here st.active_logs);
        committed_logs = st.committed_logs;
        active = active_as pages l m same vs bs (subst AreActive f.here st.active);
        committed = st.committed;
        once = subst (λ (ls : List LogThere). AreDifferent (0 ∷ all_pages ls))
            (sym (pages_with vs cs l bs))
            (subst (λ (ns : List ℕ). AreDifferent (0 ∷ ns)) (pages_as pages l m same vs
            (bs ++ cs)) once);
      };
      before = vs;
      behind = bs;
      here = refl;
      few = a.few;
      counted = a.counted;
    }

-- ---- over told pages

module _ (there : List RowPage) (pages : Pages) (store : Store) (trx : ℕ) (x : Log)
    (on : StandsOn there pages store) (all : IsConsistent store)
    (found : log_in store.active trx ≡ Some x) where
  -- one log that shows it
  pub first_log : (l : LogThere) × IsLog pages l × (log_of l ≡ x)
  first_log =
      let a = logs_at pages store on.is in
      let f = a.found trx x found in
      let st = a.stands in (
        f.log,
        at f.before f.log f.behind (subst (AreLogs pages) f.here st.active_logs),
        f.shows,
      )
    where
      at : (vs : List LogThere) (l : LogThere) (bs : List LogThere) → AreLogs pages (vs ++ l ∷ bs)
          → IsLog pages l
      at [] l bs are = are.0
      at (v ∷ vs) l bs are = at vs l bs are.1

  log_committed : (new : Pages) → ((l : LogThere) → IsLog pages l → log_of l ≡ x
      → (m : LogThere) × CommitsLog l m store.commits pages new) → Commits there trx store new
  log_committed new commits =
      let both = log_committed_rows pages new store trx x on.is found commits in
      record {
        stands = stays_on there pages new store (committed_by trx store) on both.0 both.1;
        consistent = commit_consistent trx store all;
      }

  pub trx_committed : {T : Type 0} (r : Result T Fault) (told : Option Pages)
      → ((l : LogThere) → IsLog pages l → log_of l ≡ x → OnOk r (Becomes told
      (CommitsLog l (marked_committed (suc store.commits) l) store.commits pages)))
      → OnOk r (Becomes told (Commits there trx store))
  trx_committed (Err e) told commits = tt
  trx_committed (Ok t) told commits =
      let l = first_log in
      let new = commits l.0 l.1 l.2 in (
        new.0,
        new.1,
        log_committed new.0 (λ m log shows. (
          marked_committed (suc store.commits) m,
          (let other = commits m log shows in
              subst (CommitsLog m (marked_committed (suc store.commits) m) store.commits pages)
              (some_some other.0 new.0 (sym other.1 ∙ new.1)) other.2),
        )),
      )
