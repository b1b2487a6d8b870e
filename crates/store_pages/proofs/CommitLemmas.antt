-- An active log committed.
use Rattle.std.proofs.Common.{◌≡◌, ◌≢◌, inl, ℕ, suc, ◌+◌, ◌≤◌, List, [], ◌∷◌, ◌++◌, length, Some, refl, sym, ap, ap₂, subst, ◌∙◌, arith}
use Rattle.std.proofs.lemmas.List.{length-append}
use Rattle.page_model.specs.Pages.{Pages}
use Rattle.page_model.specs.Spans.{span, AreApart, SameOutside, SetsField}
use Rattle.page_model.specs.Lists.{IsList, list_spans}
use Rattle.page_model.specs.Counts.{times}
use Rattle.store_data.specs.Store.{active, committed, Log, Store}
use Rattle.undo_model.specs.Data.{Log as LogThere}
use Rattle.undo_model.specs.Logs.{IsLog}
use Rattle.undo_model.specs.LogLists.{pages_in, all_pages, log_nodes, active_base, committed_base, AreActive, AreWaiting, AreCommitted}
use Rattle.store_model.specs.Steps.{log_of as log_in_list}
use Rattle.store_model.specs.Events.{moved, committed_by}
use Rattle.store_parts.specs.Stored.{with_active, with_committed, with_counters, out}
use Rattle.store_parts.specs.Standing.{IsOut, AreThere, IsStoreBut, AreOutIn}
use Rattle.store_parts.specs.Shows.{log_of, logs_of, Shows, AreIn, IsStore}
use Rattle.store_parts.specs.Keeps.{first_nodes}
use Rattle.store_parts.specs.Logs.{CommitsLog}
use Rattle.page_model.proofs.CountLemmas.{times_here}
use Rattle.store_parts.proofs.CountLemmas.{first_on}
use Rattle.store_pages.specs.Stands.{RowsStand}
use Rattle.store_pages.proofs.NodeLemmas.{off_none, there_cut}
use Rattle.store_parts.proofs.MoveLemmas.{not_zero}
use Rattle.store_pages.proofs.PartLemmas.{log_out, committed_in, times-logs, nodes_same}
use Rattle.store_parts.proofs.KeepLemmas.{recounted, off_firsts}
use Rattle.store_pages.proofs.CounterLemmas.{commits_set}
use Rattle.store_pages.proofs.LobStoreLemmas.{plus_none}
use Rattle.store_pages.proofs.LogStoreLemmas.{found_log, in_at, out_at, all_out, some_parts, in_cut, active_cut, outs_at, in_before, in_behind}
use Rattle.store_pages.proofs.ActiveLemmas as Active
use Rattle.store_pages.proofs.CommittedLemmas as Committed

-- ---- lists of logs

in_end : (vs : List LogThere) (m : LogThere) → m.parts ≢ [] → AreIn vs → AreIn (vs ++ m ∷ [])
in_end [] m some all = (some, tt)
in_end (v ∷ vs) m some all = (all.0, in_end vs m some all.1)

there_end : (pages : Pages) (vs : List LogThere) (m : LogThere) → IsOut m → AreThere pages vs → AreThere pages (vs ++ m ∷ [])
there_end pages [] m is are = (inl is, tt)
there_end pages (v ∷ vs) m is are = (are.0, there_end pages vs m is are.1)

outs_end : (own : List ℕ) (vs : List LogThere) (m : LogThere) → 1 ≤ times m.page own → AreIn vs → AreOutIn own (vs ++ m ∷ [])
outs_end own [] m here all = ((λ is. here), tt)
outs_end own (v ∷ vs) m here all = ((λ is. absurd (all.0 is)), outs_end own vs m here all.1)

logs_end : (vs : List LogThere) (m : LogThere) → logs_of (vs ++ m ∷ []) ≡ logs_of vs ++ log_of m ∷ []
logs_end [] m = refl
logs_end (v ∷ vs) m = ap (λ ls. log_of v ∷ ls) (logs_end vs m)

waiting_end : (n : ℕ) (vs : List LogThere) (m : LogThere) → m.state ≡ committed → m.commit ≡ n + length vs → AreWaiting n vs → AreWaiting n (vs ++ m ∷ [])
waiting_end n [] m state number all = (state, omega (arith, number), tt)
waiting_end n (v ∷ vs) m state number all = (all.0, all.1, waiting_end (suc n) vs m state (omega (arith, number)) all.2)

committed_end : (n : ℕ) (vs : List LogThere) (m : LogThere) → m.state ≡ committed → m.commit ≡ n + length vs → AreCommitted n vs → AreCommitted n (vs ++ m ∷ [])
committed_end n [] m state number all = ((λ e. other (sym state ∙ e)), omega (arith, number), tt)
  where
    other : committed ≢ active
    other = λ e. cc
committed_end n (v ∷ vs) m state number all = (all.0, all.1, waiting_end (suc n) vs m state (omega (arith, number)) all.2)

-- ---- in a store

-- where its active log is committed in the pages, a transaction is committed in the store, and the
-- row pages stand on
pub log_committed_rows : (old new : Pages) (store : Store) (trx : ℕ) (x : Log) → IsStore old store → log_in_list store.active trx ≡ Some x
    → ((l : LogThere) → IsLog old l → log_of l ≡ x → (m : LogThere) × CommitsLog l m store.commits old new) → IsStore new (committed_by trx store) × RowsStand old new
log_committed_rows old new store trx x is there commits =
    let s = is.stored in
    let at = found_log s.active trx x (ap (λ ls. log_in_list ls trx) (sym is.shows.active) ∙ there) in
    let l = at.log in
    let vs = at.before in
    let bs = at.after in
    let all_in : AreIn (vs ++ l ∷ bs) = subst AreIn at.cut is.whole.active_in in
    let left_in = in_cut vs l bs all_in in
    let parts = log_out [] old s vs l bs (in_at vs l bs all_in) (subst (λ ls. IsStoreBut [] old (with_active ls s)) at.cut is.standing) in
    let given = commits l parts.0 at.shows in
    let m = given.0 in
    let c = given.1 in
    let own = pages_in m.parts in
    let s1 = with_active (vs ++ out l ∷ bs) s in
    let st0 : IsStoreBut (pages_in l.parts) old s1 = recounted _ (pages_in l.parts) old s1 (plus_none (pages_in l.parts)) parts.1 in
    let st1 : IsStoreBut own c.written s1 = c.writes s1 (out_at vs l bs all_in) (all_out (l.page ∷ []) s.committed is.whole.committed_in) st0 in
    let first : 1 ≤ times m.page own = first_on new m.page m.parts c.stands.parts in
    let first_l : 1 ≤ times l.page own = subst (λ n. 1 ≤ times n own) c.same_page first in
    let nodes = nodes_same vs (out l) l bs refl in
    let un = c.unlinks vs bs (subst (IsList c.written active_base) nodes st1.active_list) in
    let count1 : (n : ℕ) → times n (all_pages (vs ++ bs)) + times n own ≡ times n (all_pages (vs ++ out l ∷ bs)) + times n own = λ n. (let a = times-logs n vs (out l) bs in omega (arith, a)) in
    let st2 : IsStoreBut own c.unlinked (with_active (vs ++ bs) s) =
    Active.relisted own own (vs ++ out l ∷ bs) c.written c.unlinked s1 st1 st1.active (λ n. refl) (outs_at own vs (out l) bs first_l (in_before vs l bs all_in) (in_behind vs l bs all_in))
    (subst (λ ns. SameOutside (list_spans active_base ns) c.written c.unlinked) (sym nodes) un.1)
    own (vs ++ bs) (off_none (list_spans active_base (log_nodes (vs ++ out l ∷ bs))) s.committed is.whole.committed_in) un.0 (there_cut c.unlinked vs (out l) bs) count1 in
    let s2 = with_active (vs ++ bs) s in
    let ends = s.committed ++ out m ∷ [] in
    let nodes' = nodes_same s.committed m (out m) [] refl in
    let li = c.links s.committed st2.committed_list in
    let list' : IsList c.linked committed_base (log_nodes ends) = subst (IsList c.linked committed_base) nodes' li.0 in
    let count2 : (n : ℕ) → times n (all_pages ends) + times n own ≡ times n (all_pages s.committed) + times n own = λ n. (let a = times-logs n s.committed (out m) [] in let b = same_end n s.committed in omega (arith, a, b)) in
    let st3 : IsStoreBut own c.linked (with_committed ends s2) =
    Committed.relisted own own ends c.unlinked c.linked s2 st2 (there_end c.unlinked s.committed (out m) refl st2.committed) count2 (outs_end own s.committed (out m) first is.whole.committed_in)
    (subst (λ ns. SameOutside (list_spans committed_base ns) c.unlinked c.linked) nodes' li.1)
    own ends (off_none (list_spans committed_base (log_nodes ends)) (vs ++ bs) left_in) list' (λ y. y) count2 in
    let s3 = with_committed ends s2 in
    let off : AreApart (span 0 46 8 ∷ []) (first_nodes (m.page ∷ [])) = ((inl (far own m.page first (not_zero own c.linked s3 st3)), tt), tt) in
    let sets : SetsField 0 46 8 (suc store.commits) c.linked new = c.counts in
    let st4 : IsStoreBut own new (with_counters s.next_trx (suc store.commits) s.purged s3) =
    commits_set own c.linked new s3 st3 (suc store.commits) sets (off_none (span 0 46 8 ∷ []) (vs ++ bs) left_in)
    (off_firsts (m.page ∷ []) (span 0 46 8 ∷ []) ends off (outs_end (m.page ∷ []) s.committed (out m) (times_here m.page []) is.whole.committed_in)) in
    let counted = is.shows.commits ∙ is.whole.count in (
      record {
        stored = with_counters s.next_trx (suc store.commits) s.purged (with_committed (s.committed ++ m ∷ []) s2);
        standing = committed_in own new (with_counters s.next_trx (suc store.commits) s.purged s2) s.committed (out m) [] [] m refl refl st4 c.stands (λ n. omega arith);
        whole = record {
          active = active_cut vs l bs (subst AreActive at.cut is.whole.active);
          committed = committed_end (suc s.purged) s.committed m c.state (let n = c.number in omega (arith, n, counted)) is.whole.committed;
          count = (let a = length-append s.committed (m ∷ []) in omega (arith, counted, a));
          active_in = left_in;
          committed_in = in_end s.committed m (some_parts new m.page m.parts c.stands.parts) is.whole.committed_in;
        };
        shows = subst (λ o. Shows (with_counters s.next_trx (suc store.commits) s.purged (with_committed (s.committed ++ m ∷ []) s2)) (moved trx o store)) (sym there) (record {
          next_trx = is.shows.next_trx;
          commits = refl;
          purged = is.shows.purged;
          rising = is.shows.rising;
          rows = is.shows.rows;
          row_pages = is.shows.row_pages;
          active = ap (λ ls. Rattle.store_model.specs.Steps.without_log trx ls) is.shows.active ∙ at.gone;
          committed = ap₂ (λ ls (y : Log). ls ++ y ∷ []) is.shows.committed (ap (λ (y : Log). let z : Log = record y { state = committed; number = suc store.commits } in z) (sym at.shows) ∙ sym c.shows) ∙ sym (logs_end s.committed m);
          lobs = is.shows.lobs;
        });
      },
      record { rows = s.rows; before = is.standing.rows; behind = st4.rows },
    )
  where
    same_end : (n : ℕ) (ls : List LogThere) → times n (all_pages (ls ++ [])) ≡ times n (all_pages ls)
    same_end n ls = ap (λ ks. times n (all_pages ks)) (append_none ls)
      where
        append_none : (ks : List LogThere) → ks ++ [] ≡ ks
        append_none [] = refl
        append_none (k ∷ ks) = ap (λ js. k ∷ js) (append_none ks)

    far : (own : List ℕ) (n : ℕ) → 1 ≤ times n own → times 0 own ≡ 0 → n ≢ 0
    far own n some none e = absurd (no (let c : times n own ≡ times 0 own = ap (λ k. times k own) e in omega (arith, none, c, some)))
      where
        no : 1 ≤ 0 → ⊥
        no h = absurd (omega arith)

pub log_committed : (old new : Pages) (store : Store) (trx : ℕ) (x : Log) → IsStore old store → log_in_list store.active trx ≡ Some x
    → ((l : LogThere) → IsLog old l → log_of l ≡ x → (m : LogThere) × CommitsLog l m store.commits old new) → IsStore new (committed_by trx store)
log_committed old new store trx x is there commits = (log_committed_rows old new store trx x is there commits).0
