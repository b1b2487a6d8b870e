-- The first committed log of a store in pages: what its calls ask for, and the store as it changes.
use Rattle.std.proofs.Common.{◌≡◌, ◌≢◌, ℕ, suc, ◌+◌, ◌≤◌, List, [], ◌∷◌, ◌++◌, length, refl, sym, ap, subst, ◌∙◌, arith}
use Rattle.std.proofs.lemmas.List.{length-append}
use Rattle.page_model.specs.Pages.{Pages, Address, field}
use Rattle.page_model.specs.Spans.{span}
use Rattle.page_model.specs.Lists.{IsList, list_spans}
use Rattle.page_model.specs.Counts.{times}
use Rattle.page_model.proofs.CountLemmas.{times_here, times-append, few_pages}
use Rattle.page_space.specs.Map.{IsUsed}
use Rattle.store_data.specs.Store.{active, committed, Log, Store}
use Rattle.undo_model.specs.Data.{Part, Log as LogThere}
use Rattle.undo_model.specs.Logs.{IsLog, node_of, nodes_in}
use Rattle.undo_model.specs.LogLists.{pages_in, all_pages, log_nodes, committed_base, AreWaiting, AreCommitted}
use Rattle.undo_model.specs.Rows.{RowPage}
use Rattle.store_model.specs.Steps.{all_but_first}
use Rattle.store_model.specs.Undo.{on_first, on_oldest, log_purged}
use Rattle.store_parts.specs.Appends.{AreUsed, CanOpen}
use Rattle.store_parts.specs.Stored.{Stored, part_pages, with_committed, out}
use Rattle.store_parts.specs.Standing.{mark, IsStoreBut, AreOutIn}
use Rattle.store_parts.specs.Shows.{log_of, logs_of, AreIn}
use Rattle.store_parts.specs.Logs.{ChangesOldest, PurgesLog}
use Rattle.store_parts.proofs.CountLemmas.{mark_small, first_on}
use Rattle.store_parts.proofs.FrameLemmas.{times-parts}
use Rattle.store_parts.proofs.MoveLemmas.{marked}
use Rattle.store_parts.proofs.KeepLemmas.{recounted}
use Rattle.store_pages.proofs.NodeLemmas.{off_none}
use Rattle.store_pages.proofs.PartLemmas.{committed_out, committed_in}
use Rattle.store_pages.proofs.CounterLemmas.{purged_set}
use Rattle.store_pages.proofs.LobStoreLemmas.{plus_none, none_out}
use Rattle.store_pages.proofs.LogStoreLemmas.{out_at, all_out, some_parts}
use Rattle.store_pages.proofs.CommittedLemmas as Committed
use Rattle.store_steps.specs.Standing.{StandsOn}

-- ---- the first of the logs

pub record First (logs : List LogThere) (x : Log) (xs : List Log) : Type 0 where
  pub log : LogThere
  pub rest : List LogThere
  pub cut : logs ≡ log ∷ rest
  pub shows : log_of log ≡ x

abbrev head_or : Log → List Log → Log
head_or d [] = d
head_or d (y ∷ ys) = y

first_log : (logs : List LogThere) (x : Log) (xs : List Log) → logs_of logs ≡ x ∷ xs
    → First logs x xs
first_log [] x xs is = absurd (let e : [] ≡ x ∷ xs = is in cc)
first_log (l ∷ ls) x xs is =
    record { log = l; rest = ls; cut = refl; shows = ap (head_or x) is }

waiting_committed : (n : ℕ) (ls : List LogThere) → AreWaiting n ls → AreCommitted n ls
waiting_committed n [] are = tt
waiting_committed n (l ∷ ls) are = ((λ e. other (sym are.0 ∙ e)), are.1, are.2)
  where
    other : committed ≢ active
    other = λ e. cc

-- ---- its pages

length_nodes : (parts : List Part) → length (nodes_in parts) ≡ length (pages_in parts)
length_nodes [] = refl
length_nodes (p ∷ older) =
    let a = length-append (nodes_in older) (node_of p.page ∷ []) in
    let r = length_nodes older in
    omega (arith, a, r)

used_nodes : (pages : Pages) (parts : List Part)
    → ((n : ℕ) → 1 ≤ times n (pages_in parts) → (n ≢ 0) × IsUsed pages n)
    → AreUsed pages (nodes_in parts)
used_nodes pages [] used = tt
used_nodes pages (p ∷ older) used =
    join (nodes_in older) (used_nodes pages older (λ n h. used n (omega (arith, h))))
  where
    join : (xs : List Address) → AreUsed pages xs → AreUsed pages (xs ++ node_of p.page ∷ [])
    join [] are = let u = used p.page (times_here p.page (pages_in older)) in (u.0, u.1, tt)
    join (x ∷ xs) are = (are.0, are.1, join xs are.2)

-- a log that stands in a store has room for a page more, and so for one less
can_open : (pages : Pages) (s : Stored) (l : LogThere) → IsStoreBut [] pages s → IsLog pages l
    → ((n : ℕ) → times n (pages_in l.parts) ≤ times n (part_pages s))
    → CanOpen l.page (nodes_in l.parts) pages
can_open pages s l st log within =
    let of_mark : (n : ℕ) → 1 ≤ times n (pages_in l.parts) → 1 ≤ mark pages n =
    λ n h. (let m = st.marks n in let w = within n in omega (arith, m, w, h)) in
    let zero_used : IsUsed pages 0 =
    (marked pages 0 (let m = st.marks 0 in let h = times_here 0 [] in omega (arith, m, h))).1 in
    let once : (n : ℕ) → times n (pages_in l.parts) ≤ 1 =
    λ n. (let m = st.marks n in let w = within n in let k = mark_small pages n in
    omega (arith, m, w, k)) in
    let few = few_pages (length pages) (pages_in l.parts) once
    (λ n h. (marked pages n (of_mark n h)).0) in
    let first = first_on pages l.page l.parts log.parts in
    record {
      list = log.list;
      map = st.map;
      used = used_nodes pages l.parts
          (λ n h. (not_zero n h, (marked pages n (of_mark n h)).1));
      system = zero_used;
      few = (let e = length_nodes l.parts in let m = st.map.size.few in omega (arith, few, e, m));
      log_used = (marked pages l.page (of_mark l.page first)).1;
      log_other = not_zero l.page first;
    }
  where
    none : times 0 (pages_in l.parts) ≡ 0
    none = let m = st.marks 0 in let w = within 0 in let k = mark_small pages 0 in
        let h = times_here 0 [] in omega (arith, m, w, k, h)

    not_zero : (n : ℕ) → 1 ≤ times n (pages_in l.parts) → n ≢ 0
    not_zero n some e = absurd (no (let c : times n (pages_in l.parts) ≡ times 0 (pages_in l.parts) =
        ap (λ k. times k (pages_in l.parts)) e in omega (arith, none, c, some)))
      where
        no : 1 ≤ 0 → ⊥
        no x = absurd (omega arith)

-- ---- in a store

pub record FirstAt (there : List RowPage) (old : Pages) (store : Store) (x : Log) : Type 0 where
  pub log : LogThere
  pub rest : List LogThere
  pub stands : IsLog old log
  pub shows : log_of log ≡ x
  pub state : log.state ≢ active
  pub room : CanOpen log.page (nodes_in log.parts) old
  pub list : IsList old committed_base (log_nodes (log ∷ rest))
  pub counted : field old 0 54 8 ≡ store.purged
  pub below : suc store.purged ≤ store.commits
  pub changed : (new : Pages) (f : Log → Log) → ChangesOldest f log old new
      → StandsOn there new (on_oldest f store)
  pub purged : (new : Pages) → PurgesLog log store.purged old new
      → StandsOn there new (log_purged store)

-- the first committed log stands in pages, and the store changes as it changes there, or is purged;
-- the rows stay in their slots
pub first_at : (there : List RowPage) (old : Pages) (store : Store) (x : Log) (xs : List Log)
    → StandsOn there old store → store.committed ≡ x ∷ xs → FirstAt there old store x
first_at there old store x xs on first =
    let is = on.is in
    let s = is.stored in
    let at = first_log s.committed x xs (sym is.shows.committed ∙ first) in
    let l = at.log in
    let ls = at.rest in
    let all_in : AreIn (l ∷ ls) = subst AreIn at.cut is.whole.committed_in in
    let numbers : AreCommitted (suc s.purged) (l ∷ ls) =
    subst (AreCommitted (suc s.purged)) at.cut is.whole.committed in
    let many : length s.committed ≡ suc (length ls) = ap length at.cut in
    let parts = committed_out [] old s [] l ls all_in.0
    (subst (λ ks. IsStoreBut [] old (with_committed ks s)) at.cut is.standing) in
    let rest : IsStoreBut (pages_in l.parts) old (with_committed (out l ∷ ls) s) =
    recounted _ (pages_in l.parts) old _ (plus_none (pages_in l.parts)) parts.1 in
    let shown : store.committed ≡ log_of l ∷ logs_of ls = is.shows.committed ∙ ap logs_of at.cut in
    let within : (n : ℕ) → times n (pages_in l.parts) ≤ times n (part_pages s) =
    λ n. (let p = times-parts n s in
    let a : times n (all_pages s.committed) ≡ times n (all_pages (l ∷ ls)) =
    ap (λ ks. times n (all_pages ks)) at.cut in
    let b = times_all n l ls in omega (arith, p, a, b)) in
    record {
      log = l;
      rest = ls;
      stands = parts.0;
      shows = at.shows;
      state = numbers.0;
      room = can_open old s l is.standing parts.0 within;
      list = subst (λ ks. IsList old committed_base (log_nodes ks)) at.cut is.standing.committed_list;
      counted = is.standing.system.purged ∙ sym is.shows.purged;
      below = (let k = is.whole.count in let a = is.shows.purged in let b = is.shows.commits in
          omega (arith, k, many, a, b));
      changed = λ new f c.
          let m = c.after in
          let after = c.keeps (with_committed (out l ∷ ls) s)
          (all_out (l.page ∷ []) s.active is.whole.active_in) (out_at [] l ls all_in) rest in
          record {
            is = record {
              stored = with_committed (m ∷ ls) s;
              standing = committed_in (pages_in m.parts) new s [] (out l) ls [] m refl c.same_page after
                  c.stands (λ n. omega arith);
              whole = record {
                active = is.whole.active;
                committed = (c.state, c.number ∙ numbers.1, numbers.2);
                count = (let k = is.whole.count in omega (arith, k, many));
                active_in = is.whole.active_in;
                committed_in = (some_parts new m.page m.parts c.stands.parts, all_in.1);
              };
              shows = record {
                next_trx = is.shows.next_trx;
                commits = is.shows.commits;
                purged = is.shows.purged;
                rising = is.shows.rising;
                rows = is.shows.rows;
                row_pages = is.shows.row_pages;
                active = is.shows.active;
                committed = ap (on_first f) shown ∙ ap (λ (y : Log). y ∷ logs_of ls) (sym c.shows);
                lobs = is.shows.lobs;
              };
            };
            slots = on.slots;
          };
      purged = λ new c.
          let own = pages_in l.parts in
          let s1 = with_committed (out l ∷ ls) s in
          let un = c.unlinks ls rest.committed_list in
          let here : 1 ≤ times l.page own = first_on old l.page l.parts parts.0.parts in
          let outs : AreOutIn own (out l ∷ ls) = ((λ e. here), all_out own ls all_in.1) in
          let count : (n : ℕ) → times n (all_pages ls) + times n own
          ≡ times n (all_pages (out l ∷ ls)) + times n own = λ n. refl in
          let st1 : IsStoreBut own c.unlinked (with_committed ls s) =
          Committed.relisted own own (out l ∷ ls) old c.unlinked s1 rest rest.committed (λ n. refl) outs
          un.1 own ls (off_none (list_spans committed_base (log_nodes (out l ∷ ls))) s.active
          is.whole.active_in) un.0 (λ are. are.1) count in
          let st2 = c.gives (with_committed ls s) (none_out s.active is.whole.active_in)
          (none_out ls all_in.1) st1 in
          let v = suc store.purged in
          let same : store.purged ≡ s.purged = is.shows.purged in
          record {
            is = record {
              stored = record s { purged = v; committed = ls };
              standing = purged_set [] c.given new (with_committed ls s) st2 v c.counts
                  (off_none (span 0 54 8 ∷ []) s.active is.whole.active_in)
                  (off_none (span 0 54 8 ∷ []) ls all_in.1);
              whole = record {
                active = is.whole.active;
                committed = waiting_committed (suc v) ls
                    (subst (λ n. AreWaiting (suc (suc n)) ls) (sym same) numbers.2);
                count = (let k = is.whole.count in omega (arith, k, many, same));
                active_in = is.whole.active_in;
                committed_in = all_in.1;
              };
              shows = record {
                next_trx = is.shows.next_trx;
                commits = is.shows.commits;
                purged = refl;
                rising = is.shows.rising;
                rows = is.shows.rows;
                row_pages = is.shows.row_pages;
                active = is.shows.active;
                committed = ap all_but_first shown;
                lobs = is.shows.lobs;
              };
            };
            slots = on.slots;
          };
    }
  where
    times_all : (n : ℕ) (l : LogThere) (ls : List LogThere) → times n (all_pages (l ∷ ls))
        ≡ times n (pages_in l.parts) + times n (all_pages ls)
    times_all n l ls = times-append n (pages_in l.parts) (all_pages ls)
