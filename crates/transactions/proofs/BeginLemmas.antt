-- A transaction begun.
use Rattle.std.proofs.Common.{◌≡◌, ◌≢◌, inr, ℕ, suc, ◌+◌, ◌≤◌, Bool, true, false, cond, nat_lt, if◌then◌else◌, List, [], ◌∷◌, length, Option, Some, refl, ap, subst, ◌∙◌, arith, lit≤}
use Rattle.std.proofs.lemmas.Bool.{eq-eqb}
use Rattle.std.proofs.lemmas.List.{length-append}
use Rattle.page_model.specs.Pages.{Pages}
use Rattle.page_model.specs.Spans.{span, SetsField}
use Rattle.page_model.specs.Steps.{Told, Becomes}
use Rattle.page_model.specs.Counts.{times}
use Rattle.page_model.proofs.CountLemmas.{times_here, times-append, few_pages}
use Rattle.page_model.proofs.FrameLemmas.{field_kept}
use Rattle.page_model.proofs.StepLemmas.{told_step}
use Rattle.page_space.specs.Map.{bit, free_of, IsFree, IsUsed}
use Rattle.store_data.specs.Store.{Log, Store}
use Rattle.undo_model.specs.Data.{Part, Log as LogThere}
use Rattle.undo_model.specs.LogLists.{AreLogs, pages_in, all_pages, log_nodes}
use Rattle.undo_model.specs.LogSteps.{begun}
use Rattle.undo_model.specs.Rows.{RowPage}
use Rattle.undo_logs.specs.Begins.{CanBegin, BeginsLog}
use Rattle.store_model.specs.Steps.{log_of}
use Rattle.store_model.specs.Events.{log_begun}
use Rattle.store_model.specs.Owned.{owned, IsNotAmong}
use Rattle.store_model.specs.Consistent.{IsConsistent}
use Rattle.store_model.proofs.CountLemmas.{none_times}
use Rattle.store_model.proofs.ConsistentLemmas.{log_begun_consistent}
use Rattle.store_parts.specs.Appends.{AreUsed}
use Rattle.store_parts.specs.Standing.{mark}
use Rattle.store_parts.specs.Shows.{log_of as shown_log, IsStore}
use Rattle.store_parts.proofs.CountLemmas.{mark_small, first_on}
use Rattle.store_parts.proofs.FrameLemmas.{times-parts}
use Rattle.store_parts.proofs.MoveLemmas.{marked}
use Rattle.store_pages.proofs.AllLogsLemmas.{all_stand}
use Rattle.store_pages.proofs.LogStoreLemmas.{some_parts}
use Rattle.store_pages.proofs.MarkLemmas.{marks_owned}
use Rattle.store_pages.proofs.StoreMoveLemmas.{log_begun_rows, next_trx_changed, next_trx_rows}
use Rattle.store_steps.specs.Standing.{StandsOn}
use Rattle.transactions.specs.Begins.{Begins}
use Rattle.transactions.proofs.StandLemmas.{stays_on}

-- ---- the list of active logs takes another one

used_logs : (pages : Pages) (ls : List LogThere) → AreLogs pages ls
    → ((n : ℕ) → 1 ≤ times n (all_pages ls) → (n ≢ 0) × IsUsed pages n)
    → AreUsed pages (log_nodes ls)
used_logs pages [] are used = tt
used_logs pages (l ∷ ls) are used =
    let log = are.0 in
    let f = first_on pages l.page l.parts log.parts in
    let a = times-append l.page (pages_in l.parts) (all_pages ls) in
    let u = used l.page (omega (arith, f, a)) in (
      u.0,
      u.1,
      used_logs pages ls are.1 (λ n h. used n
          (let b = times-append n (pages_in l.parts) (all_pages ls) in omega (arith, h, b))),
    )

enough_pages : (pages : Pages) (ls : List LogThere) → AreLogs pages ls
    → length (log_nodes ls) ≤ length (all_pages ls)
enough_pages pages [] are = omega arith
enough_pages pages (l ∷ ls) are =
    let log = are.0 in
    let r = enough_pages pages ls are.1 in
    let a = length-append (pages_in l.parts) (all_pages ls) in
    let b = some_page l.parts (some_parts pages l.page l.parts log.parts) in
    omega (arith, r, a, b)
  where
    some_page : (parts : List Part) → parts ≢ [] → 1 ≤ length (pages_in parts)
    some_page [] some = absurd (some refl)
    some_page (p ∷ ps) some = omega arith

pub can_begin : (pages : Pages) (store : Store) → IsStore pages store → CanBegin pages
can_begin pages store is =
    let s = is.stored in
    let st = is.standing in
    let within : (n : ℕ) → times n (all_pages s.active) + times n (0 ∷ []) ≤ mark pages n =
    λ n. (let p = times-parts n s in let m = st.marks n in omega (arith, p, m)) in
    let once : (n : ℕ) → times n (all_pages s.active) ≤ 1 =
    λ n. (let w = within n in let k = mark_small pages n in omega (arith, w, k)) in
    let there : (n : ℕ) → 1 ≤ times n (all_pages s.active) → 1 ≤ mark pages n =
    λ n h. (let w = within n in omega (arith, w, h)) in
    let logs = all_stand pages s.active st.active is.whole.active_in in
    let few = few_pages (length pages) (all_pages s.active) once
    (λ n h. (marked pages n (there n h)).0) in
    record {
      map = st.map;
      system = (marked pages 0 (let w = within 0 in let h = times_here 0 [] in omega
          (arith, w, h))).1;
      nodes = log_nodes s.active;
      list = st.active_list;
      used = used_logs pages s.active logs (λ n h. (
        not_zero n (all_pages s.active) h within,
        (marked pages n (there n h)).1,
      ));
      few = (let e = enough_pages pages s.active logs in let m = st.map.size.few in
          omega (arith, few, e, m));
    }
  where
    not_zero : (n : ℕ) (ns : List ℕ) → 1 ≤ times n ns
        → ((k : ℕ) → times k ns + times k (0 ∷ []) ≤ mark pages k) → n ≢ 0
    not_zero n ns some within e = absurd (no (let c : times n ns ≡ times 0 ns =
        ap (λ k. times k ns) e in
        let w = within 0 in let h = times_here 0 [] in let k = mark_small pages 0 in
        omega (arith, c, some, w, h, k)))
      where
        no : 1 ≤ 0 → ⊥
        no x = absurd (omega arith)

-- ---- the page isn't owned

pub mark_free : (pages : Pages) (n : ℕ) → IsFree pages n → mark pages n ≡ 0
mark_free pages n free = by (nat_lt n (length pages))
  where
    by : (b : Bool) → cond b (bit pages n) 0 ≡ 0
    by true = free
    by false = refl

pub free_unowned : (pages : Pages) (store : Store) (n : ℕ) → IsStore pages store
    → IsConsistent store → IsFree pages n → IsNotAmong n (owned store)
free_unowned pages store n is all free =
    none_times n (owned store) (marks_owned pages store is all.lobs n ∙ mark_free pages n free)

-- ---- the transaction

-- no id is 0
some_id : (store : Store) → IsConsistent store → 1 ≤ store.next_trx
some_id store all = let r = (all.ids.rows 0).0 in omega (arith, r)

begun_at : (there : List RowPage) (pages mid new : Pages) (store : Store) (trx page : ℕ)
    → StandsOn there pages store → IsConsistent store → trx ≡ store.next_trx
    → BeginsLog trx page pages mid → SetsField 0 38 8 (suc trx) mid new
    → Begins there trx page 0 store new
begun_at there pages mid new store trx page on all same b sets =
    let one = log_begun_rows pages b.mid mid store
    (begun page trx) on.is b.stands refl b.keeps b.links in
    let store1 : Store = record store { active = shown_log (begun page trx) ∷ store.active } in
    let on1 = stays_on there pages mid store store1 on one.0 one.1 in
    let two = next_trx_changed mid new store1 (suc trx) on1.is sets in
    let none = free_unowned pages store page on.is all b.free in
    let log : Log = shown_log (begun page trx) in
    record {
      id = same;
      none = refl;
      stands = stays_on there mid new store1 (log_begun trx page store) on1 two
          (next_trx_rows mid new store1 (suc trx) on1.is sets);
      unowned = none;
      consistent = log_begun_consistent trx page store all (omega (arith, same))
          (let s = some_id store all in omega (arith, same, s)) none;
      log = log;
      work = record {
        found = ap (λ (t : Bool). if t then Some log else log_of store.active trx)
            (eq-eqb trx trx refl);
        page_is = refl;
        records = refl;
      };
    }

free_kept : (mid new : Pages) (v : ℕ) → SetsField 0 38 8 v mid new → free_of new ≡ free_of mid
free_kept mid new v sets =
    field_kept (span 0 38 8 ∷ []) mid new 0 62 4 sets.outside (inr (inr (lit≤ tt)), tt)

-- over told pages
pub trx_begun : (there : List RowPage) (pages : Pages) (store : Store) (t1 t2 : Option Pages)
    (trx page v space : ℕ) → StandsOn there pages store → IsConsistent store → trx ≡ store.next_trx
    → v ≡ suc trx
    → Becomes t1 (λ mid. BeginsLog trx page pages mid × (space ≤ free_of mid))
    → Told (SetsField 0 38 8 v) t1 t2
    → Becomes t2 (λ new. Begins there trx page 0 store new × (space ≤ free_of new))
trx_begun there pages store t1 t2 trx page v space on all same next b told =
    let step = told_step (SetsField 0 38 8 v) t1 t2 b.0 b.1 told in
    let free = free_kept b.0 step.0 v step.2 in
    let room = b.2.1 in (
      step.0,
      step.1,
      (
        begun_at there pages b.0 step.0 store trx page on all same b.2.0
            (subst (λ (n : ℕ). SetsField 0 38 8 n b.0 step.0) next step.2),
        omega (arith, free, room),
      ),
    )
