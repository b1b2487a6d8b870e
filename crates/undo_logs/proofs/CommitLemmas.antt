-- A log committed: it leaves the list of active logs, and stands at the end of that of committed ones.
use Rattle.std.proofs.Common.{◌≡◌, ◌≢◌, inl, inr, ℕ, suc, ◌+◌, ◌^◌, ◌<◌, ◌≤◌, ◌==◌, Bool, true, false, List, [], ◌∷◌, ◌++◌, length, map, Option, Some, IfSome, refl, sym, ap, ◌∙◌, subst, arith, lit≤}
use Rattle.std.proofs.lemmas.Bool.{cases_eq, ne_eqb}
use Rattle.page_model.specs.Pages.{Pages, Address, field}
use Rattle.page_model.specs.Spans.{Span, span, SameOutside, SetsField, IsApartFromAll, AreApart}
use Rattle.page_model.specs.Lists.{IsList, list_spans, node_span, or_null}
use Rattle.page_model.specs.Counts.{one_if, times}
use Rattle.page_model.specs.Steps.{Told, Becomes}
use Rattle.page_model.proofs.SpanLemmas.{apart_cons}
use Rattle.page_model.proofs.CountLemmas.{times_here, times-append}
use Rattle.page_model.proofs.ListLemmas.{list_kept}
use Rattle.page_model.proofs.StepLemmas.{told_step}
use Rattle.file_lists.specs.Changes.{ChangesList, IsElsewhere}
use Rattle.store_data.specs.Store.{active}
use Rattle.undo_model.specs.Data.{Part, Log}
use Rattle.undo_model.specs.Logs.{log_node, records_of, AreParts, IsLog, part_spans}
use Rattle.undo_model.specs.LogLists.{pages_in, all_pages, log_nodes, active_base, committed_base, AreLogs, AreActive, IsNoneOf, AreDifferent}
use Rattle.undo_model.specs.LogSteps.{oldest, marked_committed}
use Rattle.undo_model.proofs.LogLemmas.{log_kept}
use Rattle.store_parts.specs.Logs.{CommitsLog}
use Rattle.store_parts.proofs.CountLemmas.{first_on, on_parts, apart_on}
use Rattle.undo_logs.specs.Commits.{CanCommit, MarksCommitted}
use Rattle.undo_logs.proofs.AppendLemmas.{not_first}
use Rattle.undo_logs.proofs.BeginLemmas.{list_same}
use Rattle.undo_logs.proofs.EndLemmas.{nodes_join, unlinked}
use Rattle.undo_logs.proofs.MarkLemmas.{mark_spans, same_marked, marked_stands, marked_keeps, marked_shows}
use Rattle.undo_logs.proofs.ToldLemmas.{told_is}

-- ---- each page is of one log

none_times : (n : ℕ) (ns : List ℕ) → IsNoneOf n ns → times n ns ≡ 0
none_times n [] none = refl
none_times n (m ∷ ns) none =
    let e : one_if (m == n) ≡ 0 = ap one_if (ne_eqb m n (λ e. none.0 (sym e))) in
    let r = none_times n ns none.1 in
    omega (arith, e, r)

one_most : (b : Bool) → one_if b ≤ 1
one_most true = lit≤ tt
one_most false = lit≤ tt

at_most : (n : ℕ) (ns : List ℕ) → AreDifferent ns → times n ns ≤ 1
at_most n [] d = omega arith
at_most n (m ∷ ns) d = elim (cases_eq m n) [
  | inl same ↦ (let z : times n ns ≡ 0 = subst (λ k. times k ns ≡ 0) same (none_times m ns d.0) in let o = one_most (m == n) in omega (arith, z, o))
  | inr other ↦ (let e : one_if (m == n) ≡ 0 = ap one_if (ne_eqb m n other) in let r = at_most n ns d.1 in omega (arith, e, r))
]

times_all : (n : ℕ) (xs ys : List Log) → times n (all_pages (xs ++ ys)) ≡ times n (all_pages xs) + times n (all_pages ys)
times_all n [] ys = omega arith
times_all n (x ∷ xs) ys =
    let a = times-append n (pages_in x.parts) (all_pages (xs ++ ys)) in
    let b = times-append n (pages_in x.parts) (all_pages xs) in
    let c = times_all n xs ys in
    omega (arith, a, b, c)

not_on : (n k : ℕ) (ns : List ℕ) → times n ns ≡ 0 → 1 ≤ times k ns → n ≢ k
not_on n k ns none some same = absurd (no (let e : times n ns ≡ times k ns = ap (λ m. times m ns) same in omega (arith, e, none, some)))
  where
    no : 1 ≤ 0 → ⊥
    no h = absurd (omega arith)

-- none of the logs begins on these pages
abbrev AreFree : List ℕ → List Log → Type 0
AreFree own [] = Unit {0}
AreFree own (a ∷ more) = (times a.page own ≡ 0) × AreFree own more

free : (pages : Pages) (own : List ℕ) (logs : List Log) → AreLogs pages logs → ((n : ℕ) → times n own + times n (all_pages logs) ≤ 1) → AreFree own logs
free pages own [] are most = tt
free pages own (a ∷ more) are most = (
  (let m = most a.page in let f = first_on pages a.page a.parts are.0.parts in let s = times-append a.page (pages_in a.parts) (all_pages more) in omega (arith, m, f, s)),
  free pages own more are.1 (λ n. let m = most n in let s = times-append n (pages_in a.parts) (all_pages more) in omega (arith, m, s)),
)

-- ---- the parts of a log, and nodes of logs

other_parts : (n at size : ℕ) (parts : List Part) → times n (pages_in parts) ≡ 0 → AreApart (span n at size ∷ []) (part_spans parts)
other_parts n at size parts none = apart_on (n ∷ []) (pages_in parts) (span n at size ∷ []) (part_spans parts) (λ k some. alone k (not_on n k (pages_in parts) none some)) (times_here n [], tt) (on_parts parts)
  where
    alone : (k : ℕ) → n ≢ k → times k (n ∷ []) ≡ 0
    alone k other = let e : one_if (n == k) ≡ 0 = ap one_if (ne_eqb n k other) in omega (arith, e)

none_apart : (ts : List Span) → AreApart [] ts
none_apart [] = tt
none_apart (t ∷ ts) = (tt, none_apart ts)

nodes_parts : (logs : List Log) (parts : List Part) → AreFree (pages_in parts) logs → AreApart (map node_span (log_nodes logs)) (part_spans parts)
nodes_parts [] parts are = none_apart (part_spans parts)
nodes_parts (a ∷ more) parts are = apart_cons (node_span (log_node a.page)) (map node_span (log_nodes more)) (part_spans parts) (other_parts a.page 67 12 parts are.0) (nodes_parts more parts are.1)

own_parts : (pages : Pages) (first : ℕ) (parts : List Part) → AreParts pages first parts → AreApart (node_span (log_node first) ∷ []) (part_spans parts)
own_parts pages first [] are = absurd are
own_parts pages first (p ∷ []) are = ((inr (inl (lit≤ tt)), tt), ((inr (inr (lit≤ tt)), tt), tt))
own_parts pages first (p ∷ q ∷ older) are = ((inl (not_first pages first p.page (q ∷ older) are.1 are.0.new), tt), own_parts pages first (q ∷ older) are.1)

all_parts : (before : List Log) (l : Log) (behind : List Log) (parts : List Part) → AreFree (pages_in parts) before → AreApart (node_span (log_node l.page) ∷ []) (part_spans parts) → AreFree (pages_in parts) behind
    → AreApart (map node_span (log_nodes (before ++ l ∷ behind))) (part_spans parts)
all_parts [] l behind parts are own more = apart_cons (node_span (log_node l.page)) (map node_span (log_nodes behind)) (part_spans parts) own (nodes_parts behind parts more)
all_parts (a ∷ before) l behind parts are own more =
    apart_cons (node_span (log_node a.page)) (map node_span (log_nodes (before ++ l ∷ behind))) (part_spans parts) (other_parts a.page 67 12 parts are.0) (all_parts before l behind parts are.1 own more)

-- ---- both lists

differ : (pages : Pages) (logs : List Log) (c : ℕ) → AreLogs pages logs → times c (all_pages logs) ≡ 0 → IsApartFromAll (map node_span (log_nodes logs)) (node_span (log_node c))
differ pages [] c are none = tt
differ pages (a ∷ more) c are none =
    let f = first_on pages a.page a.parts are.0.parts in
    let s = times-append a.page (pages_in a.parts) (all_pages more) in
    let t = times-append c (pages_in a.parts) (all_pages more) in
    (inl (not_on c a.page (all_pages (a ∷ more)) none (omega (arith, f, s))), differ pages more c are.1 (omega (arith, none, t)))

nodes_off_base : (logs : List Log) → IsApartFromAll (map node_span (log_nodes logs)) (span 0 98 16)
nodes_off_base [] = tt
nodes_off_base (l ∷ more) = (inr (inr (lit≤ tt)), nodes_off_base more)

lists_apart : (pages : Pages) (logs others : List Log) → AreLogs pages logs → AreFree (all_pages logs) others → AreApart (list_spans active_base (log_nodes logs)) (map node_span (log_nodes others))
lists_apart pages logs [] are free' = tt
lists_apart pages logs (c ∷ more) are free' = ((inr (inl (lit≤ tt)), differ pages logs c.page are free'.0), lists_apart pages logs more are free'.1)

elsewhere : (own : List ℕ) (page : ℕ) (logs : List Log) → 1 ≤ times page own → AreFree own logs → IsApartFromAll (map node_span (log_nodes logs)) (node_span (log_node page))
elsewhere own page [] some are = tt
elsewhere own page (c ∷ more) some are = (inl (λ e. not_on c.page page own are.0 some (sym e)), elsewhere own page more some are.1)

marks_nodes : (log : ℕ) (logs : List Log) → AreApart (mark_spans log) (map node_span (log_nodes logs))
marks_nodes log [] = tt
marks_nodes log (l ∷ more) = ((inr (inr (lit≤ tt)), (inr (inr (lit≤ tt)), (inr (inl (lit≤ tt)), tt))), marks_nodes log more)

as_many : (logs : List Log) → length (log_nodes logs) ≡ length logs
as_many [] = refl
as_many (l ∷ more) = ap suc (as_many more)

-- ---- among logs that stand

logs_split : (pages : Pages) (xs ys : List Log) → AreLogs pages (xs ++ ys) → AreLogs pages xs × AreLogs pages ys
logs_split pages [] ys are = (tt, are)
logs_split pages (x ∷ xs) ys are = let r = logs_split pages xs ys are.1 in ((are.0, r.0), r.1)

active_at : (xs : List Log) (l : Log) (ys : List Log) → AreActive (xs ++ l ∷ ys) → l.state ≡ active
active_at [] l ys are = are.0
active_at (x ∷ xs) l ys are = active_at xs l ys are.1

module _ (pages : Pages) (l : Log) (count : ℕ) (can : CanCommit l count pages) where
  abbrev own : List ℕ
  own = pages_in l.parts

  pub all_stand : AreLogs pages (can.before ++ l ∷ can.behind)
  all_stand = subst (AreLogs pages) can.here can.stands.active_logs

  pub log_stands : IsLog pages l
  log_stands = (logs_split pages can.before (l ∷ can.behind) all_stand).1.0

  pub is_active : l.state ≡ active
  is_active = active_at can.before l can.behind (subst AreActive can.here can.stands.active)

  pub first : 1 ≤ times l.page own
  first = first_on pages l.page l.parts log_stands.parts

  bound : (n : ℕ) → times n (0 ∷ []) + (times n (all_pages can.before) + (times n own + times n (all_pages can.behind))) + times n (all_pages can.logs.committed) ≤ 1
  bound n =
      let m = at_most n (0 ∷ all_pages (can.logs.active ++ can.logs.committed)) can.stands.once in
      let s = times_all n can.logs.active can.logs.committed in
      let h : times n (all_pages can.logs.active) ≡ times n (all_pages (can.before ++ l ∷ can.behind)) = ap (λ (ls : List Log). times n (all_pages ls)) can.here in
      let t = times_all n can.before (l ∷ can.behind) in
      let u = times-append n own (all_pages can.behind) in
      omega (arith, m, s, h, t, u)

  zero_off : times 0 own ≡ 0
  zero_off = let b = bound 0 in let h = times_here 0 [] in omega (arith, b, h)

  pub not_zero : l.page ≢ 0
  not_zero = λ e. not_on 0 l.page own zero_off first (sym e)

  free_before : AreFree own can.before
  free_before = free pages own can.before (logs_split pages can.before (l ∷ can.behind) all_stand).0 (λ n. let b = bound n in omega (arith, b))

  free_behind : AreFree own can.behind
  free_behind = free pages own can.behind (logs_split pages can.before (l ∷ can.behind) all_stand).1.1 (λ n. let b = bound n in omega (arith, b))

  pub free_committed : AreFree own can.logs.committed
  free_committed = free pages own can.logs.committed can.stands.committed_logs (λ n. let b = bound n in omega (arith, b))

  pub free_all : AreFree (all_pages (can.before ++ l ∷ can.behind)) can.logs.committed
  free_all = free pages (all_pages (can.before ++ l ∷ can.behind)) can.logs.committed can.stands.committed_logs
      (λ n. let b = bound n in let t = times_all n can.before (l ∷ can.behind) in let u = times-append n own (all_pages can.behind) in omega (arith, b, t, u))

  pub few_nodes : length (log_nodes can.logs.committed) + 1 < 2 ^ 32
  few_nodes = let f = can.few in let m = as_many can.logs.committed in omega (arith, f, m)

  -- each step beside the log's own bytes
  pub off_active : AreApart (list_spans active_base (log_nodes (can.before ++ l ∷ can.behind))) (part_spans l.parts)
  off_active = apart_cons (span 0 82 16) (map node_span (log_nodes (can.before ++ l ∷ can.behind))) (part_spans l.parts) (other_parts 0 82 16 l.parts zero_off)
      (all_parts can.before l can.behind l.parts free_before (own_parts pages l.page l.parts log_stands.parts) free_behind)

  pub off_committed : AreApart (list_spans committed_base (log_nodes (can.logs.committed ++ l ∷ []))) (part_spans l.parts)
  off_committed = apart_cons (span 0 98 16) (map node_span (log_nodes (can.logs.committed ++ l ∷ []))) (part_spans l.parts) (other_parts 0 98 16 l.parts zero_off)
      (all_parts can.logs.committed l [] l.parts free_committed (own_parts pages l.page l.parts log_stands.parts) tt)

  pub off_count : AreApart (span 0 46 8 ∷ []) (part_spans l.parts)
  off_count = other_parts 0 46 8 l.parts zero_off

  pub marks_base : (at : ℕ) → IsApartFromAll (mark_spans l.page) (span 0 at 16)
  marks_base at = (inl (λ e. not_zero (sym e)), (inl (λ e. not_zero (sym e)), (inl (λ e. not_zero (sym e)), tt)))

-- ---- the calls, over told pages

-- the count of commits, as it was read, is that of the store
pub commits_read : (pages : Pages) (told : Option Pages) (l : Log) (count commits : ℕ) → told ≡ Some pages → CanCommit l count pages → IfSome told (λ ps. commits ≡ field ps 0 46 8) → commits ≡ count
commits_read pages told l count commits is can read = told_is (λ ps. commits ≡ field ps 0 46 8) told pages is read ∙ can.counted

module _ (pages : Pages) (t0 t1 : Option Pages) (l : Log) (log count commits : ℕ) (to : Address) (is : t0 ≡ Some pages) (same : l.page ≡ log) (can : CanCommit l count pages) (read : commits ≡ count) (there : to ≡ or_null (oldest (records_of l))) (told : Told (MarksCommitted log (commits + 1) to) t0 t1) where
  marked : Becomes t1 (MarksCommitted log (commits + 1) to pages)
  marked = told_step (MarksCommitted log (commits + 1) to) t0 t1 pages is told

  marks : MarksCommitted l.page (suc count) (or_null (oldest (records_of l))) pages marked.0
  marks =
      let next : commits + 1 ≡ suc count = omega (arith, read) in
      let a : MarksCommitted l.page (commits + 1) to pages marked.0 = subst (λ (n : ℕ). MarksCommitted n (commits + 1) to pages marked.0) (sym same) marked.2 in
      let b : MarksCommitted l.page (suc count) to pages marked.0 = subst (λ (n : ℕ). MarksCommitted l.page n to pages marked.0) next a in
      subst (λ (x : Address). MarksCommitted l.page (suc count) x pages marked.0) there b

  stands1 : IsLog marked.0 (marked_committed (suc count) l)
  stands1 = marked_stands pages marked.0 l (suc count) (log_stands pages l count can) (is_active pages l count can) marks

  same1 : SameOutside (mark_spans l.page) pages marked.0
  same1 = same_marked pages marked.0 l (suc count) (log_stands pages l count can) (is_active pages l count can) marks

  active1 : IsList marked.0 active_base (log_nodes (can.before ++ l ∷ can.behind))
  active1 = list_kept (mark_spans l.page) pages marked.0 active_base (log_nodes (can.before ++ l ∷ can.behind)) same1 (marks_base pages l count can 82, marks_nodes l.page (can.before ++ l ∷ can.behind))
      (subst (λ (ls : List Log). IsList pages active_base (log_nodes ls)) can.here can.stands.active_list)

  committed1 : IsList marked.0 committed_base (log_nodes can.logs.committed)
  committed1 = list_kept (mark_spans l.page) pages marked.0 committed_base (log_nodes can.logs.committed) same1 (marks_base pages l count can 98, marks_nodes l.page can.logs.committed) can.stands.committed_list

  all_is : log_nodes (can.before ++ l ∷ can.behind) ≡ log_nodes can.before ++ log_node log ∷ log_nodes can.behind
  all_is = nodes_join can.before (l ∷ can.behind) ∙ ap (λ (n : ℕ). log_nodes can.before ++ log_node n ∷ log_nodes can.behind) same

  node_there : IsList marked.0 active_base (log_nodes can.before ++ log_node log ∷ log_nodes can.behind)
  node_there = subst (IsList marked.0 active_base) all_is active1

  -- the node can be taken out of the active ones
  pub may_remove : {X : Type 0} → ((ps : Pages) (xs ys : List Address) → t1 ≡ Some ps → IsList ps active_base (xs ++ log_node log ∷ ys) → X) → X
  may_remove then = then marked.0 (log_nodes can.before) (log_nodes can.behind) marked.1 node_there

  module _ (t2 : Option Pages) (removes : (ps : Pages) (xs ys : List Address) → t1 ≡ Some ps → IsList ps active_base (xs ++ log_node log ∷ ys) → Becomes t2 (ChangesList active_base (xs ++ log_node log ∷ ys) (xs ++ ys) ps)) where
    removed : Becomes t2 (ChangesList active_base (log_nodes can.before ++ log_node log ∷ log_nodes can.behind) (log_nodes can.before ++ log_nodes can.behind) marked.0)
    removed = removes marked.0 (log_nodes can.before) (log_nodes can.behind) marked.1 node_there

    same2 : SameOutside (list_spans active_base (log_nodes (can.before ++ l ∷ can.behind))) marked.0 removed.0
    same2 = subst (λ (ns : List Address). SameOutside (list_spans active_base ns) marked.0 removed.0) (sym all_is) removed.2.outside

    committed2 : IsList removed.0 committed_base (log_nodes can.logs.committed)
    committed2 =
        let xs = list_spans active_base (log_nodes (can.before ++ l ∷ can.behind)) in
        list_kept xs marked.0 removed.0 committed_base (log_nodes can.logs.committed) same2
        ((inr (inr (lit≤ tt)), nodes_off_base (can.before ++ l ∷ can.behind)), lists_apart pages (can.before ++ l ∷ can.behind) can.logs.committed (all_stand pages l count can) (free_all pages l count can)) committed1

    node_elsewhere : IsElsewhere committed_base (log_nodes can.logs.committed) (log_node log)
    node_elsewhere = subst (λ (n : ℕ). IsElsewhere committed_base (log_nodes can.logs.committed) (log_node n)) same
        (inr (inl (lit≤ tt)), elsewhere (pages_in l.parts) l.page can.logs.committed (first pages l count can) (free_committed pages l count can))

    -- and be added to the committed ones
    pub may_add : {X : Type 0} → ((ps : Pages) (ns : List Address) → t2 ≡ Some ps → IsList ps committed_base ns → length ns + 1 < 2 ^ 32 → X) → X
    may_add then = then removed.0 (log_nodes can.logs.committed) removed.1 committed2 (few_nodes pages l count can)

    pub committed_told : (t3 t4 : Option Pages) → ((ps : Pages) (ns : List Address) → t2 ≡ Some ps → IsList ps committed_base ns → IsElsewhere committed_base ns (log_node log) → length ns + 1 < 2 ^ 32
        → Becomes t3 (ChangesList committed_base (ns ++ log_node log ∷ []) (ns ++ log_node log ∷ []) ps)) → Told (SetsField 0 46 8 (commits + 1)) t3 t4 → Becomes t4 (CommitsLog l (marked_committed (suc count) l) count pages)
    committed_told t3 t4 adds sets =
        let m = marked_committed (suc count) l in
        let cs = can.logs.committed in
        let add = adds removed.0 (log_nodes cs) removed.1 committed2 node_elsewhere (few_nodes pages l count can) in
        let next : commits + 1 ≡ suc count = omega (arith, read) in
        let set = told_step (SetsField 0 46 8 (suc count)) t3 t4 add.0 add.1 (subst (λ (n : ℕ). Told (SetsField 0 46 8 n) t3 t4) next sets) in
        let ends : log_nodes (cs ++ l ∷ []) ≡ log_nodes cs ++ log_node log ∷ [] = nodes_join cs (l ∷ []) ∙ ap (λ (n : ℕ). log_nodes cs ++ log_node n ∷ []) same in
        let same3 : SameOutside (list_spans committed_base (log_nodes (cs ++ l ∷ []))) removed.0 add.0 = subst (λ (ns : List Address). SameOutside (list_spans committed_base ns) removed.0 add.0) (sym ends) add.2.outside in
        let stands2 : IsLog removed.0 m = log_kept (list_spans active_base (log_nodes (can.before ++ l ∷ can.behind))) marked.0 removed.0 m same2 (off_active pages l count can) stands1 in
        let stands3 : IsLog add.0 m = log_kept (list_spans committed_base (log_nodes (cs ++ l ∷ []))) removed.0 add.0 m same3 (off_committed pages l count can) stands2 in
        let stands4 : IsLog set.0 m = log_kept (span 0 46 8 ∷ []) add.0 set.0 m set.2.outside (off_count pages l count can) stands3 in
        let links : (logs : List Log) → IsList removed.0 committed_base (log_nodes logs) → IsList add.0 committed_base (log_nodes (logs ++ m ∷ [])) × SameOutside (list_spans committed_base (log_nodes (logs ++ m ∷ []))) removed.0 add.0 = λ logs list.
        let e : log_nodes cs ≡ log_nodes logs = list_same removed.0 committed_base (log_nodes cs) (log_nodes logs) committed2 list in
        let f : log_nodes cs ++ log_node log ∷ [] ≡ log_nodes (logs ++ m ∷ []) = ap (λ (ns : List Address). ns ++ log_node log ∷ []) e ∙ ap (λ (n : ℕ). log_nodes logs ++ log_node n ∷ []) (sym same) ∙ sym (nodes_join logs (m ∷ [])) in
        let P : List Address → Type 0 = λ ns. IsList add.0 committed_base ns × SameOutside (list_spans committed_base ns) removed.0 add.0 in
        subst P f (add.2.list, add.2.outside) in (
          set.0,
          set.1,
          record {
            written = marked.0;
            unlinked = removed.0;
            linked = add.0;
            writes = marked_keeps pages marked.0 l (suc count) (log_stands pages l count can) (is_active pages l count can) marks;
            unlinks = λ bs as' list. unlinked active_base marked.0 t1 t2 (log_node log) removed.0 marked.1 removed.1 removes bs l as' (ap log_node same) list;
            links = links;
            counts = set.2;
            stands = stands4;
            same_page = refl;
            state = refl;
            number = refl;
            shows = marked_shows pages l (suc count) (log_stands pages l count can) (is_active pages l count can);
          },
        )
