-- A log with one record ends: it leaves the list of active logs, and its pages are given back.
use Rattle.std.proofs.Common.{◌≡◌, ◌≢◌, ◌⊎◌, inl, inr, ℕ, ◌+◌, ◌%◌, ◌^◌, ◌<◌, ◌≤◌, List, [], ◌∷◌, ◌++◌, map, Option, Some, IfSome, refl, sym, ap, ◌∙◌, subst, arith, lit≤}
use Rattle.std.specs.Int.{bit_at}
use Rattle.page_model.specs.Pages.{Pages, AreWhole, Address, null_page}
use Rattle.page_model.specs.Spans.{span, SameOutside, IsOffAll, IsApartFromAll}
use Rattle.page_model.specs.Lists.{IsList, list_spans, node_span}
use Rattle.page_model.specs.Steps.{Becomes}
use Rattle.page_space.specs.Map.{IsMap, IsUsed, place_of, GivesPage}
use Rattle.page_space.proofs.MapLemmas.{map_kept}
use Rattle.file_lists.specs.Changes.{ChangesList}
use Rattle.undo_model.specs.Data.{Entry, Part, Log}
use Rattle.undo_model.specs.Reading.{IsRecordAt}
use Rattle.undo_model.specs.Logs.{log_node, records_in, records_of, newest, last_field, AreChained, AreParts, IsLog, HasRecord}
use Rattle.undo_model.specs.LogLists.{pages_in, log_nodes, active_base}
use Rattle.undo_model.proofs.OptionLemmas.{some_some}
use Rattle.store_parts.specs.Appends.{CanAppend}
use Rattle.store_parts.specs.Keeps.{Keeps}
use Rattle.store_parts.specs.Logs.{GivesLog}
use Rattle.store_parts.proofs.KeepLemmas.{keeps_give, keeps_then}
use Rattle.undo_logs.specs.Pops.{IsListed, GivesBoth}
use Rattle.undo_logs.proofs.NewPageLemmas.{parts_used, PartsUsed}
use Rattle.undo_logs.proofs.PopLemmas.{page_with, same_tail, not_nil}
use Rattle.undo_logs.proofs.ToldLemmas.{told_is}
use Rattle.undo_logs.proofs.NeverLemmas.{newest_stands, not_purging}

-- ---- lists of logs

-- the nodes of logs in a row are those of the first and then of the others
pub nodes_join : (before behind : List Log) → log_nodes (before ++ behind) ≡ log_nodes before ++ log_nodes behind
nodes_join [] behind = refl
nodes_join (l ∷ before) behind = ap (λ (ns : List Address). log_node l.page ∷ ns) (nodes_join before behind)

-- the nodes of logs lie beside the map
pub nodes_off_count : (logs : List Log) → IsApartFromAll (map node_span (log_nodes logs)) (span 0 62 4)
nodes_off_count [] = tt
nodes_off_count (l ∷ more) = (inr (inl (lit≤ tt)), nodes_off_count more)

pub nodes_off_map : (logs : List Log) → IsApartFromAll (map node_span (log_nodes logs)) (span 0 128 4_096)
nodes_off_map [] = tt
nodes_off_map (l ∷ more) = (inr (inr (lit≤ tt)), nodes_off_map more)

nodes_off_bit : (logs : List Log) (q : ℕ) → IsOffAll (map node_span (log_nodes logs)) 0 (place_of q)
nodes_off_bit [] q = tt
nodes_off_bit (l ∷ more) q = (inr (inr (omega arith)), nodes_off_bit more q)

module _ (at : ℕ) (low : 66 ≤ at) (high : at + 16 ≤ 128) (logs : List Log) (old new : Pages) (same : SameOutside (list_spans (record { page = 0; at = at }) (log_nodes logs)) old new) where
  pub map_beside : IsMap old → IsMap new
  map_beside is = map_kept (list_spans (record { page = 0; at = at }) (log_nodes logs)) old new same (inr (inl low), nodes_off_count logs) (inr (inr high), nodes_off_map logs) is

  pub used_beside : (q : ℕ) → IsUsed old q → IsUsed new q
  used_beside q used = ap (λ (b : ℕ). bit_at b (q % 8)) (same.bytes 0 (place_of q) (inr (inr (omega (arith, high))), nodes_off_bit logs q)) ∙ used

-- ---- the log leaves its list

-- whatever list the node is taken out of, it is the one that was read
module _ (base : Address) (pages : Pages) (t0 t1 : Option Pages) (node : Address) (u : Pages) (is0 : t0 ≡ Some pages) (is1 : t1 ≡ Some u)
    (removes : (ps : Pages) (xs ys : List Address) → t0 ≡ Some ps → IsList ps base (xs ++ node ∷ ys) → Becomes t1 (ChangesList base (xs ++ node ∷ ys) (xs ++ ys) ps)) where
  pub unlinked : (before : List Log) (l : Log) (behind : List Log) → log_node l.page ≡ node → IsList pages base (log_nodes (before ++ l ∷ behind))
      → IsList u base (log_nodes (before ++ behind)) × SameOutside (list_spans base (log_nodes (before ++ l ∷ behind))) pages u
  unlinked before l behind same list =
      let xs = log_nodes before in
      let ys = log_nodes behind in
      let e : log_nodes (before ++ l ∷ behind) ≡ xs ++ node ∷ ys = nodes_join before (l ∷ behind) ∙ ap (λ (a : Address). xs ++ a ∷ ys) same in
      let r = removes pages xs ys is0 (subst (IsList pages base) e list) in
      let n : r.0 ≡ u = some_some r.0 u (sym r.1 ∙ is1) in
      let change : ChangesList base (xs ++ node ∷ ys) (xs ++ ys) pages u = subst (ChangesList base (xs ++ node ∷ ys) (xs ++ ys) pages) n r.2 in
      (subst (IsList u base) (sym (nodes_join before behind)) change.list, subst (λ (ns : List Address). SameOutside (list_spans base ns) pages u) (sym e) change.outside)

-- ---- the pages of a log with one record

pub record Single (parts : List Part) (first : ℕ) (e : Entry) : Type 0 where
  pub page : ℕ
  pub older : List Part
  pub is : parts ≡ page_with page (e ∷ []) ∷ older
  pub same_page : e.at.page ≡ page
  pub own : (pages_in parts ≡ first ∷ [] × (page ≡ first)) ⊎ (pages_in parts ≡ page ∷ first ∷ [] × (page ≢ first))

none_more : (pages : Pages) (first page : ℕ) (e : Entry) (older : List Part) → AreParts pages first (page_with page (e ∷ []) ∷ older) → records_in older ≡ [] → Single (page_with page (e ∷ []) ∷ older) first e
none_more pages first page e [] are none = record { page = page; older = []; is = refl; same_page = (let part = are.1 in part.filled.0); own = inl (ap (λ n. n ∷ []) are.0, are.0) }
none_more pages first page e (q ∷ []) are none =
    let other : page ≢ first = λ same. are.0.new.0 (same ∙ sym are.1.0) in
    record { page = page; older = q ∷ []; is = refl; same_page = are.0.part.filled.0; own = inr (ap (λ n. page ∷ n ∷ []) are.1.0, other) }
none_more pages first page e (q ∷ r ∷ older) are none = absurd (some q.records are.1.0.some none)
  where
    some : (rs : List Entry) → HasRecord rs → rs ++ records_in (r ∷ older) ≡ [] → ⊥
    some [] has e' = has
    some (x ∷ xs) has e' = not_nil x (xs ++ records_in (r ∷ older)) (sym e')

single_by : (pages : Pages) (first page : ℕ) (rs : List Entry) (older : List Part) (e : Entry) → AreParts pages first (page_with page rs ∷ older) → rs ++ records_in older ≡ e ∷ [] → Single (page_with page rs ∷ older) first e
single_by pages first page [] [] e are is = not_nil e [] is
single_by pages first page [] (q ∷ older) e are is = absurd are.0.some
single_by pages first page (x ∷ y ∷ ys) older e are is = not_nil y (ys ++ records_in older) (sym (same_tail x e (y ∷ (ys ++ records_in older)) [] is))
single_by pages first page (x ∷ []) older e are is =
    let here : x ≡ e = Rattle.undo_logs.proofs.PopLemmas.same_head x e (records_in older) [] is in
    let P : Entry → Type 0 = λ z. Single (page_with page (z ∷ []) ∷ older) first z in
    let Q : Entry → Type 0 = λ z. Single (page_with page (x ∷ []) ∷ older) first z in
    subst Q here (none_more pages first page x older are (same_tail x e (records_in older) [] is))

pub single : (pages : Pages) (first : ℕ) (parts : List Part) (e : Entry) → AreParts pages first parts → records_in parts ≡ e ∷ [] → Single parts first e
single pages first [] e are is = absurd are
single pages first (p ∷ older) e are is = single_by pages first p.page p.records older e are is

-- ---- given back

keeps_both : (l : Log) (page : ℕ) (u new : Pages) → (pages_in l.parts ≡ l.page ∷ [] × (page ≡ l.page)) ⊎ (pages_in l.parts ≡ page ∷ l.page ∷ [] × (page ≢ l.page)) → GivesBoth page l.page u new → Keeps [] (pages_in l.parts) [] u new
keeps_both l page u new (inl one) (inl give) = subst (λ ns. Keeps [] ns [] u new) (sym one.0) (keeps_give [] (l.page ∷ []) [] l.page u new (λ n. omega arith) (λ n. omega arith) give.1)
keeps_both l page u new (inl one) (inr give) = absurd (give.0 one.1)
keeps_both l page u new (inr two) (inl give) = absurd (two.1 give.0)
keeps_both l page u new (inr two) (inr give) =
    let mid = give.1 in
    subst (λ ns. Keeps [] ns [] u new) (sym two.0)
    (keeps_then [] (page ∷ l.page ∷ []) (l.page ∷ []) [] u mid.0 new (keeps_give [] (page ∷ l.page ∷ []) (l.page ∷ []) page u mid.0 (λ n. omega arith) (λ n. omega arith) mid.1)
    (keeps_give [] (l.page ∷ []) [] l.page mid.0 new (λ n. omega arith) (λ n. omega arith) mid.2))

-- ---- the calls, over told pages

module _ (pages : Pages) (l : Log) (log : ℕ) (same : l.page ≡ log) (listed : IsListed l pages) where
  node_is : log_node l.page ≡ log_node log
  node_is = ap log_node same

  all_is : log_nodes (listed.before ++ l ∷ listed.behind) ≡ log_nodes listed.before ++ log_node log ∷ log_nodes listed.behind
  all_is = nodes_join listed.before (l ∷ listed.behind) ∙ ap (λ (a : Address). log_nodes listed.before ++ a ∷ log_nodes listed.behind) node_is

  pub list_there : IsList pages active_base (log_nodes listed.before ++ log_node log ∷ log_nodes listed.behind)
  list_there = subst (IsList pages active_base) all_is listed.list

module _ (pages : Pages) (t0 t1 : Option Pages) (l : Log) (log page : ℕ) (e : Entry) (is : t0 ≡ Some pages) (same : l.page ≡ log) (can : CanAppend l pages) (records : records_of l ≡ e ∷ []) (on : e.at.page ≡ page) (listed : IsListed l pages)
    (removes : (ps : Pages) (xs ys : List Address) → t0 ≡ Some ps → IsList ps active_base (xs ++ log_node log ∷ ys) → Becomes t1 (ChangesList active_base (xs ++ log_node log ∷ ys) (xs ++ ys) ps)) where
  removed : Becomes t1 (ChangesList active_base (log_nodes listed.before ++ log_node log ∷ log_nodes listed.behind) (log_nodes listed.before ++ log_nodes listed.behind) pages)
  removed = removes pages (log_nodes listed.before) (log_nodes listed.behind) is (list_there pages l log same listed)

  outside : SameOutside (list_spans active_base (log_nodes (listed.before ++ l ∷ listed.behind))) pages removed.0
  outside = subst (λ (ns : List Address). SameOutside (list_spans active_base ns) pages removed.0) (sym (all_is pages l log same listed)) removed.2.outside

  one : Single l.parts l.page e
  one = single pages l.page l.parts e can.stands.parts records

  page_is : page ≡ one.page
  page_is = sym on ∙ one.same_page

  used_page : IsUsed pages page
  used_page =
      let used : PartsUsed pages (page_with one.page (e ∷ []) ∷ one.older) = subst (PartsUsed pages) one.is (parts_used pages l.parts can.room.used) in
      subst (IsUsed pages) (sym page_is) used.1

  map_then : IsMap removed.0
  map_then = map_beside 82 (lit≤ tt) (lit≤ tt) (listed.before ++ l ∷ listed.behind) pages removed.0 outside can.room.map

  page_then : IsUsed removed.0 page
  page_then = used_beside 82 (lit≤ tt) (lit≤ tt) (listed.before ++ l ∷ listed.behind) pages removed.0 outside page used_page

  log_then : IsUsed removed.0 log
  log_then = subst (IsUsed removed.0) same (used_beside 82 (lit≤ tt) (lit≤ tt) (listed.before ++ l ∷ listed.behind) pages removed.0 outside l.page can.room.log_used)

  -- the map takes both pages back
  pub may_give : {X : Type 0} → ((ps : Pages) → t1 ≡ Some ps → IsMap ps → IsUsed ps page → IsUsed ps log → X) → X
  may_give then = then removed.0 removed.1 map_then page_then log_then

  pub log_ended : (t2 : Option Pages) → ((ps : Pages) → t1 ≡ Some ps → IsMap ps → IsUsed ps page → IsUsed ps log → Becomes t2 (GivesBoth page log ps)) → Becomes t2 (GivesLog l pages)
  log_ended t2 give =
      let u = removed.0 in
      let b = give removed.0 removed.1 map_then page_then log_then in (
        b.0,
        b.1,
        record {
          unlinked = u;
          unlinks = λ before after list. unlinked active_base pages t0 t1 (log_node log) u is removed.1 removes before l after (node_is pages l log same listed) list;
          gives = keeps_both l page u b.0 (subst (λ (n : ℕ). (pages_in l.parts ≡ l.page ∷ [] × (n ≡ l.page)) ⊎ (pages_in l.parts ≡ n ∷ l.page ∷ [] × (n ≢ l.page))) (sym page_is) one.own) (subst (λ (n : ℕ). GivesBoth page n u b.0) (sym same) b.2);
        },
      )

-- a page given back and then the log's first page, which is another: both are given back
pub both_given : (t1 t2 : Option Pages) (pages : Pages) (page log : ℕ) → (page ≡ log → ⊥) → IsUsed pages log → Becomes t1 (GivesPage page pages)
    → ((ps : Pages) → t1 ≡ Some ps → IsMap ps → IsUsed ps log → Becomes t2 (GivesPage log ps)) → Becomes t2 (GivesBoth page log pages)
both_given t1 t2 pages page log other used first second =
    let b = second first.0 first.1 first.2.map (first.2.change.others log (λ e. other (sym e)) ∙ used) in
    (b.0, b.1, inr (other, (first.0, first.2, b.2)))

pub both_give : {X : Type 0} (t1 : Option Pages) (pages : Pages) (page log : ℕ) → (page ≡ log → ⊥) → IsUsed pages log → Becomes t1 (GivesPage page pages)
    → ((ps : Pages) → t1 ≡ Some ps → IsMap ps → IsUsed ps log → X) → X
both_give t1 pages page log other used first then = then first.0 first.1 first.2.map (first.2.change.others log (λ e. other (sym e)) ∙ used)

pub one_given : (t1 : Option Pages) (pages : Pages) (page log : ℕ) → page ≡ log → Becomes t1 (GivesPage log pages) → Becomes t1 (GivesBoth page log pages)
one_given t1 pages page log same first = (first.0, first.1, inl (same, first.2))

-- ---- whether another record is before it

-- where the address of the record before is on the null page, there is no record before
pub none_before : (pages : Pages) (count : ℕ) (older : List Entry) → AreWhole pages count → count < 2 ^ 32 → AreChained pages older → (newest older).page ≡ null_page → older ≡ []
none_before pages count [] whole few chain null = refl
none_before pages count (f ∷ older) whole few chain null =
    absurd (let is = chain.0 in let p = is.page in let w = whole.many in let z : 4_294_967_295 < 4_294_967_295 = omega (arith, p, w, few, null) in omega (arith, z))

-- where it is on another page, there is one
pub some_before : (older : List Entry) → ((newest older).page ≡ null_page → ⊥) → (f : Entry) × (rest : List Entry) × (older ≡ f ∷ rest)
some_before [] other = absurd (other refl)
some_before (f ∷ rest) other = (f, rest, refl)

-- ---- the newest record, as it was read

module _ (pages : Pages) (l : Log) (log : ℕ) (e : Entry) (older : List Entry) (told : Option Pages) (a : Address) (is : told ≡ Some pages) (same : l.page ≡ log) (can : CanAppend l pages) (records : records_of l ≡ e ∷ older) (read : IfSome told (λ ps. a ≡ last_field ps log)) where
  newest_here : (last_field pages l.page ≡ e.at) × IsRecordAt pages e.at e.undo (newest older)
  newest_here = newest_stands pages l e older can.stands (not_purging l.state can.active) records

  pub at_newest : a ≡ e.at
  at_newest = told_is (λ ps. a ≡ last_field ps log) told pages is read ∙ ap (last_field pages) (sym same) ∙ newest_here.0

  pub stands_there : IsRecordAt pages a e.undo (newest older)
  stands_there = subst (λ (x : Address). IsRecordAt pages x e.undo (newest older)) (sym at_newest) newest_here.1

-- the records before a log's newest one are chained
pub chain_behind : (pages : Pages) (l : Log) (e : Entry) (older : List Entry) → IsLog pages l → records_of l ≡ e ∷ older → AreChained pages older
chain_behind pages l e older log records = (let chain : AreChained pages (e ∷ older) = subst (AreChained pages) records log.chain in chain.1)
