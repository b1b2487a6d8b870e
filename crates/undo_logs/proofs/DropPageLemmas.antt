-- A purged log without its newest page, and gone with its first one.
use Rattle.std.proofs.Common.{◌≡◌, ◌≢◌, ℕ, suc, ◌+◌, ◌<◌, true, false, List, [], ◌∷◌, ◌++◌, Option, Some, None, IfSome, refl, sym, ap, ap₂, ◌∙◌, subst, arith, lit≤}
use Rattle.page_model.specs.Pages.{Pages, Address, field}
use Rattle.page_model.specs.Spans.{SameOutside, SetsField}
use Rattle.page_model.specs.Lists.{IsList, list_spans}
use Rattle.page_model.specs.Steps.{Told, Becomes}
use Rattle.page_model.proofs.StepLemmas.{told_step}
use Rattle.page_space.specs.Map.{IsMap, IsUsed, GivesPage}
use Rattle.file_lists.specs.Changes.{ChangesList}
use Rattle.store_data.specs.Store.{LogState, active, purging, Record as ShownRecord, Log as ShownLog}
use Rattle.undo_model.specs.Data.{Entry, Part, Log}
use Rattle.undo_model.specs.Logs.{IsLog, LastIs, records_of, records_in, last_field, log_node, node_of, nodes_in, AreParts, IsDueIn}
use Rattle.undo_model.specs.LogLists.{log_nodes, committed_base, pages_in}
use Rattle.undo_model.proofs.OptionLemmas.{some_some}
use Rattle.store_parts.specs.Appends.{CanOpen, newest_of, newest_page_of}
use Rattle.store_parts.specs.Keeps.{Keeps}
use Rattle.store_parts.specs.Shows.{entries_of, due_in, log_of}
use Rattle.store_parts.specs.Logs.{ChangesOldest, PurgesLog}
use Rattle.store_parts.proofs.KeepLemmas.{keeps_give}
use Rattle.undo_logs.specs.Changes.{with_pages}
use Rattle.undo_logs.specs.Drops.{CanDrop, CanEnd, has_part}
use Rattle.undo_logs.specs.Pops.{DropsNode}
use Rattle.undo_logs.proofs.AppendLemmas.{not_first}
use Rattle.undo_logs.proofs.PopLemmas.{IsLogBut, left_but, left_keeps}
use Rattle.undo_logs.proofs.ToldLemmas.{told_is}
use Rattle.undo_logs.proofs.EndLemmas.{map_beside, used_beside}

-- ---- a page dropped

-- nothing is due, whichever records are left
none_due : (s : LogState) (next : Option Address) (rs : List Entry) → s ≡ purging → next ≡ None → due_in s next rs ≡ []
none_due s next rs is none = ap₂ (λ (x : LogState) (o : Option Address). due_in x o rs) is none

dropped_shows : (l : Log) (parts : List Part) → l.state ≡ purging → l.next ≡ None → log_of (record l { parts = parts }) ≡ with_pages (pages_in parts) (log_of l)
dropped_shows l parts is none =
    let mk : List (Address × ShownRecord) → ShownLog = λ rs. record { page = l.page; trx = l.trx; state = l.state; number = l.commit; pages = pages_in parts; records = rs } in
    ap mk (ap entries_of (none_due l.state l.next (records_in parts) is none) ∙ sym (ap entries_of (none_due l.state l.next (records_of l) is none)))

but_purging : (pages : Pages) (l : Log) → IsLogBut pages l → l.state ≡ purging → l.next ≡ None → IsLog pages l
but_purging pages l but state none = record {
  state = but.state;
  trx = but.trx;
  commit = but.commit;
  list = but.list;
  parts = but.parts;
  chain = but.chain;
  last = subst (λ (s : LogState). LastIs s (last_field pages l.page) (records_of l)) (sym state) tt;
  next = but.next;
  due = subst (λ (o : Option Address). IsDueIn o (records_of l)) (sym none) tt;
  numbered = but.numbered;
}

purging_other : (s : LogState) → s ≡ purging → s ≢ active
purging_other s is other = absurd (let e : purging ≡ active = sym is ∙ other in cc)

pub page_changes : (l : Log) (p q : Part) (older : List Part) (old new : Pages) → CanDrop l old → l.parts ≡ p ∷ q ∷ older → DropsNode l.page (nodes_in (q ∷ older)) p.page old new → ChangesOldest (with_pages (pages_in (q ∷ older))) l old new
page_changes l p q older old new can is drops = record {
  after = record l { parts = q ∷ older };
  stands = but_purging new (record l { parts = q ∷ older }) (left_but old new l p q older can.stands is can.room drops) can.begun can.passed;
  shows = dropped_shows l (q ∷ older) can.begun can.passed;
  same_page = refl;
  state = purging_other l.state can.begun;
  number = refl;
  keeps = left_keeps old new l p q older can.stands is can.room drops;
}

-- ---- the count of purged commits

-- the count of purged commits, as it was read, is that of the store
pub count_read : (pages : Pages) (told : Option Pages) (l : Log) (count purged : ℕ) → told ≡ Some pages → CanEnd l count pages → IfSome told (λ ps. purged ≡ field ps 0 54 8) → purged ≡ count
count_read pages told l count purged is can read = told_is (λ ps. purged ≡ field ps 0 54 8) told pages is read ∙ can.counted

-- a count of purged commits that was read has room for one more
pub count_most : {X : Type 0} (pages : Pages) (told : Option Pages) (l : Log) (count purged : ℕ) → told ≡ Some pages → CanEnd l count pages → IfSome told (λ ps. purged ≡ field ps 0 54 8) → purged ≡ 18_446_744_073_709_551_615 → X
count_most pages told l count purged is can read most =
    let e = count_read pages told l count purged is can read in
    let f = can.fits in
    absurd (let z : 18_446_744_073_709_551_615 < 18_446_744_073_709_551_615 = omega (arith, e, f, most) in omega (arith, z))

-- ---- the log gone

-- the oldest committed log is the first of its list
pub list_first : (pages : Pages) (l : Log) (log count : ℕ) → l.page ≡ log → (can : CanEnd l count pages) → IsList pages committed_base (log_node log ∷ log_nodes can.behind)
list_first pages l log count same can = subst (λ (n : ℕ). IsList pages committed_base (log_node n ∷ log_nodes can.behind)) same can.list

module _ (pages : Pages) (t0 t1 : Option Pages) (l : Log) (log count : ℕ) (is : t0 ≡ Some pages) (same : l.page ≡ log) (can : CanEnd l count pages)
    (removes : (ps : Pages) (ys : List Address) → t0 ≡ Some ps → IsList ps committed_base (log_node log ∷ ys) → Becomes t1 (ChangesList committed_base (log_node log ∷ ys) ys ps)) where
  removed : Becomes t1 (ChangesList committed_base (log_node log ∷ log_nodes can.behind) (log_nodes can.behind) pages)
  removed = removes pages (log_nodes can.behind) is (list_first pages l log count same can)

  -- whichever logs are behind it, they are left in the list
  left_behind : (behind : List Log) → IsList pages committed_base (log_nodes (l ∷ behind)) → IsList removed.0 committed_base (log_nodes behind) × SameOutside (list_spans committed_base (log_nodes (l ∷ behind))) pages removed.0
  left_behind behind list =
      let ns = log_nodes behind in
      let r = removes pages ns is (subst (λ (n : ℕ). IsList pages committed_base (log_node n ∷ ns)) same list) in
      let u : r.0 ≡ removed.0 = some_some r.0 removed.0 (sym r.1 ∙ removed.1) in
      let change : ChangesList committed_base (log_node log ∷ ns) ns pages removed.0 = subst (ChangesList committed_base (log_node log ∷ ns) ns pages) u r.2 in
      (change.list, subst (λ (n : ℕ). SameOutside (list_spans committed_base (log_node n ∷ ns)) pages removed.0) (sym same) change.outside)

  outside : SameOutside (list_spans committed_base (log_nodes (l ∷ can.behind))) pages removed.0
  outside = (left_behind can.behind can.list).1

  map_then : IsMap removed.0
  map_then = map_beside 98 (lit≤ tt) (lit≤ tt) (l ∷ can.behind) pages removed.0 outside can.drop.room.map

  log_then : IsUsed removed.0 log
  log_then = subst (IsUsed removed.0) same (used_beside 98 (lit≤ tt) (lit≤ tt) (l ∷ can.behind) pages removed.0 outside l.page can.drop.room.log_used)

  own_is : pages_in l.parts ≡ l.page ∷ []
  own_is =
      let are : AreParts pages l.page (can.part ∷ []) = subst (AreParts pages l.page) can.alone can.drop.stands.parts in
      ap pages_in can.alone ∙ ap (λ n. n ∷ []) are.0

  pub may_give : {X : Type 0} → ((ps : Pages) → t1 ≡ Some ps → IsMap ps → IsUsed ps log → X) → X
  may_give then = then removed.0 removed.1 map_then log_then

  pub log_purged : (t2 t3 : Option Pages) (purged : ℕ) → purged ≡ count → ((ps : Pages) → t1 ≡ Some ps → IsMap ps → IsUsed ps log → Becomes t2 (GivesPage log ps)) → Told (SetsField 0 54 8 (purged + 1)) t2 t3 → Becomes t3 (PurgesLog l count pages)
  log_purged t2 t3 purged read give sets =
      let next : purged + 1 ≡ suc count = omega (arith, read) in
      let counts : Told (SetsField 0 54 8 (suc count)) t2 t3 = subst (λ (n : ℕ). Told (SetsField 0 54 8 n) t2 t3) next sets in
      let u = removed.0 in
      let g = give removed.0 removed.1 map_then log_then in
      let b = told_step (SetsField 0 54 8 (suc count)) t2 t3 g.0 g.1 counts in (
        b.0,
        b.1,
        record {
          unlinked = u;
          given = g.0;
          unlinks = left_behind;
          gives = subst (λ ns. Keeps [] ns [] u g.0) (sym own_is) (keeps_give [] (l.page ∷ []) [] l.page u g.0 (λ n. omega arith) (λ n. omega arith) (subst (λ (n : ℕ). GivesPage n u g.0) (sym same) g.2));
          counts = b.2;
        },
      )

-- ---- which of both

-- the newest page is the first one exactly where the log has no other
pub newest_first : (pages : Pages) (l : Log) (p q : Part) (older : List Part) (log page : ℕ) → IsLog pages l → l.page ≡ log → l.parts ≡ p ∷ q ∷ older → page ≡ newest_page_of l → page ≡ log → ⊥
newest_first pages l p q older log page stands same is read first =
    let are : AreParts pages l.page (p ∷ q ∷ older) = subst (AreParts pages l.page) is stands.parts in
    not_first pages l.page p.page (q ∷ older) are.1 are.0.new (sym (ap newest_of is) ∙ sym read ∙ first ∙ sym same)

-- the newest page of a log with one page is the log's first page
pub newest_alone : (pages : Pages) (l : Log) (p : Part) (log page : ℕ) → IsLog pages l → l.page ≡ log → l.parts ≡ p ∷ [] → page ≡ newest_page_of l → page ≡ log
newest_alone pages l p log page stands same is read =
    let are : AreParts pages l.page (p ∷ []) = subst (AreParts pages l.page) is stands.parts in
    read ∙ ap newest_of is ∙ are.0 ∙ same

-- where the newest page is the first one, no other page is left
pub none_left : (pages : Pages) (l : Log) (p : Part) (older : List Part) (log page : ℕ) → IsLog pages l → l.page ≡ log → l.parts ≡ p ∷ older → page ≡ newest_page_of l → page ≡ log → false ≡ has_part older
none_left pages l p [] log page stands same is read first = refl
none_left pages l p (q ∷ older) log page stands same is read first = absurd (newest_first pages l p q older log page stands same is read first)

-- where the newest page is another one, a page is left
pub some_left : (pages : Pages) (l : Log) (p : Part) (older : List Part) (log page : ℕ) → IsLog pages l → l.page ≡ log → l.parts ≡ p ∷ older → page ≡ newest_page_of l → (page ≡ log → ⊥) → true ≡ has_part older
some_left pages l p [] log page stands same is read other = absurd (other (newest_alone pages l p log page stands same is read))
some_left pages l p (q ∷ older) log page stands same is read other = refl

module _ (pages : Pages) (l : Log) (p q : Part) (older : List Part) (log page : ℕ) (same : l.page ≡ log) (can : CanDrop l pages) (is : l.parts ≡ p ∷ q ∷ older) (read : page ≡ newest_page_of l) where
  page_is : page ≡ p.page
  page_is = read ∙ ap newest_of is

  -- the list's last node is that of the page
  pub can_drop_page : CanOpen log (nodes_in (q ∷ older) ++ node_of page ∷ []) pages
  can_drop_page =
      let room : CanOpen l.page (nodes_in (q ∷ older) ++ node_of p.page ∷ []) pages = subst (λ (ps : List Part). CanOpen l.page (nodes_in ps) pages) is can.room in
      subst (λ (n : ℕ). CanOpen n (nodes_in (q ∷ older) ++ node_of page ∷ []) pages) same
      (subst (λ (n : ℕ). CanOpen l.page (nodes_in (q ∷ older) ++ node_of n ∷ []) pages) (sym page_is) room)

  pub page_dropped : (t : Option Pages) → Becomes t (DropsNode log (nodes_in (q ∷ older)) page pages) → Becomes t (ChangesOldest (with_pages (pages_in (q ∷ older))) l pages)
  page_dropped t drops =
      let d : DropsNode l.page (nodes_in (q ∷ older)) p.page pages drops.0 = subst (λ (n : ℕ). DropsNode l.page (nodes_in (q ∷ older)) n pages drops.0) page_is (subst (λ (n : ℕ). DropsNode n (nodes_in (q ∷ older)) page pages drops.0) (sym same) drops.2) in
      (drops.0, drops.1, page_changes l p q older pages drops.0 can is d)
