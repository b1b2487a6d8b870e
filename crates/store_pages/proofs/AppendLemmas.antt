-- A record appended to a log, as a change of the log that keeps the rest of a store.
use Rattle.std.proofs.Common.{◌≡◌, ◌≢◌, ◌⊎◌, inl, inr, ℕ, ◌+◌, ◌<◌, ◌≤◌, ◌==◌, Bool, true, false, cond, List, [], ◌∷◌, ◌++◌, map, Some, refl, sym, ap, subst, ◌∙◌, arith, lit≤}
use Rattle.std.proofs.lemmas.Bool.{cases_eq, ne_eqb}
use Rattle.std.proofs.lemmas.Bool.Decides.{eqb_tells}
use Rattle.page_model.specs.Pages.{Pages, Address}
use Rattle.page_model.specs.Spans.{Span, span, IsApartFromAll, AreApart, SameOutside}
use Rattle.page_model.specs.Lists.{node_span, list_spans}
use Rattle.page_model.proofs.FrameLemmas.{outside_wider, off_part}
use Rattle.page_model.proofs.SpanLemmas.{apart_sym}
use Rattle.store_data.specs.Logs.{put_page, with_entry}
use Rattle.page_model.specs.Counts.{one_if, times}
use Rattle.page_space.specs.Map.{map_spans, place_of}
use Rattle.store_data.specs.Store.{LogState, active, Record as PlainRecord, Log, Store}
use Rattle.undo_model.specs.Data.{Record, Entry, Part, Log as LogThere}
use Rattle.undo_model.specs.Logs.{IsLog, log_node, node_of, nodes_in, records_in, records_of, part_spans, log_spans, pages_base}
use Rattle.undo_model.specs.LogSteps.{appended, put_part}
use Rattle.undo_model.specs.LogLists.{pages_in}
use Rattle.store_parts.specs.Appends.{OpensPage, open_spans, AppendsRecord, newest_of}
use Rattle.store_model.specs.Steps.{log_of as log_in_list}
use Rattle.page_model.proofs.CountLemmas.{times-append, times_here}
use Rattle.store_parts.specs.Standing.{mark, IsStoreBut, AreOn}
use Rattle.store_parts.specs.Shows.{log_of, record_of, entries_of, due_in, IsStore}
use Rattle.store_parts.specs.Keeps.{Keeps, IsWithin}
use Rattle.store_parts.specs.Logs.{ChangesLog}
use Rattle.store_pages.specs.Changes.{RecordsChange}
use Rattle.store_parts.proofs.CountLemmas.{mark_small, on_wider, on_parts, first_on}
use Rattle.store_pages.proofs.NodeLemmas.{node_off_parts}
use Rattle.store_parts.proofs.MoveLemmas.{mark_at, taken_marks}
use Rattle.store_pages.proofs.LogStoreLemmas.{some_parts, log_at}
use Rattle.store_parts.proofs.KeepLemmas.{keeps_move, keeps_write}

-- ---- plain data

pages_put : (e : Entry) (parts : List Part) → pages_in (put_part e parts) ≡ put_page e.at.page (pages_in parts)
pages_put e [] = refl
pages_put e (p ∷ older) = by (p.page == e.at.page)
  where
    by : (b : Bool) → pages_in (cond b (record { page = p.page; records = e ∷ p.records } ∷ older) (record { page = e.at.page; records = e ∷ [] } ∷ p ∷ older))
        ≡ cond b (p.page ∷ pages_in older) (e.at.page ∷ p.page ∷ pages_in older)
    by true = refl
    by false = refl

records_put : (e : Entry) (parts : List Part) → records_in (put_part e parts) ≡ e ∷ records_in parts
records_put e [] = refl
records_put e (p ∷ older) = by (p.page == e.at.page)
  where
    by : (b : Bool) → records_in (cond b (record { page = p.page; records = e ∷ p.records } ∷ older) (record { page = e.at.page; records = e ∷ [] } ∷ p ∷ older))
        ≡ e ∷ (p.records ++ records_in older)
    by true = refl
    by false = refl

appended_shows : (l : LogThere) (e : Entry) → l.state ≡ active → log_of (appended e l) ≡ with_entry e.at (record_of e.undo) (log_of l)
appended_shows l e is =
    let all : (xs : List Entry) → due_in l.state l.next xs ≡ xs = λ xs. ap (λ (st : LogState). due_in st l.next xs) is in
    let mk : List ℕ → List (Address × PlainRecord) → Log = λ ps rs. record { page = l.page; trx = l.trx; state = l.state; number = l.commit; pages = ps; records = rs } in
    let x : entries_of (due_in l.state l.next (records_in (put_part e l.parts))) ≡ (e.at, record_of e.undo) ∷ entries_of (due_in l.state l.next (records_of l)) =
    ap entries_of (all (records_in (put_part e l.parts)) ∙ records_put e l.parts) ∙ ap (λ (ys : List (Address × PlainRecord)). (e.at, record_of e.undo) ∷ ys) (sym (ap entries_of (all (records_of l)))) in
    ap (λ ps. mk ps (entries_of (due_in l.state l.next (records_in (put_part e l.parts))))) (pages_put e l.parts)
    ∙ ap (λ rs. mk (put_page e.at.page (pages_in l.parts)) rs) x

-- ---- spans

flip_back : (ts : List Span) (s : Span) → AreApart (s ∷ []) ts → AreApart ts (s ∷ [])
flip_back ts s apart = (one ts apart, tt)
  where
    one : (us : List Span) → AreApart (s ∷ []) us → IsApartFromAll us s
    one [] a = tt
    one (u ∷ us) a = (apart_sym s u a.0.0, one us a.1)

within_first : (pages : Pages) (l : LogThere) → IsLog pages l → IsWithin (l.page ∷ []) (pages_in l.parts)
within_first pages l log n = elim (cases_eq l.page n) [
  | inl same ↦ subst (λ k. times k (l.page ∷ []) ≤ times k (pages_in l.parts)) same
      (let f = first_on pages l.page l.parts log.parts in let h = one_most (l.page == l.page) in omega (arith, f, h))
  | inr other ↦ (let z : one_if (l.page == n) ≡ 0 = ap one_if (ne_eqb l.page n other) in omega (arith, z))
]
  where
    one_most : (b : Bool) → one_if b ≤ 1
    one_most true = lit≤ tt
    one_most false = lit≤ tt

-- nodes of the log's pages lie before the node of its first page
page_nodes_off : (first : ℕ) (parts : List Part) (page : ℕ) → IsApartFromAll (map node_span (nodes_in parts ++ node_of page ∷ [])) (node_span (log_node first))
page_nodes_off first parts page = one (nodes_in parts) (ends parts)
  where
    ends : (ps : List Part) → IsApartFromAll (map node_span (nodes_in ps)) (node_span (log_node first))
    ends [] = tt
    ends (p ∷ older) = join (nodes_in older) (ends older)
      where
        join : (xs : List Address) → IsApartFromAll (map node_span xs) (node_span (log_node first)) → IsApartFromAll (map node_span (xs ++ node_of p.page ∷ [])) (node_span (log_node first))
        join [] a = (inr (inr (lit≤ tt)), tt)
        join (x ∷ xs) a = (a.0, join xs a.1)

    one : (xs : List Address) → IsApartFromAll (map node_span xs) (node_span (log_node first)) → IsApartFromAll (map node_span (xs ++ node_of page ∷ [])) (node_span (log_node first))
    one [] a = (inr (inr (lit≤ tt)), tt)
    one (x ∷ xs) a = (a.0, one xs a.1)

page_nodes_on : (parts : List Part) → AreOn (pages_in parts) (map node_span (nodes_in parts))
page_nodes_on [] = tt
page_nodes_on (p ∷ older) = join (nodes_in older) (on_wider (pages_in older) (p.page ∷ pages_in older) (map node_span (nodes_in older)) (λ n. omega arith) (page_nodes_on older))
  where
    join : (xs : List Address) → AreOn (p.page ∷ pages_in older) (map node_span xs) → AreOn (p.page ∷ pages_in older) (map node_span (xs ++ node_of p.page ∷ []))
    join [] a = (times_here p.page (pages_in older), tt)
    join (x ∷ xs) a = (a.0, join xs a.1)

one_more : (ns : List ℕ) (page : ℕ) (xs : List Address) → AreOn ns (map node_span xs) → 1 ≤ times page ns → AreOn ns (map node_span (xs ++ node_of page ∷ []))
one_more ns page [] on here = (here, tt)
one_more ns page (x ∷ xs) on here = (on.0, one_more ns page xs on.1 here)

-- ---- a page opened

opens_keeps : (l : LogThere) (page : ℕ) (old mid : Pages) → IsLog old l → OpensPage l.page (nodes_in l.parts) page old mid → Keeps (l.page ∷ []) (pages_in l.parts) (page ∷ pages_in l.parts) old mid
opens_keeps l page old mid log is =
    let own = pages_in l.parts in
    let own2 = own ++ (page ∷ own) in
    let ss = span page 0 56 ∷ list_spans (pages_base l.page) (nodes_in l.parts ++ node_of page ∷ []) in
    let count : (n : ℕ) → times n own2 ≡ times n own + times n (page ∷ own) = λ n. times-append n own (page ∷ own) in
    let here : 1 ≤ times page own2 = (let c = count page in let h = times_here page own in omega (arith, c, h)) in
    let first : 1 ≤ times l.page own2 = (let c = count l.page in let f = first_on old l.page l.parts log.parts in omega (arith, c, f)) in
    let few = is.map.size.few in
    let many = is.outside.many in
    let below : page < 32_768 = (let t = is.there in omega (arith, few, many, t)) in
    keeps_move (l.page ∷ []) own (page ∷ own) ss old mid (within_first old l log)
    ((inr (inr (lit≤ tt)), (inr (inl (lit≤ tt)), page_nodes_off l.page l.parts page)), tt)
    (record {
      outside = outside_wider (open_spans l.page (nodes_in l.parts) page) (map_spans ++ ss) old mid
          (λ n k off. (off.0, (off_part 0 128 4_096 (place_of page) 1 n k (omega arith) (omega (arith, below)) off.1.0, (off.1.1.0, off.1.1.1)))) is.outside;
      on = (here, (first, one_more own2 page (nodes_in l.parts) (on_wider own own2 (map node_span (nodes_in l.parts)) (λ n. let c = count n in omega (arith, c)) (page_nodes_on l.parts)) here));
      map = is.map;
      marks = taken_marks own page old mid is.there many is.free is.used is.others;
    })

-- ---- the record written

writes_keeps : (l : LogThere) (e : Entry) (own : List ℕ) (mid new : Pages) → own ≡ pages_in (put_part e l.parts) → IsWithin (l.page ∷ []) own
    → IsLog new (appended e l) → SameOutside (log_spans (appended e l)) mid new → Keeps (l.page ∷ []) own own mid new
writes_keeps l e own mid new is within log same = λ s outs outs' st.
    let parts = put_part e l.parts in
    let once : (n : ℕ) → times n (pages_in parts) ≤ 1 = λ n. (let m = mark_small mid n in let k = st.marks n in let c : times n own ≡ times n (pages_in parts) = ap (times n) is in omega (arith, m, k, c)) in
    let apart = flip_back (part_spans parts) (node_span (log_node l.page)) (node_off_parts new l.page parts log.parts once) in
    keeps_write (l.page ∷ []) own (part_spans parts) mid new within apart same (subst (λ ns. AreOn ns (part_spans parts)) (sym is) (on_parts parts)) s outs outs' st

-- ---- both

put_same : (n : ℕ) (parts : List Part) → n ≡ newest_of parts → parts ≢ [] → put_page n (pages_in parts) ≡ pages_in parts
put_same n [] is some = absurd (some refl)
put_same n (p ∷ older) is some = ap (λ (b : Bool). cond b (p.page ∷ pages_in older) (n ∷ p.page ∷ pages_in older)) (same (eqb_tells p.page n))
  where
    same : (((p.page == n) ≡ true) × (p.page ≡ n)) ⊎ (((p.page == n) ≡ false) × (p.page ≢ n)) → (p.page == n) ≡ true
    same (inl yes') = yes'.0
    same (inr other) = absurd (other.1 (sym is))

put_other : (n : ℕ) (parts : List Part) → times n (pages_in parts) ≡ 0 → put_page n (pages_in parts) ≡ n ∷ pages_in parts
put_other n [] none = refl
put_other n (p ∷ older) none = ap (λ (b : Bool). cond b (p.page ∷ pages_in older) (n ∷ p.page ∷ pages_in older)) (other (eqb_tells p.page n))
  where
    other : (((p.page == n) ≡ true) × (p.page ≡ n)) ⊎ (((p.page == n) ≡ false) × (p.page ≢ n)) → (p.page == n) ≡ false
    other (inl same) = absurd (no (let e : one_if (p.page == n) ≡ 1 = ap one_if same.0 in omega (arith, none, e)))
      where
        no : 1 ≤ 0 → ⊥
        no h = absurd (omega arith)
    other (inr is) = is.0

append_keeps : (l : LogThere) (r : Record) (roll : ℕ) (old new : Pages) → IsLog old l → (is : AppendsRecord l r roll old new)
    → Keeps (l.page ∷ []) (pages_in l.parts) (pages_in (put_part (record { at = is.at; undo = r }) l.parts)) old new
append_keeps l r roll old new log is = elim is.opens.1 [
  | inl here ↦ (
      let pages : pages_in l.parts ≡ pages_in (put_part e l.parts) = sym (pages_put e l.parts ∙ put_same e.at.page l.parts here.1 (some_parts old l.page l.parts log.parts)) in
      let keeps = writes_keeps l e (pages_in l.parts) is.opens.0 new pages (within_first old l log) is.stands is.opens.2 in
      subst (λ ns. Keeps (l.page ∷ []) (pages_in l.parts) ns old new) pages (subst (λ ps. Keeps (l.page ∷ []) (pages_in l.parts) (pages_in l.parts) ps new) here.0 keeps)
      )
  | inr opened ↦ (λ s outs outs' st. (
      let page = e.at.page in
      let own = pages_in l.parts in
      let none : times page own ≡ 0 = (let m = st.marks page in let f : mark old page ≡ 0 = mark_at old page opened.there ∙ opened.free in omega (arith, m, f)) in
      let pages : page ∷ own ≡ pages_in (put_part e l.parts) = sym (pages_put e l.parts ∙ put_other page l.parts none) in
      let mid = is.opens.0 in
      let first = opens_keeps l page old mid log opened s outs outs' st in
      let within : IsWithin (l.page ∷ []) (page ∷ own) = λ n. (let w = within_first old l log n in omega (arith, w)) in
      let second = writes_keeps l e (page ∷ own) mid new pages within is.stands is.opens.2 s outs outs' first in
      subst (λ ns. IsStoreBut ns new s) pages second
      ))
]
  where
    e : Entry
    e = record { at = is.at; undo = r }

pub append_changes : (l : LogThere) (r : Record) (roll : ℕ) (old new : Pages) → IsLog old l → l.state ≡ active → (is : AppendsRecord l r roll old new)
    → ChangesLog (with_entry is.at (record_of r)) l old new
append_changes l r roll old new log is_active is = record {
  after = appended (record { at = is.at; undo = r }) l;
  stands = is.stands;
  shows = appended_shows l (record { at = is.at; undo = r }) is_active;
  same_page = refl;
  is_active = is_active;
  keeps = append_keeps l r roll old new log is;
}

-- in a store
pub append_recorded : (old new : Pages) (store : Store) (trx roll : ℕ) (x : Log) (r : Record) → IsStore old store → log_in_list store.active trx ≡ Some x
    → ((l : LogThere) → IsLog old l → log_of l ≡ x → l.state ≡ active → AppendsRecord l r roll old new) → RecordsChange trx r roll store new
append_recorded old new store trx roll x r is there appends =
    let at = log_at old store trx x is there in
    let a = appends at.log at.stands at.shows at.is_active in
    record {
      place = a.at;
      leads = a.roll_is;
      stands = at.changed new (with_entry a.at (record_of r)) (append_changes at.log r roll old new at.stands at.is_active a);
    }
