-- What a call writes into pages of its own leaves the store as it stands.
use Rattle.std.proofs.Common.{◌≡◌, inl, inr, ℕ, ◌+◌, ◌≤◌, List, [], ◌∷◌, ◌++◌, map, ◌∙◌, arith, lit≤}
use Rattle.page_model.specs.Pages.{Pages, field}
use Rattle.page_model.specs.Spans.{Span, span, IsApartFromAll, AreApart, SameOutside}
use Rattle.page_model.specs.Lists.{node_span}
use Rattle.page_model.proofs.FrameLemmas.{field_kept}
use Rattle.page_model.proofs.ListLemmas.{list_kept}
use Rattle.page_model.proofs.SpanLemmas.{from_join}
use Rattle.page_model.specs.Counts.{times}
use Rattle.page_space.specs.Map.{map_spans}
use Rattle.store_data.specs.Store.{Lob}
use Rattle.lob_model.specs.Lobs.{lob_pages, lob_spans}
use Rattle.lob_model.proofs.KeptLemmas.{lob_kept}
use Rattle.undo_model.specs.Data.{Log}
use Rattle.undo_model.specs.Logs.{log_node, log_spans}
use Rattle.undo_model.specs.LogLists.{pages_in, all_pages, log_nodes, active_base, committed_base}
use Rattle.undo_model.specs.Rows.{RowPage, row_base, page_spans}
use Rattle.undo_model.proofs.LogLemmas.{log_kept}
use Rattle.undo_model.proofs.RowLemmas.{rows_kept}
use Rattle.page_model.proofs.CountLemmas.{times-append}
use Rattle.store_parts.specs.Stored.{Stored, row_pages, pages_of, part_pages, held}
use Rattle.store_parts.specs.Standing.{mark, AreThere, AreLobs, IsStoreBut, AreOn, AreOffNodes, Moves}
use Rattle.store_parts.proofs.CountLemmas.{mark_small, on_wider, apart_on, off_page, on_pages, on_rows, on_parts, first_on}

-- the pages of a store's parts count as those of its rows, its logs and its LOBs, added up
pub times-parts : (n : ℕ) (s : Stored)
    → times n (part_pages s) ≡ times n (row_pages s.rows) + (times n (all_pages s.active) + (times n (all_pages s.committed) + times n (pages_of s.lobs)))
times-parts n s =
    let a = times-append n (row_pages s.rows) (all_pages s.active ++ (all_pages s.committed ++ pages_of s.lobs)) in
    let b = times-append n (all_pages s.active) (all_pages s.committed ++ pages_of s.lobs) in
    let c = times-append n (all_pages s.committed) (pages_of s.lobs) in
    omega (arith, a, b, c)

-- ---- what lies in page 0

-- bytes of page 0 before the count of free pages are apart from this and from the map's bits
pub off_map_low : (at size : ℕ) → at + size ≤ 62 → IsApartFromAll map_spans (span 0 at size)
off_map_low at size low = (inr (inl low), (inr (inl (omega (arith, low))), tt))

-- and so are those between this count and these bits
pub off_map_between : (at size : ℕ) → 66 ≤ at → at + size ≤ 128 → IsApartFromAll map_spans (span 0 at size)
off_map_between at size high low = (inr (inr (omega (arith, high))), (inr (inl low), tt))

-- ---- spans xs in pages ns, which are none of these parts
module _ (ns : List ℕ) (xs : List Span) (old new : Pages) (same : SameOutside xs old new) (on : AreOn ns xs) where
  pub lobs_kept : (ls : List Lob) → ((n : ℕ) → 1 ≤ times n (pages_of ls) → times n ns ≡ 0) → AreLobs old ls → AreLobs new ls
  lobs_kept [] none are = tt
  lobs_kept (l ∷ more) none are = (
    lob_kept xs old new l same (apart_on ns (lob_pages l) xs (lob_spans l) (λ n h. none n (let a = times-append n (lob_pages l) (pages_of more) in omega (arith, a, h))) on (on_pages (lob_pages l))) are.0,
    lobs_kept more (λ n h. none n (let a = times-append n (lob_pages l) (pages_of more) in omega (arith, a, h))) are.1,
  )

  pub logs_kept : (ls : List Log) → ((n : ℕ) → 1 ≤ times n (all_pages ls) → times n ns ≡ 0) → AreThere old ls → AreThere new ls
  logs_kept [] none are = tt
  logs_kept (l ∷ more) none are = (
    elim are.0 [
      | inl out ↦ inl out
      | inr log ↦ inr (log_kept xs old new l same (apart_on ns (pages_in l.parts) xs (log_spans l) (λ n h. none n (let a = times-append n (pages_in l.parts) (all_pages more) in omega (arith, a, h))) on (on_parts l.parts)) log)
    ],
    logs_kept more (λ n h. none n (let a = times-append n (pages_in l.parts) (all_pages more) in omega (arith, a, h))) are.1,
  )

  -- the nodes of their first pages
  pub nodes_apart : (ls : List Log) → ((n : ℕ) → 1 ≤ times n (all_pages ls) → times n ns ≡ 0) → AreThere old ls → AreOffNodes xs ls → AreApart xs (map node_span (log_nodes ls))
  nodes_apart [] none are off = tt
  nodes_apart (l ∷ more) none are off = (
    elim are.0 [
      | inl out ↦ off.0 out
      | inr log ↦ off_page ns xs (node_span (log_node l.page)) on
          (none l.page (let f = first_on old l.page l.parts log.parts in let a = times-append l.page (pages_in l.parts) (all_pages more) in omega (arith, f, a)))
    ],
    nodes_apart more (λ n h. none n (let a = times-append n (pages_in l.parts) (all_pages more) in omega (arith, a, h))) are.1 off.1,
  )

  pub row_pages_apart : (rows : List RowPage) → ((n : ℕ) → 1 ≤ times n (row_pages rows) → times n ns ≡ 0) → AreApart xs (page_spans rows)
  row_pages_apart rows none = apart_on ns (row_pages rows) xs (page_spans rows) none on (on_rows rows)

-- ---- the frame

module _ (own own' : List ℕ) (ss : List Span) (old new : Pages) (s : Stored) (is : Moves own own' ss old new) (st : IsStoreBut own old s) where
  marks' : (n : ℕ) → times n (held s) + times n own' ≡ mark new n
  marks' n = let a = is.marks n in let b = st.marks n in omega (arith, a, b)

  ns : List ℕ
  ns = 0 ∷ (own ++ own')

  none : (n : ℕ) → 1 ≤ times n (part_pages s) → times n ns ≡ 0
  unfolding ns
  none n h =
      let m = mark_small new n in
      let k = mark_small old n in
      let e = marks' n in
      let f = st.marks n in
      let a = times-append n own own' in
      omega (arith, m, k, e, f, a, h)

  zero_own : times 0 (own ++ own') ≡ 0
  zero_own =
      let m = mark_small new 0 in
      let k = mark_small old 0 in
      let e = marks' 0 in
      let f = st.marks 0 in
      let a = times-append 0 own own' in
      omega (arith, m, k, e, f, a)

  xs : List Span
  xs = map_spans ++ ss

  on : AreOn ns xs
  unfolding xs ns
  on = let z : 1 ≤ times 0 (0 ∷ (own ++ own')) = omega arith in (z, (z, on_wider (own ++ own') (0 ∷ (own ++ own')) ss (λ n. omega arith) is.on))

  off_zero : (at size : ℕ) → IsApartFromAll map_spans (span 0 at size) → IsApartFromAll xs (span 0 at size)
  unfolding xs
  off_zero at size off = from_join map_spans ss (span 0 at size) off (off_page (own ++ own') ss (span 0 at size) is.on zero_own)

  pub moved : AreOffNodes (map_spans ++ ss) s.active → AreOffNodes (map_spans ++ ss) s.committed → IsStoreBut own' new s
  unfolding xs
  moved off off' =
      let same : SameOutside xs old new = is.outside in
      let none_rows : (n : ℕ) → 1 ≤ times n (row_pages s.rows) → times n ns ≡ 0 = λ n h. none n (let p = times-parts n s in omega (arith, p, h)) in
      let none_active : (n : ℕ) → 1 ≤ times n (all_pages s.active) → times n ns ≡ 0 = λ n h. none n (let p = times-parts n s in omega (arith, p, h)) in
      let none_committed : (n : ℕ) → 1 ≤ times n (all_pages s.committed) → times n ns ≡ 0 = λ n h. none n (let p = times-parts n s in omega (arith, p, h)) in
      let none_lobs : (n : ℕ) → 1 ≤ times n (pages_of s.lobs) → times n ns ≡ 0 = λ n h. none n (let p = times-parts n s in omega (arith, p, h)) in
      let keep : (at width : ℕ) → at + width ≤ 62 → field new 0 at width ≡ field old 0 at width = λ at width low. field_kept xs old new 0 at width same (off_zero at width (off_map_low at width low)) in
      record {
        system = record {
          type = keep 24 2 (lit≤ tt) ∙ st.system.type;
          next_trx = keep 38 8 (lit≤ tt) ∙ st.system.next_trx;
          commits = keep 46 8 (lit≤ tt) ∙ st.system.commits;
          purged = keep 54 8 (lit≤ tt) ∙ st.system.purged;
        };
        map = is.map;
        rows = rows_kept xs old new row_base s.rows same (off_zero 66 16 (off_map_between 66 16 (lit≤ tt) (lit≤ tt)), row_pages_apart ns xs old new same on s.rows none_rows) st.rows;
        active_list = list_kept xs old new active_base (log_nodes s.active) same
            (off_zero 82 16 (off_map_between 82 16 (lit≤ tt) (lit≤ tt)), nodes_apart ns xs old new same on s.active none_active st.active off) st.active_list;
        committed_list = list_kept xs old new committed_base (log_nodes s.committed) same
            (off_zero 98 16 (off_map_between 98 16 (lit≤ tt) (lit≤ tt)), nodes_apart ns xs old new same on s.committed none_committed st.committed off') st.committed_list;
        active = logs_kept ns xs old new same on s.active none_active st.active;
        committed = logs_kept ns xs old new same on s.committed none_committed st.committed;
        lobs = lobs_kept ns xs old new same on s.lobs none_lobs st.lobs;
        marks = marks';
      }
