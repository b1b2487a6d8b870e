-- Rows moved.
use Rattle.std.proofs.Common.{◌≡◌, inl, inr, ℕ, ◌+◌, ◌≤◌, List, ◌∷◌, ◌++◌, ◌∙◌, arith, lit≤}
use Rattle.page_model.specs.Pages.{Pages, field}
use Rattle.page_model.specs.Spans.{Span, span, IsApart, IsApartFromAll, SameOutside}
use Rattle.page_model.specs.Lists.{base_span}
use Rattle.page_model.proofs.FrameLemmas.{field_kept}
use Rattle.page_model.proofs.ListLemmas.{list_kept}
use Rattle.page_model.proofs.SpanLemmas.{from_join}
use Rattle.page_model.specs.Counts.{times}
use Rattle.page_space.specs.Map.{map_spans}
use Rattle.undo_model.specs.LogLists.{all_pages, log_nodes, active_base, committed_base}
use Rattle.undo_model.specs.Rows.{RowPage, row_base}
use Rattle.page_model.proofs.CountLemmas.{times-append, times_here}
use Rattle.store_parts.specs.Stored.{Stored, row_pages, pages_of, held, with_rows}
use Rattle.store_parts.specs.Standing.{mark, IsStoreBut, AreOn, AreOffNodes, MovesRows}
use Rattle.store_parts.proofs.CountLemmas.{mark_small, on_wider, off_page}
use Rattle.store_parts.proofs.FrameLemmas.{times-parts, off_map_low, off_map_between, lobs_kept, logs_kept, nodes_apart}

module _ (own own' : List ℕ) (rows' : List RowPage) (ss : List Span) (old new : Pages) (s : Stored) (is : MovesRows own own' s.rows rows' ss old new) (st : IsStoreBut own old s) where
  marks' : (n : ℕ) → times n (held (with_rows rows' s)) + times n own' ≡ mark new n
  marks' n =
      let a = is.marks n in
      let b = st.marks n in
      let p = times-parts n s in
      let q = times-parts n (with_rows rows' s) in
      omega (arith, a, b, p, q)

  ms : List ℕ
  ms = (own ++ row_pages s.rows) ++ (own' ++ row_pages rows')

  ns : List ℕ
  ns = 0 ∷ ms

  times-ms : (n : ℕ) → times n ms ≡ times n own + times n (row_pages s.rows) + (times n own' + times n (row_pages rows'))
  unfolding ms
  times-ms n =
      let a = times-append n (own ++ row_pages s.rows) (own' ++ row_pages rows') in
      let b = times-append n own (row_pages s.rows) in
      let c = times-append n own' (row_pages rows') in
      omega (arith, a, b, c)

  none : (n : ℕ) → 1 ≤ times n (all_pages s.active) + (times n (all_pages s.committed) + times n (pages_of s.lobs)) → times n ns ≡ 0
  unfolding ns
  none n h =
      let m = mark_small new n in
      let k = mark_small old n in
      let e = marks' n in
      let f = st.marks n in
      let p = times-parts n s in
      let q = times-parts n (with_rows rows' s) in
      let a = times-ms n in
      omega (arith, m, k, e, f, p, q, a, h)

  zero_own : times 0 ms ≡ 0
  zero_own =
      let m = mark_small new 0 in
      let k = mark_small old 0 in
      let e = marks' 0 in
      let f = st.marks 0 in
      let p = times-parts 0 s in
      let q = times-parts 0 (with_rows rows' s) in
      let a = times-ms 0 in
      omega (arith, m, k, e, f, p, q, a)

  xs : List Span
  xs = base_span row_base ∷ (map_spans ++ ss)

  on : AreOn ns xs
  unfolding xs ns ms
  on = let z = times_here 0 ms in (z, (z, (z, on_wider ms (0 ∷ ms) ss (λ n. omega arith) is.on)))

  off_zero : (at size : ℕ) → IsApart (base_span row_base) (span 0 at size) → IsApartFromAll map_spans (span 0 at size) → IsApartFromAll xs (span 0 at size)
  unfolding xs ms
  off_zero at size base off = (base, from_join map_spans ss (span 0 at size) off (off_page ms ss (span 0 at size) is.on zero_own))

  pub rows_moved : AreOffNodes (base_span row_base ∷ (map_spans ++ ss)) s.active → AreOffNodes (base_span row_base ∷ (map_spans ++ ss)) s.committed → IsStoreBut own' new (with_rows rows' s)
  unfolding xs
  rows_moved off off' =
      let same : SameOutside xs old new = is.outside in
      let none_active : (n : ℕ) → 1 ≤ times n (all_pages s.active) → times n ns ≡ 0 = λ n h. none n (omega (arith, h)) in
      let none_committed : (n : ℕ) → 1 ≤ times n (all_pages s.committed) → times n ns ≡ 0 = λ n h. none n (omega (arith, h)) in
      let none_lobs : (n : ℕ) → 1 ≤ times n (pages_of s.lobs) → times n ns ≡ 0 = λ n h. none n (omega (arith, h)) in
      let keep : (at width : ℕ) → at + width ≤ 62 → field new 0 at width ≡ field old 0 at width = λ at width low.
      field_kept xs old new 0 at width same (off_zero at width (inr (inl (omega (arith, low)))) (off_map_low at width low)) in
      record {
        system = record {
          type = keep 24 2 (lit≤ tt) ∙ st.system.type;
          next_trx = keep 38 8 (lit≤ tt) ∙ st.system.next_trx;
          commits = keep 46 8 (lit≤ tt) ∙ st.system.commits;
          purged = keep 54 8 (lit≤ tt) ∙ st.system.purged;
        };
        map = is.map;
        rows = is.stands;
        active_list = list_kept xs old new active_base (log_nodes s.active) same
            (off_zero 82 16 (inr (inr (lit≤ tt))) (off_map_between 82 16 (lit≤ tt) (lit≤ tt)), nodes_apart ns xs old new same on s.active none_active st.active off) st.active_list;
        committed_list = list_kept xs old new committed_base (log_nodes s.committed) same
            (off_zero 98 16 (inr (inr (lit≤ tt))) (off_map_between 98 16 (lit≤ tt) (lit≤ tt)), nodes_apart ns xs old new same on s.committed none_committed st.committed off') st.committed_list;
        active = logs_kept ns xs old new same on s.active none_active st.active;
        committed = logs_kept ns xs old new same on s.committed none_committed st.committed;
        lobs = lobs_kept ns xs old new same on s.lobs none_lobs st.lobs;
        marks = marks';
      }
