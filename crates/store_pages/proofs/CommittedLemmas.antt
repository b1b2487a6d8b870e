-- The list of committed logs changed, by the node of a log that is taken out.
use Rattle.std.proofs.Common.{◌≡◌, ◌⊎◌, inl, inr, ℕ, ◌+◌, ◌%◌, ◌≤◌, ◌==◌, List, [], ◌∷◌, ◌++◌, map, refl, sym, ap, subst, ◌∙◌, arith, lit≤}
use Rattle.std.specs.Int.{bit_at}
use Rattle.std.proofs.lemmas.List.{append_assoc}
use Rattle.page_model.specs.Pages.{Pages, field}
use Rattle.page_model.specs.Spans.{Span, span, IsApartFromAll, AreApart, SameOutside}
use Rattle.page_model.specs.Lists.{IsList, base_span, node_span, list_spans}
use Rattle.page_model.proofs.FrameLemmas.{field_kept}
use Rattle.page_model.proofs.ListLemmas.{list_kept}
use Rattle.page_model.specs.Counts.{one_if, times}
use Rattle.page_space.specs.Map.{place_of}
use Rattle.page_space.proofs.MapLemmas.{map_kept}
use Rattle.undo_model.specs.Data.{Log}
use Rattle.undo_model.specs.Logs.{IsLog, log_spans}
use Rattle.undo_model.specs.LogLists.{pages_in, all_pages, log_nodes, committed_base, active_base}
use Rattle.undo_model.specs.Rows.{row_base}
use Rattle.undo_model.proofs.LogLemmas.{log_kept}
use Rattle.undo_model.proofs.RowLemmas.{rows_kept}
use Rattle.page_model.proofs.CountLemmas.{times-append, times_here}
use Rattle.store_parts.specs.Stored.{Stored, row_pages, pages_of, with_committed}
use Rattle.store_parts.specs.Standing.{AreThere, IsStoreBut, AreOn, AreOffNodes, AreOutIn}
use Rattle.store_parts.proofs.CountLemmas.{mark_small, on_wider, apart_on, off_page, on_parts}
use Rattle.store_parts.proofs.FrameLemmas.{times-parts, lobs_kept, logs_kept, nodes_apart, row_pages_apart}
use Rattle.store_pages.proofs.PartLemmas.{times-logs}
use Rattle.store_pages.proofs.NodeLemmas.{on_nodes, node_off_parts, nodes_from, there_cut}
use Rattle.store_parts.proofs.MoveLemmas.{mark_same, off_zero_page}

-- `all` are the logs of the list before the change and after it; those of them that are taken out begin in pages of `own1`
module _ (own own1 : List ℕ) (all : List Log) (old new : Pages) (s : Stored) (st : IsStoreBut own old s) (there : AreThere old all) (pages_same : (n : ℕ) → times n (all_pages all) + times n own1 ≡ times n (all_pages s.committed) + times n own)
    (outs : AreOutIn own1 all) (same : SameOutside (list_spans committed_base (log_nodes all)) old new) where
  xs : List Span
  xs = list_spans committed_base (log_nodes all)

  ms : List ℕ
  ms = all_pages all ++ own1

  on : AreOn ms (map node_span (log_nodes all))
  unfolding ms
  on = on_nodes own1 old all there outs

  once : (n : ℕ) → times n ms + (one_if (0 == n) + (times n (row_pages s.rows) + (times n (all_pages s.active) + times n (pages_of s.lobs)))) ≤ 1
  unfolding ms
  once n =
      let m = mark_small old n in
      let e = st.marks n in
      let p = times-parts n s in
      let q = pages_same n in
      let a = times-append n (all_pages all) own1 in
      omega (arith, m, e, p, q, a)

  zero_ms : times 0 ms ≡ 0
  zero_ms = let o = once 0 in let h = times_here 0 [] in omega (arith, o, h)

  zero_apart : (at size : ℕ) → (at + size ≤ 98) ⊎ (114 ≤ at) → IsApartFromAll xs (span 0 at size)
  unfolding xs
  zero_apart at size side = (elim side [ inl low ↦ inr (inl low) | inr high ↦ inr (inr high) ], off_page ms (map node_span (log_nodes all)) (span 0 at size) on zero_ms)

  on_all : AreOn (0 ∷ ms) xs
  unfolding xs
  on_all = (times_here 0 ms, on_wider ms (0 ∷ ms) (map node_span (log_nodes all)) (λ n. omega arith) on)

  keep : (at width : ℕ) → at + width ≤ 98 → field new 0 at width ≡ field old 0 at width
  unfolding xs
  keep at width low = field_kept xs old new 0 at width same (zero_apart at width (inl low))

  -- each log's own bytes are apart from the nodes of all
  spans_apart : (us : List Log) (l : Log) (ws : List Log) → all ≡ us ++ l ∷ ws → IsLog old l → AreApart xs (log_spans l)
  unfolding xs ms
  spans_apart us l ws cut log =
      let pages : (n : ℕ) → times n (all_pages all) ≡ times n (pages_in l.parts) + times n (all_pages (us ++ ws)) = λ n. ap (λ ls. times n (all_pages ls)) cut ∙ times-logs n us l ws in
      let there' = there_cut old us l ws (subst (AreThere old) cut there) in
      let outs' = there_outs us l ws (subst (AreOutIn own1) cut outs) in
      let rest = all_pages (us ++ ws) ++ own1 in
      let on' : AreOn rest (map node_span (log_nodes (us ++ ws))) = on_nodes own1 old (us ++ ws) there' outs' in
      let small : (n : ℕ) → times n (0 ∷ rest) + times n (pages_in l.parts) ≤ 1 = λ n.
      let o = once n in
      let a = times-append n (all_pages all) own1 in
      let b = times-append n (all_pages (us ++ ws)) own1 in
      let c = pages n in
      omega (arith, o, a, b, c) in
      let none : (n : ℕ) → 1 ≤ times n (pages_in l.parts) → times n (0 ∷ rest) ≡ 0 = λ n h. let o = small n in omega (arith, o, h) in
      let others : AreApart (base_span committed_base ∷ map node_span (log_nodes (us ++ ws))) (log_spans l) =
      apart_on (0 ∷ rest) (pages_in l.parts) (base_span committed_base ∷ map node_span (log_nodes (us ++ ws))) (log_spans l) none
      (times_here 0 rest, on_wider rest (0 ∷ rest) (map node_span (log_nodes (us ++ ws))) (λ n. omega arith) on') (on_parts l.parts) in
      let mine = node_off_parts old l.page l.parts log.parts (λ n. let o = small n in omega (arith, o)) in
      subst (λ ls. AreApart (base_span committed_base ∷ map node_span (log_nodes ls)) (log_spans l)) (sym cut) (nodes_from (base_span committed_base) us l ws (log_spans l) mine others)
    where
      there_outs : (us : List Log) (l : Log) (ws : List Log) → AreOutIn own1 (us ++ l ∷ ws) → AreOutIn own1 (us ++ ws)
      there_outs [] l ws are = are.1
      there_outs (u ∷ us) l ws are = (are.0, there_outs us l ws are.1)

  logs_stay : (us ws : List Log) → all ≡ us ++ ws → AreThere old ws → AreThere new ws
  unfolding xs
  logs_stay us [] cut are = tt
  logs_stay us (l ∷ ws) cut are = (
    elim are.0 [ inl out ↦ inl out | inr log ↦ inr (log_kept xs old new l same (spans_apart us l ws cut log) log) ],
    logs_stay (us ++ l ∷ []) ws (cut ∙ sym (append_assoc us (l ∷ []) ws)) are.1,
  )

  pub listed_stay : AreThere new all
  listed_stay = logs_stay [] all refl there

  pub relisted : (own2 : List ℕ) (logs : List Log) → AreOffNodes (list_spans committed_base (log_nodes all)) s.active → IsList new committed_base (log_nodes logs)
      → (AreThere new all → AreThere new logs) → ((n : ℕ) → times n (all_pages logs) + times n own2 ≡ times n (all_pages s.committed) + times n own) → IsStoreBut own2 new (with_committed logs s)
  unfolding xs
  relisted own2 logs off list in_all pages_left =
      let none_rows : (n : ℕ) → 1 ≤ times n (row_pages s.rows) → times n (0 ∷ ms) ≡ 0 = λ n h. let o = once n in omega (arith, o, h) in
      let none_active : (n : ℕ) → 1 ≤ times n (all_pages s.active) → times n (0 ∷ ms) ≡ 0 = λ n h. let o = once n in omega (arith, o, h) in
      let none_lobs : (n : ℕ) → 1 ≤ times n (pages_of s.lobs) → times n (0 ∷ ms) ≡ 0 = λ n h. let o = once n in omega (arith, o, h) in
      record {
        system = record {
          type = keep 24 2 (lit≤ tt) ∙ st.system.type;
          next_trx = keep 38 8 (lit≤ tt) ∙ st.system.next_trx;
          commits = keep 46 8 (lit≤ tt) ∙ st.system.commits;
          purged = keep 54 8 (lit≤ tt) ∙ st.system.purged;
        };
        map = map_kept xs old new same (zero_apart 62 4 (inl (lit≤ tt))) (zero_apart 128 4_096 (inr (lit≤ tt))) st.map;
        rows = rows_kept xs old new row_base s.rows same (zero_apart 66 16 (inl (lit≤ tt)), row_pages_apart (0 ∷ ms) xs old new same on_all s.rows none_rows) st.rows;
        committed_list = list;
        active_list = list_kept xs old new active_base (log_nodes s.active) same
            (zero_apart 82 16 (inl (lit≤ tt)), nodes_apart (0 ∷ ms) xs old new same on_all s.active none_active st.active off) st.active_list;
        committed = in_all listed_stay;
        active = logs_kept (0 ∷ ms) xs old new same on_all s.active none_active st.active;
        lobs = lobs_kept (0 ∷ ms) xs old new same on_all s.lobs none_lobs st.lobs;
        marks = λ n.
            let e = st.marks n in
            let p = times-parts n s in
            let q = times-parts n (with_committed logs s) in
            let r = pages_left n in
            let m = mark_same old new n same.many (ap (λ b. bit_at b (n % 8)) (same.bytes 0 (place_of n) (inr (inr (omega arith)), off_zero_page ms (map node_span (log_nodes all)) (place_of n) on zero_ms))) in
            omega (arith, e, p, q, r, m);
      }
