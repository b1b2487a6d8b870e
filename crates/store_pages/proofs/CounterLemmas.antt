-- A counter of page 0 set.
use Rattle.std.proofs.Common.{◌≡◌, ◌⊎◌, inl, inr, ℕ, ◌+◌, ◌%◌, ◌≤◌, List, [], ◌∷◌, ap, ◌∙◌, arith, lit≤}
use Rattle.std.specs.Int.{bit_at}
use Rattle.page_model.specs.Pages.{Pages, field}
use Rattle.page_model.specs.Spans.{span, IsApartFromAll, SameOutside, SetsField}
use Rattle.page_model.proofs.FrameLemmas.{field_kept}
use Rattle.page_model.proofs.ListLemmas.{list_kept}
use Rattle.page_model.specs.Counts.{times}
use Rattle.page_space.specs.Map.{place_of}
use Rattle.page_space.proofs.MapLemmas.{map_kept}
use Rattle.undo_model.specs.LogLists.{all_pages, log_nodes, active_base, committed_base}
use Rattle.undo_model.specs.Rows.{row_base}
use Rattle.undo_model.proofs.RowLemmas.{rows_kept}
use Rattle.store_parts.specs.Stored.{Stored, row_pages, pages_of, part_pages, with_counters}
use Rattle.store_parts.specs.Standing.{IsSystem, IsStoreBut, AreOn, AreOffNodes}
use Rattle.store_parts.proofs.CountLemmas.{mark_small}
use Rattle.page_model.proofs.CountLemmas.{times_here}
use Rattle.store_parts.proofs.FrameLemmas.{times-parts, lobs_kept, logs_kept, nodes_apart, row_pages_apart}
use Rattle.store_parts.proofs.MoveLemmas.{mark_same}

module _ (own : List ℕ) (at : ℕ) (old new : Pages) (s : Stored) (st : IsStoreBut own old s) (low : at + 8 ≤ 62) (same : SameOutside (span 0 at 8 ∷ []) old new) where
  none : (n : ℕ) → 1 ≤ times n (part_pages s) → times n (0 ∷ []) ≡ 0
  none n h =
      let k = mark_small old n in
      let f = st.marks n in
      omega (arith, k, f, h)

  behind : (from size : ℕ) → 62 ≤ from → IsApartFromAll (span 0 at 8 ∷ []) (span 0 from size)
  behind from size high = (inr (inr (omega (arith, low, high))), tt)

  on : AreOn (0 ∷ []) (span 0 at 8 ∷ [])
  on = (times_here 0 [], tt)

  pub counted : (next commits purged : ℕ) → IsSystem new (with_counters next commits purged s)
      → AreOffNodes (span 0 at 8 ∷ []) s.active → AreOffNodes (span 0 at 8 ∷ []) s.committed → IsStoreBut own new (with_counters next commits purged s)
  counted next commits purged system off off' =
      let xs = span 0 at 8 ∷ [] in
      let none_rows : (n : ℕ) → 1 ≤ times n (row_pages s.rows) → times n (0 ∷ []) ≡ 0 = λ n h. none n (let p = times-parts n s in omega (arith, p, h)) in
      let none_active : (n : ℕ) → 1 ≤ times n (all_pages s.active) → times n (0 ∷ []) ≡ 0 = λ n h. none n (let p = times-parts n s in omega (arith, p, h)) in
      let none_committed : (n : ℕ) → 1 ≤ times n (all_pages s.committed) → times n (0 ∷ []) ≡ 0 = λ n h. none n (let p = times-parts n s in omega (arith, p, h)) in
      let none_lobs : (n : ℕ) → 1 ≤ times n (pages_of s.lobs) → times n (0 ∷ []) ≡ 0 = λ n h. none n (let p = times-parts n s in omega (arith, p, h)) in
      record {
        system = system;
        map = map_kept xs old new same (behind 62 4 (lit≤ tt)) (behind 128 4_096 (lit≤ tt)) st.map;
        rows = rows_kept xs old new row_base s.rows same (behind 66 16 (lit≤ tt), row_pages_apart (0 ∷ []) xs old new same on s.rows none_rows) st.rows;
        active_list = list_kept xs old new active_base (log_nodes s.active) same (behind 82 16 (lit≤ tt), nodes_apart (0 ∷ []) xs old new same on s.active none_active st.active off) st.active_list;
        committed_list = list_kept xs old new committed_base (log_nodes s.committed) same
            (behind 98 16 (lit≤ tt), nodes_apart (0 ∷ []) xs old new same on s.committed none_committed st.committed off') st.committed_list;
        active = logs_kept (0 ∷ []) xs old new same on s.active none_active st.active;
        committed = logs_kept (0 ∷ []) xs old new same on s.committed none_committed st.committed;
        lobs = lobs_kept (0 ∷ []) xs old new same on s.lobs none_lobs st.lobs;
        marks = λ n.
            let e = st.marks n in
            let m = mark_same old new n same.many (ap (λ b. bit_at b (n % 8)) (same.bytes 0 (place_of n) (inr (inr (omega (arith, low))), tt))) in
            omega (arith, e, m);
      }

  keep : (from width : ℕ) → (from + width ≤ at) ⊎ (at + 8 ≤ from) → field new 0 from width ≡ field old 0 from width
  keep from width side = field_kept (span 0 at 8 ∷ []) old new 0 from width same (elim side [ inl before ↦ inr (inl before) | inr after ↦ inr (inr after) ], tt)

-- the next transaction id, the count of commits and that of purged ones
module _ (own : List ℕ) (old new : Pages) (s : Stored) (st : IsStoreBut own old s) (v : ℕ) where
  pub next_trx_set : SetsField 0 38 8 v old new → AreOffNodes (span 0 38 8 ∷ []) s.active → AreOffNodes (span 0 38 8 ∷ []) s.committed
      → IsStoreBut own new (with_counters v s.commits s.purged s)
  next_trx_set is =
      let k = keep own 38 old new s st (lit≤ tt) is.outside in
      counted own 38 old new s st (lit≤ tt) is.outside v s.commits s.purged (record {
        type = k 24 2 (inl (lit≤ tt)) ∙ st.system.type;
        next_trx = is.here;
        commits = k 46 8 (inr (lit≤ tt)) ∙ st.system.commits;
        purged = k 54 8 (inr (lit≤ tt)) ∙ st.system.purged;
      })

  pub commits_set : SetsField 0 46 8 v old new → AreOffNodes (span 0 46 8 ∷ []) s.active → AreOffNodes (span 0 46 8 ∷ []) s.committed
      → IsStoreBut own new (with_counters s.next_trx v s.purged s)
  commits_set is =
      let k = keep own 46 old new s st (lit≤ tt) is.outside in
      counted own 46 old new s st (lit≤ tt) is.outside s.next_trx v s.purged (record {
        type = k 24 2 (inl (lit≤ tt)) ∙ st.system.type;
        next_trx = k 38 8 (inl (lit≤ tt)) ∙ st.system.next_trx;
        commits = is.here;
        purged = k 54 8 (inr (lit≤ tt)) ∙ st.system.purged;
      })

  pub purged_set : SetsField 0 54 8 v old new → AreOffNodes (span 0 54 8 ∷ []) s.active → AreOffNodes (span 0 54 8 ∷ []) s.committed
      → IsStoreBut own new (with_counters s.next_trx s.commits v s)
  purged_set is =
      let k = keep own 54 old new s st (lit≤ tt) is.outside in
      counted own 54 old new s st (lit≤ tt) is.outside s.next_trx s.commits v (record {
        type = k 24 2 (inl (lit≤ tt)) ∙ st.system.type;
        next_trx = k 38 8 (inl (lit≤ tt)) ∙ st.system.next_trx;
        commits = k 46 8 (inl (lit≤ tt)) ∙ st.system.commits;
        purged = is.here;
      })
