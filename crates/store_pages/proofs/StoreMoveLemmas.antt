-- A store whose counters, rows or list of active logs change.
use Rattle.std.proofs.Common.{◌≡◌, inr, ℕ, ◌+◌, List, [], ◌∷◌, ◌++◌, refl, ap, arith}
use Rattle.page_model.specs.Pages.{Pages, Address}
use Rattle.page_model.specs.Spans.{span, SameOutside, SetsField}
use Rattle.page_model.specs.Lists.{IsList, base_span, list_spans}
use Rattle.page_model.specs.Counts.{times}
use Rattle.page_space.specs.Map.{map_spans}
use Rattle.store_data.specs.Store.{active, Store}
use Rattle.undo_model.specs.Data.{Log as LogThere}
use Rattle.undo_model.specs.Logs.{IsLog, log_node}
use Rattle.undo_model.specs.LogLists.{pages_in, all_pages, log_nodes, active_base}
use Rattle.undo_model.specs.Rows.{row_base}
use Rattle.page_model.proofs.CountLemmas.{times-append}
use Rattle.store_parts.specs.Stored.{with_active}
use Rattle.store_parts.specs.Standing.{AreThere, IsStoreBut}
use Rattle.store_parts.specs.Shows.{log_of, AreIn, IsStore}
use Rattle.store_parts.specs.Keeps.{Keeps}
use Rattle.store_pages.specs.Changes.{RowsAt}
use Rattle.store_pages.specs.Stands.{RowsStand}
use Rattle.store_pages.proofs.RowMoveLemmas.{rows_moved}
use Rattle.store_pages.proofs.CounterLemmas.{next_trx_set}
use Rattle.store_pages.proofs.NodeLemmas.{off_none}
use Rattle.store_pages.proofs.LobStoreLemmas.{none_out}
use Rattle.store_pages.proofs.LogStoreLemmas.{some_parts}
use Rattle.store_pages.proofs.ActiveLemmas as Active

pub next_trx_changed : (old new : Pages) (store : Store) (v : ℕ) → IsStore old store → SetsField 0 38 8 v old new → IsStore new (record store { next_trx = v })
next_trx_changed old new store v is sets =
    let xs = span 0 38 8 ∷ [] in
    let s = is.stored in
    record {
      stored = record s { next_trx = v };
      standing = next_trx_set [] old new s is.standing v sets (off_none xs s.active is.whole.active_in) (off_none xs s.committed is.whole.committed_in);
      whole = record { active = is.whole.active; committed = is.whole.committed; count = is.whole.count; active_in = is.whole.active_in; committed_in = is.whole.committed_in };
      shows = record {
        next_trx = refl;
        commits = is.shows.commits;
        purged = is.shows.purged;
        rising = is.shows.rising;
        rows = is.shows.rows;
        row_pages = is.shows.row_pages;
        active = is.shows.active;
        committed = is.shows.committed;
        lobs = is.shows.lobs;
      };
    }

-- ---- rows

pub rows_at : (old : Pages) (store : Store) → IsStore old store → RowsAt old store
rows_at old store is = record {
  there = is.stored.rows;
  stands = is.standing.rows;
  shows = is.shows.rows;
  pages = is.shows.row_pages;
  changed = λ new rows c. record {
    stored = record is.stored { rows = c.after };
    standing = rows_moved [] [] c.after c.spans old new is.stored c.moves is.standing (off_none (base_span row_base ∷ (map_spans ++ c.spans)) is.stored.active is.whole.active_in) (off_none (base_span row_base ∷ (map_spans ++ c.spans)) is.stored.committed is.whole.committed_in);
    whole = record { active = is.whole.active; committed = is.whole.committed; count = is.whole.count; active_in = is.whole.active_in; committed_in = is.whole.committed_in };
    shows = record {
      next_trx = is.shows.next_trx;
      commits = is.shows.commits;
      purged = is.shows.purged;
      rising = c.rising;
      rows = c.shows;
      row_pages = refl;
      active = is.shows.active;
      committed = is.shows.committed;
      lobs = is.shows.lobs;
    };
  };
}

-- ---- a log put in front of the active ones

pub log_begun_rows : (old mid new : Pages) (store : Store) (m : LogThere) → IsStore old store → IsLog mid m → m.state ≡ active → Keeps [] [] (pages_in m.parts) old mid
    → ((nodes : List Address) → IsList mid active_base nodes → IsList new active_base (log_node m.page ∷ nodes) × SameOutside (list_spans active_base (log_node m.page ∷ nodes)) mid new)
    → IsStore new (record store { active = log_of m ∷ store.active }) × RowsStand old new
log_begun_rows old mid new store m is log is_active keeps lists =
    let s = is.stored in
    let st = keeps s (none_out s.active is.whole.active_in) (none_out s.committed is.whole.committed_in) is.standing in
    let own = pages_in m.parts in
    let all = m ∷ s.active in
    let listed = lists (log_nodes s.active) st.active_list in
    let there : AreThere mid all = (inr log, st.active) in
    let all_in : AreIn all = (some_parts mid m.page m.parts log.parts, is.whole.active_in) in
    let count : (n : ℕ) → times n (all_pages all) + times n [] ≡ times n (all_pages s.active) + times n own = λ n. let a = times-append n own (all_pages s.active) in omega (arith, a) in
    let st2 : IsStoreBut [] new (with_active all s) = Active.relisted own [] all mid new s st there count (none_out all all_in) listed.1 [] all (off_none (list_spans active_base (log_nodes all)) s.committed is.whole.committed_in) listed.0 (λ x. x) count in (
      record {
        stored = with_active all s;
        standing = st2;
        whole = record { active = (is_active, is.whole.active); committed = is.whole.committed; count = is.whole.count; active_in = all_in; committed_in = is.whole.committed_in };
        shows = record {
          next_trx = is.shows.next_trx;
          commits = is.shows.commits;
          purged = is.shows.purged;
          rising = is.shows.rising;
          rows = is.shows.rows;
          row_pages = is.shows.row_pages;
          active = ap (λ ls. log_of m ∷ ls) is.shows.active;
          committed = is.shows.committed;
          lobs = is.shows.lobs;
        };
      },
      record { rows = s.rows; before = is.standing.rows; behind = st2.rows },
    )

pub log_begun : (old mid new : Pages) (store : Store) (m : LogThere) → IsStore old store → IsLog mid m → m.state ≡ active → Keeps [] [] (pages_in m.parts) old mid
    → ((nodes : List Address) → IsList mid active_base nodes → IsList new active_base (log_node m.page ∷ nodes) × SameOutside (list_spans active_base (log_node m.page ∷ nodes)) mid new)
    → IsStore new (record store { active = log_of m ∷ store.active })
log_begun old mid new store m is log is_active keeps lists = (log_begun_rows old mid new store m is log is_active keeps lists).0

-- ---- the next transaction id

pub next_trx_rows : (old new : Pages) (store : Store) (v : ℕ) → IsStore old store → SetsField 0 38 8 v old new → RowsStand old new
next_trx_rows old new store v is sets =
    let xs = span 0 38 8 ∷ [] in
    let s = is.stored in
    let st = next_trx_set [] old new s is.standing v sets (off_none xs s.active is.whole.active_in) (off_none xs s.committed is.whole.committed_in) in
    record { rows = s.rows; before = is.standing.rows; behind = st.rows }
