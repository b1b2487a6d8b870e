-- What a call leaves of one log of a store, or of its rows, whatever else the store holds.
--     ChangesLog f l old new      an active log stands, changed as f changes what it shows, and
--         the rest of a store is kept
--     GivesLog, CommitsLog      it is gone with its last record; it is committed
--     ChangesOldest, PurgesLog      the oldest committed log, as purge goes on; it is gone
--     ChangesRows      the rows in pages became rows that show these
use Rattle.std.specs.Prelude.{◌≡◌, ◌≢◌, ℕ, suc, List, [], ◌∷◌, ◌++◌}
use Rattle.std.specs.Option.{option_map}
use Rattle.std.specs.Ordering.{nat_cmp}
use Rattle.std.specs.FinMap.Entries.{find}
use Rattle.page_model.specs.Pages.{Pages}
use Rattle.page_model.specs.Spans.{Span, SameOutside, SetsField}
use Rattle.page_model.specs.Lists.{IsList, list_spans}
use Rattle.page_space.specs.declared.layout.TheConstants.{COMMITS, PURGED_COMMITS}
use Rattle.store_data.specs.Store.{active, committed, Row, Log, AreRising}
use Rattle.undo_model.specs.Data.{Log as LogThere}
use Rattle.undo_model.specs.Logs.{IsLog}
use Rattle.undo_model.specs.LogLists.{pages_in, log_nodes, active_base, committed_base}
use Rattle.undo_model.specs.Rows.{RowPage, row_for, rows_of}
use Rattle.store_parts.specs.Shows.{row_of, log_of}
use Rattle.store_parts.specs.Standing.{MovesRows}
use Rattle.store_parts.specs.Keeps.{Keeps}

-- ---- an active log

pub record ChangesLog (f : Log → Log) (l : LogThere) (old new : Pages) : Type 0 where
  pub after : LogThere
  pub stands : IsLog new after
  pub shows : log_of after ≡ f (log_of l)
  pub same_page : after.page ≡ l.page
  pub is_active : after.state ≡ active
  pub keeps : Keeps (l.page ∷ []) (pages_in l.parts) (pages_in after.parts) old new

-- the log leaves the list of active ones, and its pages are given back
pub record GivesLog (l : LogThere) (old new : Pages) : Type 0 where
  pub unlinked : Pages
  pub unlinks : (before after : List LogThere)
      → IsList old active_base (log_nodes (before ++ l ∷ after))
      → IsList unlinked active_base (log_nodes (before ++ after))
      × SameOutside (list_spans active_base (log_nodes (before ++ l ∷ after))) old unlinked
  pub gives : Keeps [] (pages_in l.parts) [] unlinked new

-- the log's own bytes are written, it leaves the list of active logs, it is put behind the
-- committed ones, and the commits are counted
pub record CommitsLog (l m : LogThere) (count : ℕ) (old new : Pages) : Type 0 where
  pub written : Pages
  pub unlinked : Pages
  pub linked : Pages
  pub writes : Keeps (l.page ∷ []) (pages_in l.parts) (pages_in m.parts) old written
  pub unlinks : (before after : List LogThere)
      → IsList written active_base (log_nodes (before ++ l ∷ after))
      → IsList unlinked active_base (log_nodes (before ++ after))
      × SameOutside (list_spans active_base (log_nodes (before ++ l ∷ after))) written unlinked
  pub links : (logs : List LogThere) → IsList unlinked committed_base (log_nodes logs)
      → IsList linked committed_base (log_nodes (logs ++ m ∷ []))
      × SameOutside (list_spans committed_base (log_nodes (logs ++ m ∷ []))) unlinked linked
  pub counts : SetsField 0 COMMITS 8 (suc count) linked new
  pub stands : IsLog new m
  pub same_page : m.page ≡ l.page
  pub state : m.state ≡ committed
  pub number : m.commit ≡ suc count
  pub shows : log_of m ≡ (let x : Log = record
      (log_of l) { state = committed; number = suc count } in x)

-- ---- the oldest committed log

-- it changes as f changes what it shows
pub record ChangesOldest (f : Log → Log) (l : LogThere) (old new : Pages) : Type 0 where
  pub after : LogThere
  pub stands : IsLog new after
  pub shows : log_of after ≡ f (log_of l)
  pub same_page : after.page ≡ l.page
  pub state : after.state ≢ active
  pub number : after.commit ≡ l.commit
  pub keeps : Keeps (l.page ∷ []) (pages_in l.parts) (pages_in after.parts) old new

-- it leaves the list, its pages are given back, and it is counted
pub record PurgesLog (l : LogThere) (count : ℕ) (old new : Pages) : Type 0 where
  pub unlinked : Pages
  pub given : Pages
  pub unlinks : (after : List LogThere) → IsList old committed_base (log_nodes (l ∷ after))
      → IsList unlinked committed_base (log_nodes after)
      × SameOutside (list_spans committed_base (log_nodes (l ∷ after))) old unlinked
  pub gives : Keeps [] (pages_in l.parts) [] unlinked given
  pub counts : SetsField 0 PURGED_COMMITS 8 (suc count) given new

-- ---- rows

pub record ChangesRows (rows : List (ℕ × Row)) (there : List RowPage)
    (old new : Pages) : Type 0 where
  pub after : List RowPage
  pub spans : List Span
  pub moves : MovesRows [] [] there after spans old new
  pub rising : AreRising rows
  pub shows : (d : ℕ) → find nat_cmp d rows ≡ option_map row_of (row_for d (rows_of after))
