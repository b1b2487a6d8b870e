-- What taking a row out leaves.
--     RemovesRow doc dir rows old new      the document has no row, and all others theirs; the
--         directory is that of the row pages, each of which has a row
use Rattle.std.specs.Prelude.{◌≡◌, ℕ, ◌==◌, not, cond, List, [], ◌++◌, ◌∷◌, None}
use Rattle.std.specs.Ordering.{nat_cmp}
use Rattle.std.specs.FinMap.Entries.{where_key}
use Rattle.page_model.specs.Pages.{Pages}
use Rattle.page_model.specs.Spans.{Span}
use Rattle.store_data.specs.Store.{Row}
use Rattle.undo_model.specs.Rows.{RowPage, rows_of, row_for}
use Rattle.store_parts.specs.Standing.{MovesRows}
use Rattle.row_dir.specs.declared.dir.RowDir.{RowDir}
use Rattle.row_dir.specs.Directory.{IsDirectory}
use Rattle.row_dir.specs.Plain.{AreRows, ChangesTo}

pub record RemovesRow (doc : ℕ) (dir : RowDir) (rows : List RowPage) (old new : Pages) : Type 0 where
  pub after : List RowPage
  pub spans : List Span
  pub moves : MovesRows [] [] rows after spans old new
  pub directory : IsDirectory dir after
  pub shows : (d : ℕ) → row_for d (rows_of after) ≡ cond (doc == d) None (row_for d (rows_of rows))
  -- so are the plain rows, and what else a store has is kept
  pub changes : (plain : List (ℕ × Row)) → AreRows plain rows
      → ChangesTo (where_key nat_cmp (λ n. not (n == doc)) plain) rows after old new

-- a row page is given back, and the others stand
pub record DropsPage (before : List RowPage) (page : RowPage) (behind : List RowPage)
    (old new : Pages) : Type 0 where
  pub spans : List Span
  pub moves : MovesRows [] [] (before ++ page ∷ behind) (before ++ behind) spans old new
