-- What putting a row leaves.
--     FillsFirst, OpensLast      a new row takes the first free slot of the first page that has
--         one; or the first one of a page behind the others, all of which are full
--     PutsRow k dir rows old new      the row stands, and all other rows as before; the directory
--         is that of the row pages
use Rattle.std.specs.Prelude.{◌≡◌, ◌⊎◌, ℕ, ◌==◌, cond, List, [], ◌∷◌, ◌++◌, replicate, Option, Some, None}
use Rattle.std.specs.Ordering.{nat_cmp}
use Rattle.std.specs.FinMap.Entries.{put}
use Rattle.page_model.specs.Pages.{Pages}
use Rattle.page_model.specs.Spans.{Span}
use Rattle.store_data.specs.Store.{Row}
use Rattle.undo_model.specs.Rows.{Keyed, RowPage, IsNew, rows_of, row_for}
use Rattle.store_parts.specs.Shows.{row_of}
use Rattle.store_parts.specs.Standing.{MovesRows}
use Rattle.row_dir.specs.declared.dir.RowDir.{RowDir}
use Rattle.row_dir.specs.RowPages.{page_of}
use Rattle.row_dir.specs.Directory.{free_in, rooms_of, AreFull, IsDirectory}
use Rattle.row_dir.specs.Plain.{AreRows, ChangesTo}

pub record FillsFirst (k : Keyed) (rows after : List RowPage) : Type 0 where
  pub before : List RowPage
  pub page : ℕ
  pub slots_before : List (Option Keyed)
  pub slots_behind : List (Option Keyed)
  pub behind : List RowPage
  pub was : rows ≡ before ++ page_of page (slots_before ++ None ∷ slots_behind) ∷ behind
  pub full : AreFull (rooms_of before)
  pub taken : free_in slots_before ≡ 0
  pub now : after ≡ before ++ page_of page (slots_before ++ Some k ∷ slots_behind) ∷ behind

pub record OpensLast (k : Keyed) (rows after : List RowPage) : Type 0 where
  pub page : ℕ
  pub full : AreFull (rooms_of rows)
  pub now : after ≡ rows ++ page_of page (Some k ∷ replicate 407 None) ∷ []

pub record PutsRow (k : Keyed) (dir : RowDir) (rows : List RowPage) (old new : Pages) : Type 0 where
  pub after : List RowPage
  pub spans : List Span
  pub moves : MovesRows [] [] rows after spans old new
  pub directory : IsDirectory dir after
  pub shows : (d : ℕ) → row_for d (rows_of after)
      ≡ cond (k.doc == d) (Some k.row) (row_for d (rows_of rows))
  -- so are the plain rows, and what else a store has is kept
  pub changes : (plain : List (ℕ × Row)) → AreRows plain rows
      → ChangesTo (put nat_cmp k.doc (row_of k.row) plain) rows after old new
  -- a new document's
  pub goes : IsNew k.doc (rows_of rows) → FillsFirst k rows after ⊎ OpensLast k rows after
