-- Row pages that a call leaves as they are.
--     RowsStand old new      the row pages that stood there stand there behind the call, with the
--         same rows in the same slots
use Rattle.std.specs.Prelude.{List}
use Rattle.page_model.specs.Pages.{Pages}
use Rattle.undo_model.specs.Rows.{RowPage, IsRows, row_base}

pub record RowsStand (old new : Pages) : Type 0 where
  pub rows : List RowPage
  pub before : IsRows old row_base rows
  pub behind : IsRows new row_base rows
