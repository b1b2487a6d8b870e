-- The row of a document that its directory leads to.
use Rattle.std.proofs.Common.{◌≡◌, ℕ, List, Option, option_map, sym, ap, ◌∙◌}
use Rattle.std.specs.Prelude.{unwrap_or}
use Rattle.page_model.specs.Pages.{Pages}
use Rattle.store_data.specs.Store.{Row as StoreRow, Store}
use Rattle.store_model.specs.History.{absent_row, row_before}
use Rattle.store_parts.specs.Shows.{row_of as shown_row}
use Rattle.undo_model.specs.Data.{Row as RowThere}
use Rattle.undo_model.specs.Rows.{RowPage, row_for, rows_of}
use Rattle.undo_records.specs.Records.{row_of}
use Rattle.undo_records.specs.declared.record_type.Row.{Row}
use Rattle.store_steps.specs.Standing.{StandsOn}

abbrev pub shown_or_absent : Option Row → StoreRow
shown_or_absent row = unwrap_or (option_map shown_row (option_map row_of row)) absent_row

pub row_shown : (there : List RowPage) (pages : Pages) (store : Store) (d : ℕ) (row : Option Row)
    → StandsOn there pages store → option_map row_of row ≡ row_for d (rows_of there)
    → shown_or_absent row ≡ row_before store d
row_shown there pages store d row on is =
    ap (λ (o : Option RowThere). unwrap_or (option_map shown_row o) absent_row) is
    ∙ ap (λ (ps : List RowPage). unwrap_or (option_map shown_row (row_for d
    (rows_of ps))) absent_row)
    (sym on.slots)
    ∙ ap (λ (o : Option StoreRow). unwrap_or o absent_row) (sym (on.is.shows.rows d))
