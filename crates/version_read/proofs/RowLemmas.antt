-- The row of a document that its directory leads to.
use Rattle.std.proofs.Common.{◌≡◌, ℕ, Option, Some, None, option_map, refl, sym, ap, ◌∙◌}
use Rattle.std.specs.Prelude.{unwrap_or}
use Rattle.store_data.specs.Store.{Row as StoreRow, Store}
use Rattle.store_model.specs.History.{absent_row, row_before}
use Rattle.store_parts.specs.Stored.{Stored}
use Rattle.store_parts.specs.Shows.{row_of as shown_row, Shows}
use Rattle.undo_model.specs.Data.{Row as RowThere}
use Rattle.undo_model.specs.Rows.{row_for, rows_of}
use Rattle.undo_records.specs.Records.{row_of}
use Rattle.undo_records.specs.declared.record_type.Row.{Row}
use Rattle.read_views.specs.Flights.{row_read}

read_is : (row : Option Row)
    → row_read row ≡ unwrap_or (option_map shown_row (option_map row_of row)) absent_row
read_is None = refl
read_is (Some r) = refl

pub row_shown : (s : Stored) (store : Store) (d : ℕ) (row : Option Row) → Shows s store
    → option_map row_of row ≡ row_for d (rows_of s.rows) → row_read row ≡ row_before store d
row_shown s store d row shows is =
    read_is row
    ∙ ap (λ (o : Option RowThere). unwrap_or (option_map shown_row o) absent_row) is
    ∙ ap (λ (o : Option StoreRow). unwrap_or o absent_row) (sym (shows.rows d))
