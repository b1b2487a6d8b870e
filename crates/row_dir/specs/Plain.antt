-- The rows of row pages as the plain rows of a store.
--     AreRows rows there      these plain rows, in rising order of their documents, are those of
--         the row pages
--     ChangesTo rows there after old new      the row pages became others, which hold these plain
--         rows
use Rattle.std.specs.Prelude.{◌≡◌, ℕ, List}
use Rattle.std.specs.Option.{option_map}
use Rattle.std.specs.Ordering.{nat_cmp}
use Rattle.std.specs.FinMap.Entries.{find}
use Rattle.page_model.specs.Pages.{Pages}
use Rattle.store_data.specs.Store.{Row, AreRising}
use Rattle.undo_model.specs.Rows.{RowPage, row_for, rows_of}
use Rattle.store_parts.specs.Shows.{row_of}
use Rattle.store_parts.specs.Logs.{ChangesRows}

pub record AreRows (rows : List (ℕ × Row)) (there : List RowPage) : Type 0 where
  pub rising : AreRising rows
  pub shows : (d : ℕ) → find nat_cmp d rows ≡ option_map row_of (row_for d (rows_of there))

abbrev pub ChangesTo : List (ℕ × Row) → List RowPage → List RowPage → Pages → Pages → Type 0
ChangesTo rows there after old new = (c : ChangesRows rows there old new) × (c.after ≡ after)
