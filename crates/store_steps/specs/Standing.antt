-- Pages that are a store, with its rows in slots.
--     StandsOn there pages store      the pages are this store, and its rows stand in the slots of
--         these row pages
use Rattle.std.specs.Prelude.{◌≡◌, List}
use Rattle.page_model.specs.Pages.{Pages}
use Rattle.store_data.specs.Store.{Store}
use Rattle.undo_model.specs.Rows.{RowPage}
use Rattle.store_parts.specs.Shows.{IsStore}

pub record StandsOn (there : List RowPage) (pages : Pages) (store : Store) : Type 0 where
  pub is : IsStore pages store
  pub slots : is.stored.rows ≡ there
