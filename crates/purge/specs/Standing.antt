-- Pages that are a store whose first committed log is being purged.
--     IsAt      the pages are told, and the log is the first committed one
use Rattle.std.specs.Prelude.{◌≡◌, ℕ, ◌^◌, ◌<◌, List, ◌∷◌, Option, Some}
use Rattle.page_model.specs.Pages.{Pages}
use Rattle.store_data.specs.Store.{Log, Store}
use Rattle.undo_model.specs.Rows.{RowPage}
use Rattle.store_steps.specs.Standing.{StandsOn}

pub record IsAt (told : Option Pages) (log : ℕ) (there : List RowPage) (pages : Pages)
    (store : Store) (l : Log) (ls : List Log) : Type 0 where
  pub told' : told ≡ Some pages
  pub stands : StandsOn there pages store
  pub first : store.committed ≡ l ∷ ls
  -- the count of commits fits its field
  pub few : store.commits < 2 ^ 64
  pub page : l.page ≡ log
