-- Pages that are a consistent store, in which a transaction is at work.
--     IsAt told there pages store      these pages are told, and are that store
--     IsAtWork trx page n store l      the transaction's log begins in that page and has so many
--         records
use Rattle.std.specs.Prelude.{◌≡◌, ℕ, List, length, Option, Some}
use Rattle.page_model.specs.Pages.{Pages}
use Rattle.store_data.specs.Store.{Log, Store}
use Rattle.undo_model.specs.Rows.{RowPage}
use Rattle.store_model.specs.Steps.{log_of}
use Rattle.store_model.specs.Consistent.{IsConsistent}
use Rattle.store_steps.specs.Standing.{StandsOn}

pub record IsAt (told : Option Pages) (there : List RowPage) (pages : Pages)
    (store : Store) : Type 0 where
  pub told' : told ≡ Some pages
  pub stands : StandsOn there pages store
  pub consistent : IsConsistent store

pub record IsAtWork (trx page n : ℕ) (store : Store) (l : Log) : Type 0 where
  pub found : log_of store.active trx ≡ Some l
  pub page_is : l.page ≡ page
  pub records : length l.records ≡ n
