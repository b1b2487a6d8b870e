-- Pages that are a store in which a transaction is undone.
--     Scene      the store in its pages, the transaction's log, and its newest record
--     IsAt told first s      these pages are told, and the log begins in that one
use Rattle.std.specs.Prelude.{◌≡◌, ℕ, List, ◌∷◌, Option, Some}
use Rattle.page_model.specs.Pages.{Pages, Address}
use Rattle.store_data.specs.Store.{Record, Log, Store}
use Rattle.undo_model.specs.Rows.{RowPage}
use Rattle.store_model.specs.Steps.{log_of}
use Rattle.store_steps.specs.Standing.{StandsOn}

pub record Scene : Type 0 where
  pub there : List RowPage
  pub pages : Pages
  pub store : Store
  pub trx : ℕ
  pub log : Log
  pub place : Address
  pub undo : Record
  -- the older records
  pub rest : List (Address × Record)

pub record IsAt (told : Option Pages) (first : ℕ) (s : Scene) : Type 0 where
  pub told' : told ≡ Some s.pages
  pub stands : StandsOn s.there s.pages s.store
  pub found : log_of s.store.active s.trx ≡ Some s.log
  pub page : s.log.page ≡ first
  pub records : s.log.records ≡ (s.place, s.undo) ∷ s.rest
