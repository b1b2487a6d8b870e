-- A transaction begun.
--     Begins there trx page n store      it has the next id, and a log of no records on a page that
--         the store doesn't own
--     IsSpentId pages      a fault names the next id in page 0
--     begin_room      the bytes that are written, with the heads of the writes
use Rattle.std.specs.Prelude.{◌≡◌, ℕ, ◌+◌, ◌*◌, List}
use Rattle.page_model.specs.Pages.{Pages, field}
use Rattle.page_model.specs.Steps.{write_head}
use Rattle.page_space.specs.declared.layout.TheConstants.{NEXT_TRX_ID}
use Rattle.store_data.specs.Store.{Log, Store}
use Rattle.undo_model.specs.Rows.{RowPage}
use Rattle.store_model.specs.Events.{log_begun}
use Rattle.store_model.specs.Owned.{owned, IsNotAmong}
use Rattle.store_model.specs.Consistent.{IsConsistent}
use Rattle.store_steps.specs.Standing.{StandsOn}
use Rattle.transactions.specs.Standing.{IsAtWork}

pub record Begins (there : List RowPage) (trx page n : ℕ) (store : Store)
    (new : Pages) : Type 0 where
  pub id : trx ≡ store.next_trx
  pub none : n ≡ 0
  pub stands : StandsOn there new (log_begun trx page store)
  pub unowned : IsNotAmong page (owned store)
  pub consistent : IsConsistent (log_begun trx page store)
  pub log : Log
  pub work : IsAtWork trx page n (log_begun trx page store) log

pub record IsSpentId (pages : Pages) (page at value : ℕ) : Type 0 where
  pub same_page : page ≡ 0
  pub same_place : at ≡ NEXT_TRX_ID
  pub reads : value ≡ field pages 0 NEXT_TRX_ID 8

abbrev pub begin_room : ℕ
begin_room = (140 + 8 * write_head) + (8 + write_head)
