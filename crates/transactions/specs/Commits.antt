-- A transaction committed.
--     Commits there trx store      its log is the last of the committed ones, and counted
use Rattle.std.specs.Prelude.{ℕ, List}
use Rattle.page_model.specs.Pages.{Pages}
use Rattle.store_data.specs.Store.{Store}
use Rattle.undo_model.specs.Rows.{RowPage}
use Rattle.store_model.specs.Events.{committed_by}
use Rattle.store_model.specs.Consistent.{IsConsistent}
use Rattle.store_steps.specs.Standing.{StandsOn}

pub record Commits (there : List RowPage) (trx : ℕ) (store : Store) (new : Pages) : Type 0 where
  pub stands : StandsOn there new (committed_by trx store)
  pub consistent : IsConsistent (committed_by trx store)
