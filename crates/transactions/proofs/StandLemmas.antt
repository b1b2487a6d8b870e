-- Row pages that stay in their slots where another part of a store changes.
use Rattle.std.proofs.Common.{List, subst}
use Rattle.page_model.specs.Pages.{Pages}
use Rattle.store_data.specs.Store.{Store}
use Rattle.undo_model.specs.Rows.{RowPage, IsRows, row_base}
use Rattle.store_parts.specs.Shows.{IsStore}
use Rattle.store_pages.specs.Stands.{RowsStand}
use Rattle.row_dir.proofs.SameLemmas.{one_rows}
use Rattle.row_dir.proofs.StoreLemmas.{known_stand}
use Rattle.store_steps.specs.Standing.{StandsOn}

pub rows_at : (there : List RowPage) (pages : Pages) (store : Store) → StandsOn there pages store
    → IsRows pages row_base there
rows_at there pages store on = subst (IsRows pages row_base) on.slots on.is.standing.rows

-- pages hold one list of row pages
pub stands_on : (there : List RowPage) (pages : Pages) (store : Store) → IsStore pages store
    → IsRows pages row_base there → StandsOn there pages store
stands_on there pages store is rows = record {
  is = is;
  slots = one_rows pages row_base is.stored.rows there is.standing.rows rows;
}

pub stays_on : (there : List RowPage) (old new : Pages) (store after : Store)
    → StandsOn there old store → IsStore new after → RowsStand old new → StandsOn there new after
stays_on there old new store after on is stand =
    stands_on there new after is (known_stand old new there stand (rows_at there old store on))
