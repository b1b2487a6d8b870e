-- A row that an undo record can keep, in a store of so many pages.
--     CanLead count roll      a roll pointer leads to a place where a record fits, or nowhere
--     CanKeep count row      the row's does; its transaction's id has 48 bits; its LOB begins in a
--         page, and has the length of a document
use Rattle.std.specs.Prelude.{◌≢◌, ℕ, ◌^◌, ◌<◌, ◌≤◌, Option, IfSome}
use Rattle.page_model.specs.Pages.{Address}
use Rattle.store_data.specs.Store.{Row}
use Rattle.undo_model.specs.Reading.{IsRecordPlace, max_length}

-- no record stands in page 0
abbrev pub CanLead : ℕ → Option Address → Type 0
CanLead count roll = IfSome roll (λ a. (a.page ≢ 0) × IsRecordPlace count a)

pub record CanKeep (count : ℕ) (row : Row) : Type 0 where
  pub leads : CanLead count row.roll
  pub narrow : row.trx < 2 ^ 48
  pub first : row.lob.page < count
  pub short : row.lob.length ≤ max_length
