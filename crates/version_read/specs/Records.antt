-- The records of a store's documents, in pages.
--     StandsIn      a record of a store stands there
use Rattle.std.specs.Prelude.{◌≡◌}
use Rattle.page_model.specs.Pages.{Pages, Address}
use Rattle.store_data.specs.Store.{Record}
use Rattle.undo_model.specs.Data.{Record as RecordThere}
use Rattle.undo_model.specs.Reading.{IsRecordAt}
use Rattle.store_parts.specs.Shows.{record_of}

pub record StandsIn (pages : Pages) (place : Address) (r : Record) : Type 0 where
  pub there : RecordThere
  pub previous : Address
  pub stands : IsRecordAt pages place there previous
  pub shows : record_of there ≡ r
