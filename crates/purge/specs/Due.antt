-- The record that is to be purged next, as plain data.
--     entry_due, due_entry      it with its place; or none
use Rattle.std.specs.Prelude.{List, [], ◌∷◌, Option, Some, None}
use Rattle.page_model.specs.Pages.{Address}
use Rattle.engine_base.specs.Addresses.{address_of}
use Rattle.store_data.specs.Store.{Record}
use Rattle.store_parts.specs.Shows.{record_of}
use Rattle.undo_records.specs.Records.{record_of as record_there}
use Rattle.purge.specs.declared.due.Due.{Due}

abbrev pub entry_due : Due → Address × Record
entry_due d = (address_of d.place, record_of (record_there d.rec))

abbrev pub due_entry : Option Due → List (Address × Record)
due_entry None = []
due_entry (Some d) = entry_due d ∷ []
