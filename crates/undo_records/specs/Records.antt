-- A record and a row of the code, as the definitions over pages see them. The document of the row
-- before isn't among what they see: it is the record's.
use Rattle.std.specs.Prelude.{◌^◌, ◌<◌}
use Rattle.store_data.specs.Store.{RowState as State, absent, live, deleted}
use Rattle.undo_model.specs.Data.{Row as ModelRow, Body as ModelBody, inserted, rebuilt, versioned, patched, removed, Record}
use Rattle.lob_pages.specs.References.{reference_of}
use Rattle.undo_records.specs.declared.record_type.RowState.{RowState}
use Rattle.undo_records.specs.declared.record_type.RowState.TheVariants.{Absent, Live, Deleted}
use Rattle.undo_records.specs.declared.record_type.Row.{Row}
use Rattle.undo_records.specs.declared.record_type.Body.{Body}
use Rattle.undo_records.specs.declared.record_type.Body.TheVariants.{Insert, Full, Versioned, Patched, Removed}
use Rattle.undo_records.specs.declared.record_type.UndoRecord.{UndoRecord}

abbrev pub state_of : RowState → State
state_of Absent = absent
state_of Live = live
state_of Deleted = deleted

abbrev pub row_of : Row → ModelRow
row_of r =
    record { state = state_of r.state; trx = r.trx.0; roll = r.roll.0; lob = reference_of r.lob }

abbrev pub body_of : Body → ModelBody
body_of (Insert page) = inserted page.0
body_of (Full page) = rebuilt page.0
body_of (Versioned touched) = versioned touched.pieces touched.bits
body_of (Patched runs) = patched runs
body_of Removed = removed

abbrev pub record_of : UndoRecord → Record
record_of r = record {
  number = r.number.0;
  doc = r.doc.0;
  before = row_of r.before;
  body = body_of r.body;
}

-- its transaction's id and its roll pointer have as many bits as a row has for them
pub record IsNarrow (r : Row) : Type 0 where
  pub trx : r.trx.0 < 2 ^ 48
  pub roll : r.roll.0 < 2 ^ 56
