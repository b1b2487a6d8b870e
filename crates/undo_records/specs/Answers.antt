-- What reading a record may answer.
--     AnswersRead      the record that stands there; Bad exactly where none does
--     FailsThere      Bad names the place that was read, and no fault but Device comes
--     HasRecordCause      Device comes only where the count of faults rose
--     ReadsBack      this record, or Device
use Rattle.std.specs.Prelude.{◌≡◌, ℕ, ◌≤◌, Result, Ok, Err, ⊤}
use Rattle.page_model.specs.Pages.{Pages, Address}
use Rattle.engine_base.specs.Addresses.{address_of}
use Rattle.engine_base.specs.Faults.{Rose}
use Rattle.engine_base.specs.declared.addr.Addr.{Addr}
use Rattle.engine_base.specs.declared.fault.Fault.TheVariants.{Device}
use Rattle.undo_model.specs.Data.{Record}
use Rattle.undo_model.specs.Reading.{IsRecordAt, IsBad}
use Rattle.undo_records.specs.declared.record_type.UndoRecord.{UndoRecord}
use Rattle.undo_records.specs.declared.pages.RecordError.{RecordError}
use Rattle.undo_records.specs.declared.pages.RecordError.TheVariants.{Bad, Fault as Failed}
use Rattle.undo_records.specs.Records.{record_of}

-- a record stands there, with some record before it
abbrev pub StandsAt : Pages → Address → UndoRecord → Type 0
StandsAt pages a rec = (previous : Address) × IsRecordAt pages a (record_of rec) previous

abbrev pub AnswersRead : Pages → Addr → Result UndoRecord RecordError → Type 0
AnswersRead pages at (Ok rec) = StandsAt pages (address_of at) rec
AnswersRead pages at (Err (Bad there)) = (there ≡ at) × IsBad pages (address_of at)
AnswersRead pages at (Err (Failed fault)) = fault ≡ Device

abbrev pub FailsThere : Addr → Result UndoRecord RecordError → Type 0
FailsThere at (Ok rec) = ⊤
FailsThere at (Err (Bad there)) = there ≡ at
FailsThere at (Err (Failed fault)) = fault ≡ Device

abbrev pub ReadsBack : Record → Result UndoRecord RecordError → Type 0
ReadsBack r (Ok rec) = record_of rec ≡ r
ReadsBack r (Err (Bad there)) = ⊥
ReadsBack r (Err (Failed fault)) = fault ≡ Device

-- the count never falls, and `Device` is told only where it rose
pub record HasRecordCause {T : Type 0} (before now : ℕ) (result : Result T RecordError) : Type
    0 where
  pub later : before ≤ now
  pub device : result ≡ Err (Failed Device) → Rose before now
