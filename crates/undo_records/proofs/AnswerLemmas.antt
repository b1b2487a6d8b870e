-- What reading answers where a record stands.
use Rattle.std.proofs.Common.{Result, Ok, Err}
use Rattle.page_model.specs.Pages.{Pages, Address}
use Rattle.engine_base.specs.Addresses.{address_of}
use Rattle.engine_base.specs.declared.addr.Addr.{Addr}
use Rattle.undo_model.specs.Data.{Record}
use Rattle.undo_model.specs.Reading.{IsRecordAt}
use Rattle.undo_model.proofs.PageLemmas.{one_record}
use Rattle.undo_records.specs.declared.record_type.UndoRecord.{UndoRecord}
use Rattle.undo_records.specs.declared.pages.RecordError.{RecordError}
use Rattle.undo_records.specs.declared.pages.RecordError.TheVariants.{Bad, Fault as Failed}
use Rattle.undo_records.specs.Records.{record_of}
use Rattle.undo_records.specs.Answers.{AnswersRead, ReadsBack}

-- the record that stands there is the only one
pub reads_back : (pages : Pages) (at : Addr) (r : Record) (previous : Address) (answer : Result UndoRecord RecordError)
    → IsRecordAt pages (address_of at) r previous → AnswersRead pages at answer → ReadsBack r answer
reads_back pages at r previous (Ok found) stands answers = (one_record pages (address_of at) (record_of found) r answers.0 previous answers.1 stands).0
reads_back pages at r previous (Err (Bad there)) stands answers = answers.1 r previous stands
reads_back pages at r previous (Err (Failed fault)) stands answers = answers
