-- What putting a record leaves.
--     PutsRecord      the record stands, the page ends behind it, and it is the log's last
--     IsReady, at_end      a log that takes a record on this page, and where
use Rattle.std.specs.Prelude.{◌≡◌, ℕ, ◌+◌, ◌≤◌, List, [], ◌∷◌, ◌++◌}
use Rattle.page_model.specs.Pages.{Pages, Address}
use Rattle.page_model.specs.Spans.{span, SameOutside}
use Rattle.page_model.specs.Lists.{IsList}
use Rattle.store_data.specs.Store.{active}
use Rattle.undo_model.specs.Data.{Record, Part, Log}
use Rattle.undo_model.specs.Bytes.{record_size}
use Rattle.undo_model.specs.Reading.{IsRecordAt, record_span}
use Rattle.undo_model.specs.Logs.{end_field, last_field, owner_field, state_field, trx_field, commit_field, next_field, state_number, CommitIs, NextIs, pages_base, nodes_in, records_in, IsPart, AreParts, AreChained, IsNewPage, first_start, other_start}
use Rattle.undo_logs.specs.declared.layout.TheConstants.{END, LAST}

-- the record stands where it lies behind the fields of its page
pub record PutsRecord (log : ℕ) (a : Address) (r : Record) (previous : Address)
    (old new : Pages) : Type 0 where
  pub stands : other_start ≤ a.at → (a.page ≡ log → first_start ≤ a.at)
      → IsRecordAt new a r previous
  pub end : end_field new a.page ≡ a.at + record_size r
  pub last : last_field new log ≡ a
  pub outside : SameOutside (record_span a r ∷ span a.page END 2 ∷ span log LAST 6 ∷ []) old new

-- ---- a log that takes a record

-- the newest page is the first one, or another that the log's older pages don't have
abbrev pub Role : Pages → ℕ → ℕ → Part → List Part → Type 0
Role pages log start p [] = (p.page ≡ log) × (start ≡ first_start)
Role pages log start p (q ∷ older) =
    (start ≡ other_start) × (owner_field pages p.page ≡ log) × IsNewPage p.page (q ∷ older)
    × AreParts pages log (q ∷ older)

-- the log with p as its newest page, which may have no record yet
pub record IsReady (pages : Pages) (log : Log) (start : ℕ) (p : Part)
    (older : List Part) : Type 0 where
  pub active : log.state ≡ active
  pub state : state_field pages log.page ≡ state_number log.state
  pub trx : trx_field pages log.page ≡ log.trx
  pub commit : CommitIs log.state (commit_field pages log.page) log.commit
  pub next : NextIs log.state (next_field pages log.page) log.next
  pub list : IsList pages (pages_base log.page) (nodes_in (p ∷ older))
  pub part : IsPart pages start p
  pub role : Role pages log.page start p older
  pub chain : AreChained pages (p.records ++ records_in older)

-- where the next record goes
abbrev pub at_end : Pages → Part → Address
at_end pages p = record { page = p.page; at = end_field pages p.page }
