-- Where a record goes.
--     IsPlaced      behind the last record of the newest page, or on a page that was added
use Rattle.std.specs.Prelude.{◌≡◌, ◌≢◌, ℕ, ◌+◌, ◌≤◌, List, ◌∷◌, ◌++◌}
use Rattle.page_model.specs.Pages.{Pages, Address}
use Rattle.undo_model.specs.Data.{Entry, Part, Log}
use Rattle.undo_model.specs.Reading.{record_end}
use Rattle.undo_model.specs.Logs.{records_in, records_of}
use Rattle.undo_model.specs.LogSteps.{put_part}
use Rattle.store_parts.specs.Appends.{MayOpen}
use Rattle.undo_logs.specs.Puts.{IsReady, at_end}

-- a record of so many bytes fits there
pub record IsPlaced (log : Log) (size : ℕ) (a : Address) (old mid : Pages) : Type 0 where
  pub start : ℕ
  pub part : Part
  pub older : List Part
  pub ready : IsReady mid log start part older
  pub place : a ≡ at_end mid part
  pub fits : a.at + size ≤ record_end
  pub other : a.page ≢ 0
  pub same : part.records ++ records_in older ≡ records_of log
  pub puts : (e : Entry) → e.at ≡ a
      → put_part e log.parts ≡ record { page = part.page; records = e ∷ part.records } ∷ older
  pub opens : MayOpen log a.page old mid
