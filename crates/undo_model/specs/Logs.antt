-- Undo logs in pages. Every page of a log has its node of the log's list of pages, and the end of
-- its used part. The first page further has the log's state and its own node in the list of active
-- or of committed logs.
--     IsLog pages log, log_spans      the log stands there; the bytes that this rests on
use Rattle.std.specs.Prelude.{◌≡◌, ◌≢◌, ℕ, ◌+◌, ◌<◌, ◌≤◌, List, [], ◌∷◌, ◌++◌, length, Option, Some, None}
use Rattle.page_model.specs.Pages.{Pages, field, Address, address_at, null_address, page_bytes}
use Rattle.page_model.specs.Spans.{Span, span}
use Rattle.page_model.specs.Lists.{IsList, or_null}
use Rattle.store_data.specs.Store.{LogState, active, committed, purging}
use Rattle.undo_model.specs.Data.{Entry, Part, Log}
use Rattle.undo_model.specs.Bytes.{record_size}
use Rattle.undo_model.specs.Reading.{IsRecordAt, record_end}

-- ---- where the fields of an undo page stand

abbrev pub undo_type : ℕ
undo_type = 3

abbrev pub node_of : ℕ → Address
node_of page = record { page = page; at = 38 }

abbrev pub end_field : Pages → ℕ → ℕ
end_field pages page = field pages page 50 2

-- in a page that isn't the first of its log
abbrev pub owner_field : Pages → ℕ → ℕ
owner_field pages page = field pages page 52 4

-- in the first page
abbrev pub state_field : Pages → ℕ → ℕ
state_field pages page = field pages page 52 1

abbrev pub trx_field : Pages → ℕ → ℕ
trx_field pages page = field pages page 53 6

abbrev pub commit_field : Pages → ℕ → ℕ
commit_field pages page = field pages page 59 8

abbrev pub log_node : ℕ → Address
log_node page = record { page = page; at = 67 }

abbrev pub pages_base : ℕ → Address
pages_base page = record { page = page; at = 79 }

abbrev pub last_field : Pages → ℕ → Address
last_field pages page = address_at pages page 95

abbrev pub next_field : Pages → ℕ → Address
next_field pages page = address_at pages page 101

-- where records begin
abbrev pub first_start : ℕ
first_start = 107

abbrev pub other_start : ℕ
other_start = 56

-- ---- what a log's data says

abbrev pub state_number : LogState → ℕ
state_number active = 1
state_number committed = 2
state_number purging = 3

-- from the first page on
abbrev pub nodes_in : List Part → List Address
nodes_in [] = []
nodes_in (p ∷ older) = nodes_in older ++ node_of p.page ∷ []

abbrev pub records_in : List Part → List Entry
records_in [] = []
records_in (p ∷ older) = p.records ++ records_in older

-- the newest first
abbrev pub records_of : Log → List Entry
records_of log = records_in log.parts

abbrev pub newest : List Entry → Address
newest [] = null_address
newest (e ∷ older) = e.at

-- ---- in pages

-- the records fill the page from its start to its end
abbrev pub IsFilled : ℕ → ℕ → ℕ → List Entry → Type 0
IsFilled page start end [] = end ≡ start
IsFilled page start end (e ∷ older) =
    (e.at.page ≡ page) × (e.at.at + record_size e.undo ≡ end) × IsFilled page start e.at.at older

-- each record stands at its place, with the address of the one before it
abbrev pub AreChained : Pages → List Entry → Type 0
AreChained pages [] = Unit {0}
AreChained pages (e ∷ older) = IsRecordAt pages e.at e.undo (newest older) × AreChained pages older

-- a transaction's records have the undo numbers from 0 on, in the order of writing
abbrev pub AreNumbered : List Entry → Type 0
AreNumbered [] = Unit {0}
AreNumbered (e ∷ older) = (e.undo.number ≡ length older) × AreNumbered older

-- one of the records stands there
pub record HasPlace (a : Address) (records : List Entry) : Type 0 where
  pub newer : List Entry
  pub entry : Entry
  pub older : List Entry
  pub is : records ≡ newer ++ entry ∷ older
  pub here : entry.at ≡ a

-- the record to purge next is one of the log's
abbrev pub IsDueIn : Option Address → List Entry → Type 0
IsDueIn None records = Unit {0}
IsDueIn (Some a) records = HasPlace a records

pub record IsPart (pages : Pages) (start : ℕ) (p : Part) : Type 0 where
  pub there : p.page < length pages
  pub type : field pages p.page 24 2 ≡ undo_type
  pub filled : IsFilled p.page start (end_field pages p.page) p.records
  pub low : start ≤ end_field pages p.page
  pub high : end_field pages p.page ≤ record_end

abbrev pub HasRecord : List Entry → Type 0
HasRecord [] = ⊥
HasRecord (e ∷ older) = Unit {0}

-- none of the parts is on the page
abbrev pub IsNewPage : ℕ → List Part → Type 0
IsNewPage n [] = Unit {0}
IsNewPage n (p ∷ more) = (n ≢ p.page) × IsNewPage n more

-- a page behind the first has a record, and is none of the pages before it
pub record IsOther (pages : Pages) (first : ℕ) (p : Part) (older : List Part) : Type 0 where
  pub part : IsPart pages other_start p
  pub owner : owner_field pages p.page ≡ first
  pub new : IsNewPage p.page older
  pub some : HasRecord p.records

abbrev pub AreParts : Pages → ℕ → List Part → Type 0
AreParts pages first [] = ⊥
AreParts pages first (p ∷ []) = (p.page ≡ first) × IsPart pages first_start p
AreParts pages first (p ∷ q ∷ older) =
    IsOther pages first p (q ∷ older) × AreParts pages first (q ∷ older)

-- what the state decides: the commit number of a log that is committed, the last record of one that
-- isn't being purged, the next record to purge of one that is committed
abbrev pub CommitIs : LogState → ℕ → ℕ → Type 0
CommitIs active there n = n ≡ 0
CommitIs committed there n = there ≡ n
CommitIs purging there n = there ≡ n

abbrev pub LastIs : LogState → Address → List Entry → Type 0
LastIs active there records = there ≡ newest records
LastIs committed there records = there ≡ newest records
LastIs purging there records = Unit {0}

abbrev pub NextIs : LogState → Address → Option Address → Type 0
NextIs active there next = next ≡ None
NextIs committed there next = there ≡ or_null next
NextIs purging there next = there ≡ or_null next

pub record IsLog (pages : Pages) (log : Log) : Type 0 where
  pub state : state_field pages log.page ≡ state_number log.state
  pub trx : trx_field pages log.page ≡ log.trx
  pub commit : CommitIs log.state (commit_field pages log.page) log.commit
  pub list : IsList pages (pages_base log.page) (nodes_in log.parts)
  pub parts : AreParts pages log.page log.parts
  pub chain : AreChained pages (records_of log)
  pub last : LastIs log.state (last_field pages log.page) (records_of log)
  pub next : NextIs log.state (next_field pages log.page) log.next
  pub due : IsDueIn log.next (records_of log)
  pub numbered : AreNumbered (records_of log)

-- what the parts rest on, without the nodes of the list of pages
abbrev pub body_spans : List Part → List Span
body_spans [] = []
body_spans (p ∷ []) = span p.page 24 2 ∷ span p.page 50 2 ∷ span p.page 107 16_277 ∷ []
body_spans (p ∷ q ∷ older) = span p.page 24 2 ∷ span p.page 50 16_334 ∷ body_spans (q ∷ older)

-- all of the log's pages but the node of its first page in the list of logs
abbrev pub part_spans : List Part → List Span
part_spans [] = []
part_spans (p ∷ []) = span p.page 0 67 ∷ span p.page 79 16_305 ∷ []
part_spans (p ∷ q ∷ older) = span p.page 0 page_bytes ∷ part_spans (q ∷ older)

abbrev pub log_spans : Log → List Span
log_spans log = part_spans log.parts

-- a log stands there, and Q holds of the pages
abbrev pub IfLog : Option Pages → Log → (Pages → Type 0) → Type 0
IfLog told log Q = (pages : Pages) → told ≡ Some pages → IsLog pages log → Q pages
