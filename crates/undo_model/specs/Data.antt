-- What rows and undo logs mean, as plain data.
--     Reference, Row      a LOB reference; a row: its state, its last change, the pointer to that
--         change's record, its LOB
--     Run, Body, Record      old bytes of a page; what an undo record says beside the row before
--     Log      an undo log: its pages, each with its records and their places, the newest first
use Rattle.std.specs.Prelude.{ℕ, ◌+◌, ◌*◌, ◌/◌, ◌%◌, ◌^◌, ◌==◌, Bool, cond, List, Option, Some, None}
use Rattle.page_model.specs.Pages.{Address}
use Rattle.store_data.specs.Store.{RowState, Run, LogState}

pub record Reference : Type 0 where
  pub space : ℕ
  pub page : ℕ
  pub version : ℕ
  pub length : ℕ

-- the roll pointer is a number, 0 where there is none; `led` says where it leads
pub record Row : Type 0 where
  pub state : RowState
  pub trx : ℕ
  pub roll : ℕ
  pub lob : Reference

-- ---- roll pointers

-- the pointer to a record there, whether it is that of an insert
abbrev pub pointer : Bool → Address → ℕ
pointer inserts a = cond inserts (2 ^ 55) 0 + a.page * 65_536 + a.at

-- where a pointer leads
abbrev pub led : ℕ → Option Address
led n = cond (n == 0) None (Some (record { page = (n / 65_536) % 4_294_967_296; at = n % 65_536 }))

-- ---- undo records

pub data Body : Type 0 where
  inserted : (page : ℕ) → Body
  rebuilt : (page : ℕ) → Body
  -- one bit a piece, the lowest first
  versioned : (pieces : ℕ) → (bits : List ℕ) → Body
  patched : List Run → Body
  removed : Body

pub record Record : Type 0 where
  pub number : ℕ
  pub doc : ℕ
  pub before : Row
  pub body : Body

-- ---- undo logs

-- a record with its place
pub record Entry : Type 0 where
  pub at : Address
  pub undo : Record

-- a page of a log with its records, the newest first
pub record Part : Type 0 where
  pub page : ℕ
  pub records : List Entry

-- the page that was added last stands first, and the log's first page last; `next` is the record to
-- purge next, in a log that is committed
pub record Log : Type 0 where
  pub page : ℕ
  pub trx : ℕ
  pub state : LogState
  pub commit : ℕ
  pub parts : List Part
  pub next : Option Address
