-- What appending a record to a log needs and leaves.
--     CanOpen, OpensPage      where a page may be added to a log; what adding one leaves
--     CanAppend      the log stands there, and its pages are used
--     AppendsRecord      the log has the record as its newest, on one of its pages or on a new one
use Rattle.std.specs.Prelude.{◌≡◌, ◌≢◌, ◌⊎◌, ℕ, ◌+◌, ◌^◌, ◌<◌, List, [], ◌∷◌, ◌++◌, length}
use Rattle.page_model.specs.Pages.{Pages, field, Address}
use Rattle.page_model.specs.Spans.{Span, span, SameOutside}
use Rattle.page_model.specs.Lists.{IsList, list_spans}
use Rattle.page_space.specs.Map.{IsMap, IsUsed, IsFree, bit, place_of, free_of}
use Rattle.store_data.specs.Store.{active}
use Rattle.undo_model.specs.Data.{Record, Part, Log, pointer}
use Rattle.undo_model.specs.Bytes.{is_insert}
use Rattle.undo_model.specs.Logs.{undo_type, node_of, end_field, owner_field, pages_base, IsLog, nodes_in, log_spans}
use Rattle.undo_model.specs.LogSteps.{appended}

-- ---- a page added to a log

-- each node stands in a page that is used, and isn't page 0
abbrev pub AreUsed : Pages → List Address → Type 0
AreUsed pages [] = Unit {0}
AreUsed pages (a ∷ more) = (a.page ≢ 0) × IsUsed pages a.page × AreUsed pages more

-- the log's pages have these nodes
pub record CanOpen (log : ℕ) (nodes : List Address) (pages : Pages) : Type 0 where
  pub list : IsList pages (pages_base log) nodes
  pub map : IsMap pages
  pub used : AreUsed pages nodes
  pub system : IsUsed pages 0
  pub few : length nodes + 1 < 2 ^ 32
  pub log_used : IsUsed pages log
  pub log_other : log ≢ 0

abbrev pub open_spans : ℕ → List Address → ℕ → List Span
open_spans log nodes page =
    span 0 62 4 ∷ span 0 (place_of page) 1 ∷ span page 0 56 ∷ list_spans (pages_base log)
    (nodes ++ node_of page ∷ [])

pub record OpensPage (log : ℕ) (nodes : List Address) (page : ℕ) (old new : Pages) : Type 0 where
  pub there : page < length old
  pub free : IsFree old page
  pub used : IsUsed new page
  pub others : (k : ℕ) → k ≢ page → bit new k ≡ bit old k
  pub fewer : free_of new + 1 ≡ free_of old
  pub map : IsMap new
  pub number : field new page 4 4 ≡ page
  pub type : field new page 24 2 ≡ undo_type
  pub end : end_field new page ≡ 56
  pub owner : owner_field new page ≡ log
  pub list : IsList new (pages_base log) (nodes ++ node_of page ∷ [])
  pub outside : SameOutside (open_spans log nodes page) old new

-- ---- a record appended

abbrev pub newest_of : List Part → ℕ
newest_of [] = 0
newest_of (p ∷ older) = p.page

abbrev pub newest_page_of : Log → ℕ
newest_page_of log = newest_of log.parts

pub record CanAppend (log : Log) (pages : Pages) : Type 0 where
  pub stands : IsLog pages log
  pub active : log.state ≡ active
  pub room : CanOpen log.page (nodes_in log.parts) pages

-- it is the log's newest page, or one that was added
abbrev pub MayOpen : Log → ℕ → Pages → Pages → Type 0
MayOpen log page old mid =
    ((mid ≡ old) × (page ≡ newest_page_of log))
    ⊎ OpensPage log.page (nodes_in log.parts) page old mid

-- the log has the record as its newest; beside a page that may have been added, nothing changed but
-- the log's own bytes
pub record AppendsRecord (log : Log) (r : Record) (roll : ℕ) (old new : Pages) : Type 0 where
  pub at : Address
  pub roll_is : roll ≡ pointer (is_insert r.body) at
  pub stands : IsLog new (appended (record { at = at; undo = r }) log)
  pub opens : (mid : Pages) × MayOpen log at.page old mid
      × SameOutside (log_spans (appended (record { at = at; undo = r }) log)) mid new
