-- What beginning a log needs and leaves.
--     first_fields      the fields of a first page, of a log without records
--     StartsLog      what its first bytes are made
--     CanBegin, BeginsLog      the map and the list of active logs stand; the log stands in front
--         of the others
use Rattle.std.specs.Prelude.{◌≡◌, ℕ, ◌+◌, ◌^◌, ◌<◌, List, [], ◌∷◌, ◌++◌, length}
use Rattle.page_model.specs.Pages.{Pages, field, Address, null_page}
use Rattle.page_model.specs.Spans.{span, SameOutside}
use Rattle.page_model.specs.Lists.{IsList, list_spans}
use Rattle.page_model.specs.Tables.{Field, field_at, header_fields}
use Rattle.page_space.specs.Map.{IsMap, IsUsed, IsFree}
use Rattle.undo_model.specs.Logs.{undo_type, first_start, log_node, IsLog}
use Rattle.undo_model.specs.LogLists.{active_base}
use Rattle.undo_model.specs.LogSteps.{begun}
use Rattle.store_parts.specs.Appends.{AreUsed}
use Rattle.store_parts.specs.Keeps.{Keeps}
use Rattle.undo_logs.specs.declared.layout.TheConstants.{PAGE_NODE, END, STATE, ACTIVE, TRX, PAGES_BASE, LAST, FIRST_START}

-- a node with no neighbours, an empty used part, active
abbrev pub front_fields : List Field
front_fields = field_at PAGE_NODE 4 null_page ∷ field_at (PAGE_NODE + 4) 2 0
    ∷ field_at (PAGE_NODE + 6) 4 null_page ∷ field_at (PAGE_NODE + 10) 2 0
    ∷ field_at END 2 FIRST_START ∷ field_at STATE 1 ACTIVE ∷ []

-- the page alone is in the log's list of pages, and there is no last record
abbrev pub back_fields : ℕ → List Field
back_fields page = field_at PAGES_BASE 4 1
    ∷ field_at (PAGES_BASE + 4) 4 page ∷ field_at (PAGES_BASE + 8) 2 PAGE_NODE
    ∷ field_at (PAGES_BASE + 10) 4 page ∷ field_at (PAGES_BASE + 14) 2 PAGE_NODE
    ∷ field_at LAST 4 null_page ∷ field_at (LAST + 4) 2 0 ∷ []

abbrev pub first_fields : ℕ → ℕ → List Field
first_fields page trx = header_fields page null_page null_page undo_type
    ++ (front_fields ++ (field_at TRX 6 trx ∷ back_fields page))

-- a log without records stands on the page, whatever it held
pub record StartsLog (page trx : ℕ) (old new : Pages) : Type 0 where
  pub number : field new page 4 4 ≡ page
  pub stands : IsLog new (begun page trx)
  pub outside : SameOutside (span page 0 first_start ∷ []) old new

-- the pages of the active logs' nodes are used
pub record CanBegin (pages : Pages) : Type 0 where
  pub map : IsMap pages
  pub system : IsUsed pages 0
  pub nodes : List Address
  pub list : IsList pages active_base nodes
  pub used : AreUsed pages nodes
  pub few : length nodes + 1 < 2 ^ 32

-- a page that was free is the first of a log, which the list of active logs then has in front
pub record BeginsLog (trx page : ℕ) (old new : Pages) : Type 0 where
  pub free : IsFree old page
  pub mid : Pages
  pub number : field mid page 4 4 ≡ page
  pub stands : IsLog mid (begun page trx)
  pub keeps : Keeps [] [] (page ∷ []) old mid
  pub links : (nodes : List Address) → IsList mid active_base nodes
      → IsList new active_base (log_node page ∷ nodes)
      × SameOutside (list_spans active_base (log_node page ∷ nodes)) mid new
