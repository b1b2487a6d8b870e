-- What taking a log's newest record out needs and leaves.
--     CutsEnd      its page ends where it began, and the record before is the log's last
--     DropsNode, DropsPage      its page is out of the log's list and given back; so that the
--         record before is the last
--     has_record      some record is left
--     IsListed, GivesBoth      the log's node is in the list of active logs; its pages are given
--         back
use Rattle.std.specs.Prelude.{◌≡◌, ◌≢◌, ◌⊎◌, ℕ, Bool, true, false, List, [], ◌∷◌, ◌++◌}
use Rattle.page_model.specs.Pages.{Pages, Address}
use Rattle.page_model.specs.Spans.{SetsField, SetsAddress}
use Rattle.page_model.specs.Lists.{IsList}
use Rattle.page_space.specs.Map.{GivesPage}
use Rattle.file_lists.specs.Changes.{ChangesList}
use Rattle.undo_model.specs.Data.{Entry, Log}
use Rattle.undo_model.specs.Logs.{node_of, pages_base}
use Rattle.undo_model.specs.LogLists.{log_nodes, active_base}
use Rattle.undo_logs.specs.declared.layout.TheConstants.{END, LAST}

pub record CutsEnd (log : ℕ) (a previous : Address) (old new : Pages) : Type 0 where
  pub mid : Pages
  pub end : SetsField a.page END 2 a.at old mid
  pub last : SetsAddress log LAST previous mid new

-- the page's node is the last of the list
pub record DropsNode (log : ℕ) (nodes : List Address) (page : ℕ) (old new : Pages) : Type 0 where
  pub unlinked : Pages
  pub change : ChangesList (pages_base log) (nodes ++ node_of page ∷ []) nodes old unlinked
  pub gives : GivesPage page unlinked new

pub record DropsPage (log : ℕ) (nodes : List Address) (page : ℕ) (previous : Address)
    (old new : Pages) : Type 0 where
  pub mid : Pages
  pub drops : DropsNode log nodes page old mid
  pub last : SetsAddress log LAST previous mid new

abbrev pub has_record : List Entry → Bool
has_record [] = false
has_record (e ∷ older) = true

pub record IsListed (l : Log) (pages : Pages) : Type 0 where
  pub before : List Log
  pub behind : List Log
  pub list : IsList pages active_base (log_nodes (before ++ l ∷ behind))

-- one page or both were given back
abbrev pub GivesBoth : ℕ → ℕ → Pages → Pages → Type 0
GivesBoth page log old new =
    ((page ≡ log) × GivesPage log old new)
    ⊎ ((page ≢ log) × ((mid : Pages) × GivesPage page old mid × GivesPage log mid new))
