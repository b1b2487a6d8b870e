-- What giving back the pages of a purged log needs.
--     CanDrop      purge has passed the log's records, and its pages are used
--     CanEnd      its first page is left, and it is the first of the committed logs
use Rattle.std.specs.Prelude.{◌≡◌, ℕ, suc, ◌^◌, ◌<◌, Bool, true, false, List, [], ◌∷◌, None}
use Rattle.page_model.specs.Pages.{Pages, field}
use Rattle.page_model.specs.Lists.{IsList}
use Rattle.store_data.specs.Store.{purging}
use Rattle.undo_model.specs.Data.{Part, Log}
use Rattle.undo_model.specs.Logs.{IsLog, nodes_in}
use Rattle.undo_model.specs.LogLists.{log_nodes, committed_base}
use Rattle.store_parts.specs.Appends.{CanOpen}
use Rattle.page_space.specs.declared.layout.TheConstants.{PURGED_COMMITS}

pub record CanDrop (l : Log) (pages : Pages) : Type 0 where
  pub stands : IsLog pages l
  pub begun : l.state ≡ purging
  pub passed : l.next ≡ None
  pub room : CanOpen l.page (nodes_in l.parts) pages

pub record CanEnd (l : Log) (count : ℕ) (pages : Pages) : Type 0 where
  pub drop : CanDrop l pages
  pub part : Part
  pub alone : l.parts ≡ part ∷ []
  pub behind : List Log
  pub list : IsList pages committed_base (log_nodes (l ∷ behind))
  pub counted : field pages 0 PURGED_COMMITS 8 ≡ count
  pub fits : suc count < 2 ^ 64

abbrev pub has_part : List Part → Bool
has_part [] = false
has_part (p ∷ older) = true
