-- What committing a log needs and writes of it.
--     CanCommit      the log is one of the active ones, and page 0 has this count of commits
--     MarksCommitted      its state, its number, and the record that is to be purged first
use Rattle.std.specs.Prelude.{◌≡◌, ℕ, ◌+◌, ◌^◌, ◌<◌, List, ◌∷◌, ◌++◌, length}
use Rattle.page_model.specs.Pages.{Pages, field, Address}
use Rattle.page_model.specs.Spans.{SetsField, SetsAddress}
use Rattle.undo_model.specs.Data.{Log}
use Rattle.undo_model.specs.LogLists.{Logs, IsLogs}
use Rattle.page_space.specs.declared.layout.TheConstants.{COMMITS}
use Rattle.undo_logs.specs.declared.layout.TheConstants.{STATE, COMMIT, NEXT, COMMITTED}

-- the list of committed logs takes another one
pub record CanCommit (l : Log) (count : ℕ) (pages : Pages) : Type 0 where
  pub logs : Logs
  pub stands : IsLogs pages logs
  pub before : List Log
  pub behind : List Log
  pub here : logs.active ≡ before ++ l ∷ behind
  pub few : length logs.committed + 1 < 2 ^ 32
  pub counted : field pages 0 COMMITS 8 ≡ count

pub record MarksCommitted (log number : ℕ) (first : Address) (old new : Pages) : Type 0 where
  pub one : Pages
  pub two : Pages
  pub state : SetsField log STATE 1 COMMITTED old one
  pub commit : SetsField log COMMIT 8 number one two
  pub next : SetsAddress log NEXT first two new
