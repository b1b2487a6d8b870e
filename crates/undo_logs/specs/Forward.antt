-- A place among the records of a log, from which one goes on.
--     CutsAt      the records before that place in its page, and those at it or behind
use Rattle.std.specs.Prelude.{◌≡◌, ℕ, List, ◌∷◌, ◌++◌}
use Rattle.page_model.specs.Pages.{Pages}
use Rattle.undo_model.specs.Data.{Entry, Part, Log}
use Rattle.undo_model.specs.Logs.{IsLog, IsFilled, IsPart, records_in}

-- the page has `before` up to the place, and `behind` from there on; the pages that were added
-- later are `newer`
pub record CutsAt (l : Log) (page at : ℕ) (pages : Pages) : Type 0 where
  pub stands : IsLog pages l
  pub newer : List Part
  pub part : Part
  pub older : List Part
  pub parts : l.parts ≡ newer ++ part ∷ older
  pub same_page : part.page ≡ page
  pub start : ℕ
  pub fills : IsPart pages start part
  pub behind : List Entry
  pub before : List Entry
  pub records : part.records ≡ behind ++ before
  pub filled : IsFilled part.page start at before

-- the records at the place and behind it, the newest first
abbrev pub from_here : {l : Log} → {page at : ℕ} → {pages : Pages} → CutsAt l page at pages
    → List Entry
from_here c = records_in c.newer ++ c.behind
