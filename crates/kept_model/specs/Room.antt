-- How many pages are in use, and how many may yet be, to what the journal allows.
--     reserved_pages, asked_pages      what statements have reserved and not taken, and what those
--         need that aren't planned
--     IsRoomy      with the pages in use these are within the ceiling
--     free_pages      what an engine tells as free
use Rattle.std.specs.Prelude.{ℕ, ◌+◌, ◌-◌, ◌≤◌, length, None}
use Rattle.journal_model.specs.Journal.{Script, Opening}
use Rattle.journal_model.specs.Held.{total}
use Rattle.journal_model.specs.Locks.{sessions}
use Rattle.journal_model.specs.Ceiling.{need_now, ceiling}
use Rattle.store_model.specs.Owned.{owned}
use Rattle.kept_model.specs.Engine.{Task, idle, asking, fetching, making, reading, undoing, Session, Engine}

abbrev pub reserved_pages : (ℕ → Session) → ℕ
reserved_pages tasks = total (λ s. (tasks s).reserved) sessions

-- a change that isn't planned has reserved nothing yet
abbrev pub if_unplanned : Task → ℕ → ℕ
if_unplanned idle n = 0
if_unplanned (asking d) n = n
if_unplanned (fetching d ps) n = n
if_unplanned (making d left r) n = 0
if_unplanned (reading d f) n = 0
if_unplanned (undoing u) n = 0

abbrev pub asked_pages : Opening → Script → Engine → ℕ
asked_pages o script e =
    total (λ s. if_unplanned (e.sessions s).task (need_now o script e.journal s)) sessions

abbrev pub IsRoomy : Opening → Script → Engine → Type 0
IsRoomy o script e = length (owned e.store) + reserved_pages e.sessions + asked_pages o script e
    ≤ ceiling o script None e.journal

abbrev pub free_pages : Opening → Engine → ℕ
free_pages o e = o.pages - (length (owned e.store) + reserved_pages e.sessions)
