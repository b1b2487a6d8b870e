-- Whether purge has passed a record.
--     logs_in is      all logs of a store that stands there
--     number_in, due_number      an undo number that may be none; that of the record to purge next
--     WalksTo l a place      from the front of the page, record by record, to the first place that
--         isn't before a's
use Rattle.std.specs.Prelude.{ℕ, ◌<◌, List, [], ◌∷◌, ◌++◌, Option, option_and_then}
use Rattle.std.specs.Option.{option_map}
use Rattle.page_model.specs.Pages.{Pages, Address}
use Rattle.store_data.specs.Store.{Store}
use Rattle.store_parts.specs.Shows.{IsStore}
use Rattle.undo_model.specs.Data.{Entry, Log}
use Rattle.undo_model.specs.Logs.{records_of}
use Rattle.undo_model.specs.LogSteps.{number_at}
use Rattle.lob_pages.specs.declared.ids.UndoNo.{UndoNo}
use Rattle.undo_logs.specs.Forward.{CutsAt}

abbrev pub logs_in : {pages : Pages} → {store : Store} → IsStore pages store → List Log
logs_in is = is.stored.active ++ is.stored.committed

abbrev pub number_in : Option UndoNo → Option ℕ
number_in = option_map (λ (n : UndoNo). n.0)

abbrev pub due_number : Log → Option ℕ
due_number l = option_and_then (λ (a : Address). number_at a (records_of l)) l.next

-- each begins before that place
abbrev pub AreBelow : ℕ → List Entry → Type 0
AreBelow at [] = Unit {0}
AreBelow at (e ∷ older) = (e.at.at < at) × AreBelow at older

pub record WalksTo (l : Log) (a : Address) (place : ℕ) (pages : Pages) : Type 0 where
  pub cut : CutsAt l a.page place pages
  pub below : AreBelow a.at cut.before
