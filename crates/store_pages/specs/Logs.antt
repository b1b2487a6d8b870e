-- All logs of a store, as calls that see them together ask for them.
--     IsAmong x logs      one of these logs shows x
--     NamesRecord store row      the row's record stands in the log of a transaction at work
--     LogsAt pages store      the store's logs stand on pages of their own, in their two lists
use Rattle.std.specs.Prelude.{◌≡◌, ℕ, ◌+◌, ◌^◌, ◌<◌, false, List, ◌∷◌, ◌++◌, length, Some, is_none}
use Rattle.page_model.specs.Pages.{Pages, Address, field}
use Rattle.page_space.specs.declared.layout.TheConstants.{COMMITS}
use Rattle.store_data.specs.Store.{Row, Log, Store}
use Rattle.undo_model.specs.Data.{Log as LogThere}
use Rattle.undo_model.specs.LogLists.{Logs, IsLogs}
use Rattle.store_model.specs.Steps.{log_of as log_in}
use Rattle.store_model.specs.Undo.{record_at}
use Rattle.store_parts.specs.Shows.{log_of, logs_of}

pub record IsAmong (x : Log) (logs : List LogThere) : Type 0 where
  pub before : List LogThere
  pub log : LogThere
  pub behind : List LogThere
  pub here : logs ≡ before ++ log ∷ behind
  pub shows : log_of log ≡ x

pub record LogsAt (pages : Pages) (store : Store) : Type 0 where
  pub logs : Logs
  pub stands : IsLogs pages logs
  pub active : store.active ≡ logs_of logs.active
  pub committed : store.committed ≡ logs_of logs.committed
  pub purged : store.purged ≡ logs.purged
  pub counted : field pages 0 COMMITS 8 ≡ store.commits
  pub few : length logs.committed + 1 < 2 ^ 32
  pub found : (trx : ℕ) (x : Log) → log_in store.active trx ≡ Some x → IsAmong x logs.active

-- ---- the record that a row names

-- where its transaction is at work, a record stands at its place in that one's log
abbrev pub NamesRecord : Store → Row → Type 0
NamesRecord store row = (l : Log) (a : Address) → log_in store.active row.trx ≡ Some l
    → row.roll ≡ Some a → is_none (record_at l.records a) ≡ false
