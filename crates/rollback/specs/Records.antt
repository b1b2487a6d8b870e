-- The newest record of a log.
--     log_left      the log's pages, where it has a record left
--     record_out      without the newest record
--     PopsRecord      the record is out of its log
use Rattle.std.specs.Prelude.{ℕ, Bool, true, false, List, [], ◌∷◌}
use Rattle.page_model.specs.Pages.{Pages, Address}
use Rattle.store_data.specs.Store.{Record, Store}
use Rattle.store_model.specs.Steps.{without_record}
use Rattle.store_model.specs.Events.{with_log_pages}
use Rattle.store_steps.specs.Standing.{StandsOn}
use Rattle.rollback.specs.Standing.{Scene}

abbrev pub log_left : List (Address × Record) → ℕ → List ℕ → Store → Store
log_left [] trx pages store = store
log_left (u ∷ us) trx pages store = with_log_pages trx pages store

abbrev pub is_left : List (Address × Record) → Bool
is_left [] = false
is_left (u ∷ us) = true

abbrev pub record_out : ℕ → Store → Store
record_out trx store = record store { active = without_record trx store.active }

abbrev pub PopsRecord : Scene → Pages → Type 0
PopsRecord s new = (pages : List ℕ)
    × StandsOn s.there new (log_left s.rest s.trx pages (record_out s.trx s.store))
