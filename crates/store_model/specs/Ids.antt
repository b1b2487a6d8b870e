-- Transaction ids: those of logs and rows are below the next one, and no log has the id 0 of an
-- absent row.
--     base_of      the oldest row that a store still tells
--     HasIds store      also, no oldest row is of an active transaction, since the record that
--         made it is purged
use Rattle.std.specs.Prelude.{ℕ, ◌<◌, List, [], ◌∷◌, ◌++◌}
use Rattle.store_data.specs.Store.{Row, Log, Store}
use Rattle.store_model.specs.History.{Change, changes, row_before}
use Rattle.store_model.specs.Behind.{AllRows}
use Rattle.store_model.specs.Well.{NoLog}

abbrev pub base_of : Row → List Change → Row
base_of row [] = row
base_of row (c ∷ cs) = base_of c.undo.before cs

abbrev pub LogsBelow : ℕ → List Log → Type 0
LogsBelow n [] = Unit {0}
LogsBelow n (l ∷ ls) = (l.trx < n) × LogsBelow n ls

pub record HasIds (store : Store) : Type 0 where
  pub some : NoLog 0 (store.active ++ store.committed)
  pub logs : LogsBelow store.next_trx (store.active ++ store.committed)
  pub rows : (d : ℕ) → AllRows (λ r. r.trx < store.next_trx) store d
  pub bases : (d : ℕ) → NoLog (base_of (row_before store d) (changes store d)).trx store.active
