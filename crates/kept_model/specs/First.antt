-- The engine of a new store.
use Rattle.std.specs.Prelude.{[], None}
use Rattle.store_data.specs.Store.{Store}
use Rattle.kept_model.specs.Engine.{Engine, resting}

abbrev pub empty_store : Store
empty_store = record {
  next_trx = 1;
  commits = 0;
  purged = 0;
  rows = [];
  row_pages = [];
  active = [];
  committed = [];
  lobs = [];
}

abbrev pub new_engine : Engine
new_engine = record {
  store = empty_store;
  sessions = λ s. resting;
  locks = λ d. None;
  journal = [];
}
