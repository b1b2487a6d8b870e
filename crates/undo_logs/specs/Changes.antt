-- What the calls make of what a log shows, as functions on plain data.
--     without_newest      without its newest record; it then has these pages
--     with_purge_begun      its purge has begun
--     with_pages      it has these pages
use Rattle.std.specs.Prelude.{ℕ, List, [], ◌∷◌}
use Rattle.store_data.specs.Store.{purging, Log}

abbrev pub all_but_first : {A : Type 0} → List A → List A
all_but_first [] = []
all_but_first (x ∷ xs) = xs

abbrev pub without_newest : List ℕ → Log → Log
without_newest pages l = record l { pages = pages; records = all_but_first l.records }

abbrev pub with_purge_begun : Log → Log
with_purge_begun l = record l { state = purging }

abbrev pub with_pages : List ℕ → Log → Log
with_pages pages l = record l { pages = pages }
