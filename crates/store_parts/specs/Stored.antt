-- A store in the form that its pages hold: rows in the slots of row pages, logs page by page.
--     Stored      all of it
--     held      the pages of each of its parts
use Rattle.std.specs.Prelude.{ℕ, List, [], ◌∷◌, ◌++◌}
use Rattle.store_data.specs.Store.{Lob}
use Rattle.undo_model.specs.Data.{Log}
use Rattle.undo_model.specs.Rows.{RowPage}
use Rattle.undo_model.specs.LogLists.{all_pages}
use Rattle.lob_model.specs.Lobs.{lob_pages}

pub record Stored : Type 0 where
  pub next_trx : ℕ
  pub commits : ℕ
  pub purged : ℕ
  pub rows : List RowPage
  pub active : List Log
  pub committed : List Log
  pub lobs : List Lob

abbrev pub row_pages : List RowPage → List ℕ
row_pages [] = []
row_pages (p ∷ more) = p.page ∷ row_pages more

abbrev pub pages_of : List Lob → List ℕ
pages_of [] = []
pages_of (l ∷ more) = lob_pages l ++ pages_of more

-- without page 0
abbrev pub part_pages : Stored → List ℕ
part_pages s = row_pages s.rows ++
    (all_pages s.active ++ (all_pages s.committed ++ pages_of s.lobs))

abbrev pub held : Stored → List ℕ
held s = 0 ∷ part_pages s

-- ---- parts taken out and put in

abbrev pub with_lobs : List Lob → Stored → Stored
with_lobs lobs s = record s { lobs = lobs }

abbrev pub with_rows : List RowPage → Stored → Stored
with_rows rows s = record s { rows = rows }

abbrev pub with_active : List Log → Stored → Stored
with_active logs s = record s { active = logs }

abbrev pub with_committed : List Log → Stored → Stored
with_committed logs s = record s { committed = logs }

abbrev pub with_counters : ℕ → ℕ → ℕ → Stored → Stored
with_counters next commits purged s =
    record s { next_trx = next; commits = commits; purged = purged }

-- a log that is taken out leaves its node
abbrev pub out : Log → Log
out log = record log { parts = [] }
