-- A document of a store: its row, the records of its changes with their places, and the LOBs.
--     ClearsElsewhere      the LOB that purge frees with a record is not that of the row which the
--         view sees
use Rattle.std.specs.Prelude.{ℕ, map}
use Rattle.store_data.specs.Store.{Row, Body, inserted, rebuilt, versioned, patched, removed, Store}
use Rattle.store_model.specs.History.{Change, changes, row_before}
use Rattle.read_model.specs.Patches.{Entry}
use Rattle.read_model.specs.Document.{Document, Sees}
use Rattle.read_model.specs.Kinds.{IsElsewhere}

abbrev pub entry : Change → Entry
entry c = (c.place, c.undo)

abbrev pub document : Store → ℕ → Document
document store d = record {
  row = row_before store d;
  records = map entry (changes store d);
  lobs = store.lobs;
}

abbrev pub ClearsElsewhere : Sees → Store → ℕ → Row → Body → Type 0
ClearsElsewhere sees store d before (inserted page) = Unit {0}
ClearsElsewhere sees store d before (rebuilt page) =
    IsElsewhere sees (document store d) before.lob.page
ClearsElsewhere sees store d before (versioned pieces touched) = Unit {0}
ClearsElsewhere sees store d before (patched old) = Unit {0}
ClearsElsewhere sees store d before removed = IsElsewhere sees (document store d) before.lob.page
