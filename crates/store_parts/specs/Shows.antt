-- What a store in pages shows: the plain data of a store.
--     row_of, record_of, log_of      of the forms in pages
--     IsStore pages store      the pages hold this store
use Rattle.std.specs.Prelude.{◌≡◌, ◌≢◌, ℕ, zero, suc, ◌+◌, ◌/◌, ◌%◌, ◌==◌, cond, List, [], ◌∷◌, length, slice_index, Option, Some, None}
use Rattle.std.specs.Option.{option_map}
use Rattle.std.specs.Int.{bit_at}
use Rattle.std.specs.Ordering.{nat_cmp}
use Rattle.std.specs.FinMap.Entries.{find}
use Rattle.page_model.specs.Pages.{Pages, Address}
use Rattle.store_data.specs.Store.{LogState, active, committed, purging, Store, Row, Reference, Body, inserted, rebuilt, versioned, patched, removed, Record, Log, AreRising}
use Rattle.undo_model.specs.Data.{led, Entry, Row as RowThere, Reference as ReferenceThere, Record as RecordThere, Body as BodyThere, inserted as inserts, rebuilt as rebuilds, versioned as versions, patched as patches, removed as removes, Log as LogThere}
use Rattle.undo_model.specs.Logs.{records_of}
use Rattle.undo_model.specs.LogSteps.{same_address}
use Rattle.undo_model.specs.LogLists.{pages_in, AreActive, AreCommitted}
use Rattle.undo_model.specs.Rows.{row_for, rows_of}
use Rattle.store_parts.specs.Stored.{Stored, row_pages}
use Rattle.store_parts.specs.Standing.{IsStoreBut}

abbrev pub reference_of : ReferenceThere → Reference
reference_of r = record { page = r.page; version = r.version; length = r.length }

abbrev pub row_of : RowThere → Row
row_of r = record { state = r.state; trx = r.trx; roll = led r.roll; lob = reference_of r.lob }

-- the numbers from k on whose bits are set, of so many
abbrev pub touched_from : ℕ → ℕ → List ℕ → List ℕ
touched_from k zero bits = []
touched_from k (suc n) bits =
    cond (bit_at (slice_index bits (k / 8)) (k % 8) == 1) (k ∷ touched_from (suc k) n bits)
    (touched_from (suc k) n bits)

abbrev pub body_of : BodyThere → Body
body_of (inserts page) = inserted page
body_of (rebuilds page) = rebuilt page
body_of (versions pieces bits) = versioned pieces (touched_from 0 pieces bits)
body_of (patches runs) = patched runs
body_of removes = removed

abbrev pub record_of : RecordThere → Record
record_of u = record {
  number = u.number;
  doc = u.doc;
  before = row_of u.before;
  body = body_of u.body;
}

abbrev pub entry_of : Entry → Address × Record
entry_of e = (e.at, record_of e.undo)

abbrev pub entries_of : List Entry → List (Address × Record)
entries_of [] = []
entries_of (e ∷ more) = entry_of e ∷ entries_of more

-- ---- the records of a log, down to the one that is to be purged next

abbrev pub down_to : Address → List Entry → List Entry
down_to a [] = []
down_to a (e ∷ more) = cond (same_address e.at a) (e ∷ []) (e ∷ down_to a more)

abbrev pub due : Option Address → List Entry → List Entry
due None entries = []
due (Some a) entries = down_to a entries

abbrev pub due_in : LogState → Option Address → List Entry → List Entry
due_in active next entries = entries
due_in committed next entries = due next entries
due_in purging next entries = due next entries

abbrev pub log_of : LogThere → Log
log_of l = record {
  page = l.page;
  trx = l.trx;
  state = l.state;
  number = l.commit;
  pages = pages_in l.parts;
  records = entries_of (due_in l.state l.next (records_of l));
}

abbrev pub logs_of : List LogThere → List Log
logs_of [] = []
logs_of (l ∷ more) = log_of l ∷ logs_of more

-- ---- the store

-- all but the rows are told by the form in pages; rows are those of the slots, sorted
pub record Shows (s : Stored) (store : Store) : Type 0 where
  pub next_trx : store.next_trx ≡ s.next_trx
  pub commits : store.commits ≡ s.commits
  pub purged : store.purged ≡ s.purged
  pub rising : AreRising store.rows
  pub rows : (d : ℕ) → find nat_cmp d store.rows ≡ option_map row_of (row_for d (rows_of s.rows))
  pub row_pages : store.row_pages ≡ row_pages s.rows
  pub active : store.active ≡ logs_of s.active
  pub committed : store.committed ≡ logs_of s.committed
  pub lobs : store.lobs ≡ s.lobs

abbrev pub AreIn : List LogThere → Type 0
AreIn [] = Unit {0}
AreIn (l ∷ more) = (l.parts ≢ []) × AreIn more

-- nothing is taken out
pub record IsWhole (s : Stored) : Type 0 where
  pub active : AreActive s.active
  pub committed : AreCommitted (suc s.purged) s.committed
  pub count : s.commits ≡ s.purged + length s.committed
  pub active_in : AreIn s.active
  pub committed_in : AreIn s.committed

pub record IsStore (pages : Pages) (store : Store) : Type 0 where
  pub stored : Stored
  pub standing : IsStoreBut [] pages stored
  pub whole : IsWhole stored
  pub shows : Shows stored store

-- ---- a new store

abbrev pub empty_stored : Stored
empty_stored = record {
  next_trx = 1;
  commits = 0;
  purged = 0;
  rows = [];
  active = [];
  committed = [];
  lobs = [];
}

abbrev pub empty_store : Store
empty_store = record {
  next_trx = 1;
  commits = 0;
  purged = 0;
  rows = [];
  row_pages = [];
  active = [];
  committed = [];
  lobs = [];
}
