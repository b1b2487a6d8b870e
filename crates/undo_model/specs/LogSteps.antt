-- What the calls make of a log, as functions on plain data.
use Rattle.std.specs.Prelude.{◌≡◌, ℕ, ◌==◌, Bool, true, false, ◌&&◌, ◌||◌, not, cond, List, [], ◌∷◌, length, Option, Some, None, nat_lt}
use Rattle.page_model.specs.Pages.{Address}
use Rattle.store_data.specs.Store.{LogState, active, committed, purging}
use Rattle.undo_model.specs.Data.{Entry, Part, Log}
use Rattle.undo_model.specs.Logs.{records_of}

-- a log without records
abbrev pub begun : ℕ → ℕ → Log
begun page trx = record {
  page = page;
  trx = trx;
  state = active;
  commit = 0;
  parts = record { page = page; records = [] } ∷ [];
  next = None;
}

-- the record is put behind the newest, on the page of its place
abbrev pub put_part : Entry → List Part → List Part
put_part e [] = record { page = e.at.page; records = e ∷ [] } ∷ []
put_part e (p ∷ older) =
    cond (p.page == e.at.page) (record { page = p.page; records = e ∷ p.records } ∷ older)
    (record { page = e.at.page; records = e ∷ [] } ∷ p ∷ older)

abbrev pub appended : Entry → Log → Log
appended e log = record log { parts = put_part e log.parts }

-- without the newest record of the newest page; a page that is left without one goes too
abbrev pub cut_records : ℕ → List Entry → List Part → List Part
cut_records page [] older = older
cut_records page (e ∷ []) older = older
cut_records page (e ∷ f ∷ more) older = record { page = page; records = f ∷ more } ∷ older

abbrev pub cut_part : List Part → List Part
cut_part [] = []
cut_part (p ∷ older) = cut_records p.page p.records older

-- where no page is left, the log is gone
abbrev pub popped : Log → Log
popped log = record log { parts = cut_part log.parts }

abbrev pub oldest : List Entry → Option Address
oldest [] = None
oldest (e ∷ []) = Some e.at
oldest (e ∷ f ∷ older) = oldest (f ∷ older)

abbrev pub marked_committed : ℕ → Log → Log
marked_committed n log =
    record log { state = committed; commit = n; next = oldest (records_of log) }

abbrev pub begun_purge : Log → Log
begun_purge log = record log { state = purging }

abbrev pub same_address : Address → Address → Bool
same_address a b = (a.page == b.page) && (a.at == b.at)

-- the record that was made behind the one there
abbrev pub newer : Address → List Entry → Option Address
newer a [] = None
newer a (e ∷ []) = None
newer a (e ∷ f ∷ older) = cond (same_address f.at a) (Some e.at) (newer a (f ∷ older))

abbrev pub next_behind : Option Address → List Entry → Option Address
next_behind None records = None
next_behind (Some a) records = newer a records

abbrev pub purged_one : Log → Log
purged_one log = record log { next = next_behind log.next (records_of log) }

-- without its newest page
abbrev pub drop_first : List Part → List Part
drop_first [] = []
drop_first (p ∷ older) = older

abbrev pub page_dropped : Log → Log
page_dropped log = record log { parts = drop_first log.parts }

-- ---- whether the record that a row names counts as purged

-- the number of the record there
abbrev pub number_at : Address → List Entry → Option ℕ
number_at a [] = None
number_at a (e ∷ older) = cond (same_address e.at a) (Some e.undo.number) (number_at a older)

abbrev pub is_greater : Option ℕ → Option ℕ → Bool
is_greater (Some m) (Some n) = nat_lt n m
is_greater (Some m) None = true
is_greater None n = true

-- purged past: none is next, or one with a greater number
abbrev pub is_past : Option Address → Address → List Entry → Bool
is_past None a records = true
is_past (Some next) a records = is_greater (number_at next records) (number_at a records)

abbrev pub is_committed : LogState → Bool
is_committed active = false
is_committed committed = true
is_committed purging = true

abbrev pub has_page : ℕ → List Part → Bool
has_page page [] = false
has_page page (p ∷ older) = (p.page == page) || has_page page older

-- the log that the page is of
abbrev pub log_with : ℕ → List Log → Option Log
log_with page [] = None
log_with page (log ∷ more) = cond (has_page page log.parts) (Some log) (log_with page more)

abbrev pub is_purged_in : Option Log → Address → ℕ → Bool
is_purged_in None a trx = true
is_purged_in (Some log) a trx =
    not (log.trx == trx) || (is_committed log.state && is_past log.next a (records_of log))

-- of all logs, active and committed
abbrev pub is_purged : List Log → Option Address → ℕ → Bool
is_purged logs None trx = true
is_purged logs (Some a) trx = is_purged_in (log_with a.page logs) a trx
