-- A disk in memory that keeps each call: what it shows, what a crash may leave of it, and which
-- calls fail.
--     Event, Settled      a write or a sync; the contents of the last sync with the writes since
--     contents_of, IsImage, LeftSince      what a read gives; what a crash may leave, and might
--                                          have left
--     MemState, disk_state      what callers see of the disk; what it shows as a disk
--     Refuses      the next call fails
use Rattle.std.specs.Prelude.{◌≡◌, ◌⊎◌, ℕ, ◌+◌, ◌-◌, ◌*◌, ◌^◌, ◌<◌, ◌≤◌, true, List, [], ◌∷◌, ◌++◌, length, take, drop, Option, Some, None, Contains, if◌then◌else◌}
use Rattle.engine_base.specs.Disk.{DiskState, Torn}
use Rattle.engine_base.specs.Numbers.{raised}
use Rattle.mem_disk.specs.SureDisk.{overlaid}
use Rattle.mem_disk.specs.declared.mem_disk.Step.{Step}

pub data Event : Type 0 where
  wrote : (at : ℕ) (bytes : List ℕ) → Event
  synced : Event

-- the events of a record of steps, whose bytes stand one behind another
abbrev pub event : Step → List ℕ → Event
event s bytes = if s.is_sync then synced else wrote s.at (take s.len bytes)

abbrev pub events_in : List Step → List ℕ → List Event
events_in [] bytes = []
events_in (s ∷ steps) bytes = event s bytes ∷ events_in steps (drop s.len bytes)

-- how many bytes the steps have in all
abbrev pub total : List Step → ℕ
total [] = 0
total (s ∷ steps) = s.len + total steps

-- ---- contents and images

abbrev pub Write : Type 0
Write = ℕ × List ℕ

-- a file as it was at the last sync, and the writes since, in order
pub record Settled : Type 0 where
  pub file : List ℕ
  pub writes : List Write

-- a file with these writes made
abbrev pub written_over : List Write → List ℕ → List ℕ
written_over [] file = file
written_over (w ∷ writes) file = written_over writes (overlaid file w.0 w.1)

abbrev pub reads_as : Settled → List ℕ
reads_as s = written_over s.writes s.file

abbrev pub after : Settled → List Event → Settled
after s [] = s
after s (wrote at bytes ∷ events) =
    after (record { file = s.file; writes = s.writes ++ (at, bytes) ∷ [] }) events
after s (synced ∷ events) = after (record { file = reads_as s; writes = [] }) events

abbrev pub fresh : List ℕ → Settled
fresh base = record { file = base; writes = [] }

-- this comes of the file where each of the writes, in order, may be cut short
abbrev pub Reaches : List Write → List ℕ → List ℕ → Type 0
Reaches [] file c = c ≡ file
Reaches (w ∷ writes) file c = (d : List ℕ) × Torn w.0 (length w.1) file d × Reaches writes d c

abbrev pub contents_of : List ℕ → List Event → List ℕ
contents_of base events = reads_as (after (fresh base) events)

-- what a crash behind these events may leave: what a read gives, or each write since the sync torn
abbrev pub IsImage : List ℕ → List Event → List ℕ → Type 0
IsImage base events c = (c ≡ contents_of base events)
    ⊎ Reaches (after (fresh base) events).writes (after (fresh base) events).file c

-- behind the last event, or behind an earlier one from the t-th on
abbrev pub LeftSince : List ℕ → List Event → ℕ → List ℕ → Type 0
LeftSince base events t c = IsImage base events c
    ⊎ ((k : ℕ) × (t ≤ k) × (k < length events) × IsImage base (take k events) c)

-- ---- the disk

pub record MemState : Type 0 where
  pub base : List ℕ
  pub events : List Event
  -- the places of the reads
  pub reads : List ℕ
  pub fails : List ℕ
  pub stop_after : Option ℕ
  pub room : ℕ
  pub used : ℕ
  pub calls : ℕ
  pub writes : ℕ
  pub faults : ℕ

abbrev pub contents_in : MemState → List ℕ
contents_in m = contents_of m.base m.events

abbrev pub disk_state : MemState → DiskState
disk_state m = record {
  seen = Some (contents_in m);
  tells_images = true;
  may_leave = IsImage m.base m.events;
  moment = length m.events;
  left_since = LeftSince m.base m.events;
  faults = m.faults;
}

abbrev pub IsStopped : Option ℕ → ℕ → Type 0
IsStopped None writes = ⊥
IsStopped (Some most) writes = most ≤ writes

-- the next call, whose record takes 64 bytes and so many more, is listed, past the stop, or past
-- the room
abbrev pub Refuses : MemState → ℕ → Type 0
Refuses m more = Contains m.fails (raised m.calls) ⊎ IsStopped m.stop_after m.writes
    ⊎ (m.room < m.used + (64 + more))

-- a write takes its bytes and the growth of the size
abbrev pub write_cost : MemState → ℕ → ℕ → ℕ
write_cost m at n = n + ((at + n) - length (contents_in m))

abbrev pub after_fault : MemState → MemState
after_fault m = record m { calls = raised m.calls; faults = raised m.faults }

abbrev pub after_call : MemState → MemState
after_call m = record m { calls = raised m.calls }

-- behind a call whose record took 64 bytes and so many more
abbrev pub after_record : MemState → ℕ → MemState
after_record m more = record m { calls = raised m.calls; used = m.used + (64 + more) }

abbrev pub after_read : MemState → ℕ → MemState
after_read m at = record (after_record m 0) { reads = m.reads ++ at ∷ [] }

abbrev pub after_write : MemState → ℕ → List ℕ → MemState
after_write m at bytes = record (after_record m (write_cost m at (length bytes))) {
  events = m.events ++ wrote at bytes ∷ [];
  writes = raised m.writes;
}

abbrev pub after_sync : MemState → MemState
after_sync m = record (after_record m 0) { events = m.events ++ synced ∷ [] }

-- what the parts of the disk keep: the room that is left is there in each of them
pub record KeepsMem (base contents : List ℕ) (steps : List Step) (bytes reads : List ℕ)
    (room used steps_cap bytes_cap reads_cap contents_cap : ℕ) : Type 0 where
  pub is : contents ≡ contents_of base (events_in steps bytes)
  pub whole : total steps ≡ length bytes
  pub fits : used ≤ room
  pub small : room < 2 ^ 62
  pub steps_fit : 64 * length steps + room ≤ 64 * steps_cap + 63 + used
  pub reads_fit : 64 * length reads + room ≤ 64 * reads_cap + 63 + used
  pub bytes_fit : length bytes + room ≤ bytes_cap + used
  pub contents_fit : length contents + room ≤ contents_cap + used
