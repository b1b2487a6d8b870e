-- What contracts see of an open log, and what a flush does to a file and may do to what a crash
-- leaves.
--     LogState      the region, how much of it is used, and the groups that wait for a flush
--     log_room, appended, flushed      how long a group may be; the state behind an append; behind
-- a flush
--     IsFlushed, MayFlush      the file behind a flush; what a crash in it may leave
use Rattle.std.specs.Prelude.{◌≡◌, ◌⊎◌, ℕ, ◌+◌, ◌-◌, ◌<◌, ◌≤◌, ◌^◌, ◌%◌, min, List, [], ◌∷◌, ◌++◌, All, length, drop}
use Rattle.file_model.specs.declared.layout.Layout.{Layout}
use Rattle.file_model.specs.Sections.{IsInLimits}
use Rattle.file_model.specs.Changes.{SameElsewhere, Range}
use Rattle.file_model.specs.Frames.{Group, frames_bytes, frames_of, IsLoggable}
use Rattle.file_model.specs.Blocks.{LogRead, log_of, block_len, region_room, EndsAt, gate_place, with_block}

pub record LogState : Type 0 where
  pub layout : Layout
  pub region : ℕ
  pub start : ℕ
  pub used : ℕ
  -- appended and not flushed, in order
  pub pending : List Group

-- how many bytes a block's buffer has: its length, frames and closed gate
abbrev pub buffer_bytes : ℕ
buffer_bytes = 1_048_576

-- the bytes that the next flush takes
abbrev pub taken : List Group → ℕ
taken [] = 0
taken (g ∷ gs) = block_len (g ∷ gs)

-- how many bytes the frame of a group may have that is appended next
abbrev pub log_room : LogState → ℕ
log_room s = min (buffer_bytes - block_len s.pending)
    (region_room s.layout - (s.used + block_len s.pending))

abbrev pub appended : LogState → Group → LogState
appended s g = record s { pending = s.pending ++ g ∷ [] }

abbrev pub flushed : LogState → LogState
flushed s = record s { used = s.used + taken s.pending; pending = [] }

-- the LSN behind all that was appended
abbrev pub lsn_of : LogState → ℕ
lsn_of s = (s.start + (s.used + taken s.pending)) % 2 ^ 64

-- ---- what the log's own parts keep

abbrev pub pending_in : ℕ → List ℕ → List Group
pending_in pages buffer = (frames_of pages (drop 4 buffer)).groups

pub record KeepsLog (l : Layout) (region used : ℕ) (buffer : List ℕ) (capacity : ℕ) : Type 0 where
  pub limits : IsInLimits l
  pub which : region ≤ 1
  pub in_region : used ≤ region_room l
  pub head : 4 ≤ length buffer
  pub frames : drop 4 buffer ≡ frames_bytes (pending_in l.pages buffer)
  pub good : All (IsLoggable l.pages) (pending_in l.pages buffer)
  pub in_buffer : length buffer < buffer_bytes
  pub room : 4 < length buffer → used + (1 + length buffer) ≤ region_room l
  pub enough : buffer_bytes ≤ capacity

-- ---- files

abbrev pub own_gate : LogState → ℕ
own_gate s = gate_place s.layout s.region s.used

-- the file's log ends where this one goes on
abbrev pub IsLogOf : LogState → List ℕ → Type 0
IsLogOf s file = EndsAt s.layout s.region s.used file

-- a log with these groups behind it
abbrev pub log_with : LogRead → List Group → LogRead
log_with r [] = r
log_with r (g ∷ gs) = with_block r (g ∷ gs)

-- only bytes of the region from the log's gate on differ
abbrev pub SameBesideBlock : LogState → List ℕ → List ℕ → Type 0
SameBesideBlock s file c = SameElsewhere (Range (own_gate s) (1 + block_len s.pending)) file c

pub record IsFlushed (s : LogState) (file new : List ℕ) : Type 0 where
  pub log : log_of s.layout s.region new ≡ log_with (log_of s.layout s.region file) s.pending
  pub ends : IsLogOf (flushed s) new
  pub others : SameBesideBlock s file new

-- the groups that were flushed, and all that wait or none of them
pub record MayFlush (s : LogState) (file c : List ℕ) : Type 0 where
  pub log : (log_of s.layout s.region c ≡ log_of s.layout s.region file)
      ⊎ (log_of s.layout s.region c ≡ log_with (log_of s.layout s.region file) s.pending)
  pub others : SameBesideBlock s file c

abbrev pub Flushes : LogState → List ℕ → List ℕ → Type 0
Flushes s file new = IsLogOf s file → IsFlushed s file new
