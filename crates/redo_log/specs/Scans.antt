-- A scan of a log region: where it stands, and what of the region's log it has still to give.
--     IsGate      what stands at a gate: a closed one, a block that passes the region, or a block
--     rest_of, end_of      the groups still to come; how many bytes of the region count as used
--     Advances, Gives      a step of the scan; a call of `next`
use Rattle.std.specs.Prelude.{◌≡◌, ℕ, ◌+◌, ◌-◌, ◌<◌, ◌≤◌, Bool, true, false, List, [], ◌∷◌, ◌++◌, All, length, take, drop, slice_index, if◌then◌else◌, Option, Some, None, ⊤}
use Rattle.page_model.specs.Frames.{max_group, frame_bytes, HasHeader, HoldsFrame, IsFrame, IsInside}
use Rattle.mini_trx.specs.Groups.{GroupView}
use Rattle.file_model.specs.declared.layout.Layout.{Layout}
use Rattle.file_model.specs.Sections.{IsInLimits, part, blocks_place}
use Rattle.file_model.specs.Doublewrite.{is_odd}
use Rattle.file_model.specs.Frames.{Group, frames_of, first_bytes}
use Rattle.file_model.specs.Blocks.{LogRead, log_end, joined, frames_len, log_in, blocks_len, region_room, start_in, log_of}
use Rattle.redo_log.specs.declared.place.Gate.{Gate}
use Rattle.redo_log.specs.declared.place.Gate.TheVariants.{Closed, Early, Open}
use Rattle.redo_log.specs.declared.place.Found.{Found}
use Rattle.redo_log.specs.declared.place.Place.{Place}

-- a gate at the head of these bytes, which reach to the region's end
abbrev pub IsGate : Gate → List ℕ → Type 0
IsGate Closed bytes = is_odd (slice_index bytes 0) ≡ false
IsGate Early bytes = (is_odd (slice_index bytes 0) ≡ true) × (length bytes < 6 + frames_len bytes)
IsGate (Open n) bytes =
    (is_odd (slice_index bytes 0) ≡ true) × (n ≡ frames_len bytes) × (6 + n ≤ length bytes)

-- the bytes of a region's blocks, from one on
abbrev pub blocks_from : Layout → ℕ → ℕ → List ℕ → List ℕ
blocks_from l region at file = part file (blocks_place l region + at) (blocks_len l - at)

-- the log in bytes that begin within a block, which has so many bytes left
abbrev pub rest_in : ℕ → ℕ → List ℕ → LogRead
rest_in pages left bytes =
    joined (frames_of pages (take left bytes)) left (log_in pages (drop left bytes))

-- what is still to come
abbrev pub rest_of : Layout → ℕ → Place → List ℕ → LogRead
rest_of l region p file =
    if p.ended then log_end else rest_in l.pages p.left (blocks_from l region p.at file)

-- where the log ends: at its last gate, or at the region's end where it ends early
abbrev pub end_at : Layout → ℕ → LogRead → ℕ
end_at l at r = if r.early then region_room l else at + r.used

abbrev pub end_of : Layout → ℕ → Place → List ℕ → ℕ
end_of l region p file = end_at l p.at (rest_of l region p file)

abbrev pub writes_of : Option GroupView → List Group
writes_of None = []
writes_of (Some g) = g.writes ∷ []

-- a step gave that group or none, and the log goes on from another place
pub record Advances (l : Layout) (region : ℕ) (given : List Group) (old new : Place)
    (file : List ℕ) : Type 0 where
  pub groups : (rest_of l region old file).groups
      ≡ given ++ (rest_of l region new file).groups
  pub ends : end_of l region new file ≡ end_of l region old file

abbrev pub at_gate : ℕ → Place
at_gate from = record { at = from; left = 0; ended = false }

-- a place within the region: what is left of a block and the gate behind it lie there
abbrev pub IsWithin : Layout → Place → Type 0
IsWithin l p = p.at + p.left ≤ region_room l

-- ---- the scan

pub record ScanState : Type 0 where
  pub layout : Layout
  pub region : ℕ
  pub start : ℕ
  pub place : Place
  -- the group that was read last
  pub given : Option GroupView

-- the room for a group's frame is there, in the buffer or in the group that was read last
abbrev pub HasBuffer : Option GroupView → ℕ → Type 0
HasBuffer None capacity = max_group ≤ capacity
HasBuffer (Some g) capacity = max_group ≤ g.capacity

pub record KeepsScan (l : Layout) (region : ℕ) (p : Place) : Type 0 where
  pub limits : IsInLimits l
  pub which : region ≤ 1
  pub within : IsWithin l p

-- the groups of a file that a scan has still to give
abbrev pub left_of : ScanState → List ℕ → List Group
left_of s file = (rest_of s.layout s.region s.place file).groups

abbrev pub scan_end : ScanState → List ℕ → ℕ
scan_end s file = end_of s.layout s.region s.place file

-- ---- parts of a step

-- what an open gate answers by the length behind it
abbrev pub IsLength : Gate → List ℕ → Type 0
IsLength Closed bytes = ⊥
IsLength Early bytes = length bytes < 6 + frames_len bytes
IsLength (Open n) bytes = (n ≡ frames_len bytes) × (6 + n ≤ length bytes)

-- the block with its next gate lies in so many bytes
abbrev pub FitsGate : Gate → ℕ → Type 0
FitsGate Closed rest = ⊤
FitsGate Early rest = ⊤
FitsGate (Open n) rest = 6 + n ≤ rest

-- a log that is read with these groups in front of another, from so many bytes before
pub record Leads (given : List Group) (k : ℕ) (old new : LogRead) : Type 0 where
  pub groups : old.groups ≡ given ++ new.groups
  pub early : old.early ≡ new.early
  pub used : new.early ≡ false → old.used ≡ k + new.used

-- a gate behind blocks without frames, and what stands there
pub record LeadsTo (pages blocks len from : ℕ) (found : Found) (file : List ℕ) : Type 0 where
  pub log : Leads [] (found.at - from) (log_in pages (part file (blocks + from) (len - from)))
      (log_in pages (part file (blocks + found.at) (len - found.at)))
  pub gate : IsGate found.gate (part file (blocks + found.at) (len - found.at))

abbrev pub HasFrames : Gate → Type 0
HasFrames Closed = ⊤
HasFrames Early = ⊤
HasFrames (Open n) = 0 < n

pub record FitsFound (len from : ℕ) (found : Found) : Type 0 where
  pub behind : from ≤ found.at
  pub inside : found.at < len
  pub fits : FitsGate found.gate (len - found.at)
  pub some : HasFrames found.gate

-- these are the bytes of the first frame, or its length is none that a frame there can have
abbrev pub IsHead : Bool → List ℕ → List ℕ → Type 0
IsHead true buffer bytes = buffer ≡ first_bytes bytes
IsHead false buffer bytes = ¬ (HasHeader (first_bytes bytes))

-- a group was made of these bytes, or they are no frame
abbrev pub IsTaken : Bool → ℕ → List ℕ → Option GroupView → Type 0
IsTaken true pages bytes group = (g : GroupView) × (group ≡ Some g) × (bytes ≡ frame_bytes g.writes)
    × HoldsFrame pages bytes × All (IsInside pages) g.writes
    × ((ws : Group) → IsFrame pages ws bytes → g.writes ≡ ws)
IsTaken false pages bytes group = (group ≡ None) × ¬ (HoldsFrame pages bytes)

-- how many bytes of a region count as used: up to the log's last gate, or all where it ends early
abbrev pub log_end_of : Layout → ℕ → List ℕ → ℕ
log_end_of l region file = end_at l 0 (log_of l region file)

-- the first of the groups that were left was given, or none was left; where the log ends stays
pub record Gives (old new : ScanState) (file : List ℕ) : Type 0 where
  pub groups : left_of old file ≡ writes_of new.given ++ left_of new file
  pub ends : scan_end new file ≡ scan_end old file
  pub at_end : new.given ≡ None → (left_of old file ≡ []) × (new.place.at ≡ scan_end old file)
      × (new.start ≡ start_in old.layout old.region file)
