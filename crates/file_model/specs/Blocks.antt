-- A log region: its start LSN (8), then blocks. A block is a gate byte, the length of its frames
-- (4), and the frames; the next gate follows.
-- A gate is open where its lowest bit is 1. The log ends at the first closed gate, or early: at an
-- open block that with its next gate
-- passes the region, of which nothing counts, or at a frame that a group can't have, before which
-- all counts.
use Rattle.std.specs.Prelude.{◌≡◌, ℕ, zero, suc, ◌+◌, ◌-◌, ◌≤◌, Bool, true, false, List, [], ◌∷◌, ◌++◌, length, drop, slice_index, nat_le, if◌then◌else◌}
use Rattle.byteorder.specs.Endian.{big_number, big_bytes}
use Rattle.file_model.specs.declared.layout.Layout.{Layout}
use Rattle.file_model.specs.Sections.{part, log_bytes, region_place, blocks_place}
use Rattle.file_model.specs.Doublewrite.{is_odd}
use Rattle.file_model.specs.Frames.{Group, FramesRead, frames_of, frames_bytes}

-- the groups of the open blocks; how many bytes stand before the last gate that was read; whether
-- that gate is open
pub record LogRead : Type 0 where
  pub groups : List Group
  pub used : ℕ
  pub early : Bool

-- what stands behind a closed gate is not looked at
abbrev pub log_end : LogRead
log_end = record { groups = []; used = 0; early = false }

abbrev pub ends_early : List Group → LogRead
ends_early groups = record { groups = groups; used = 0; early = true }

-- a block with these frames, whose next gate stands so many bytes on, and what follows it
abbrev pub joined : FramesRead → ℕ → LogRead → LogRead
joined frames len after = if frames.whole
    then record {
      groups = frames.groups ++ after.groups;
      used = len
          + after.used;
      early = after.early;
    } else ends_early frames.groups

-- the length of the first block's frames
abbrev pub frames_len : List ℕ → ℕ
frames_len bytes = big_number 4 (part bytes 1 4)

-- an open block at the front, where `next` reads the bytes from its next gate on
abbrev pub block_from : ℕ → (List ℕ → LogRead) → List ℕ → LogRead
block_from pages next bytes =
    if nat_le (6 + frames_len bytes) (length bytes)
    then joined (frames_of pages (part bytes 5 (frames_len bytes))) (5 + frames_len bytes)
    (next (drop (5 + frames_len bytes) bytes))
    else ends_early []

-- the log in the bytes from a gate on; the first number is at least their length
abbrev pub log_from : ℕ → ℕ → List ℕ → LogRead
log_from zero pages bytes = log_end
log_from (suc n) pages bytes = if is_odd (slice_index bytes 0)
    then block_from pages (log_from n pages) bytes else log_end

unfoldable pub log_in : ℕ → List ℕ → LogRead
log_in pages bytes = log_from (length bytes) pages bytes

-- ---- a file's regions

-- how many bytes the blocks of a region have
abbrev pub blocks_len : Layout → ℕ
blocks_len l = log_bytes l - 8

-- how many bytes can be used: one is left for the last closed gate
abbrev pub region_room : Layout → ℕ
region_room l = log_bytes l - 9

abbrev pub blocks_in : Layout → ℕ → List ℕ → List ℕ
blocks_in l region file = part file (blocks_place l region) (blocks_len l)

abbrev pub start_in : Layout → ℕ → List ℕ → ℕ
start_in l region file = big_number 8 (part file (region_place l region) 8)

abbrev pub log_of : Layout → ℕ → List ℕ → LogRead
log_of l region file = log_in l.pages (blocks_in l region file)

-- ---- writing

-- what stands behind the gate of a block: the length of its frames, the frames, and a closed gate
abbrev pub block_bytes : List Group → List ℕ
block_bytes groups = big_bytes 4 (length (frames_bytes groups)) ++ (frames_bytes groups ++ 0 ∷ [])

-- how many bytes a block takes, with its own gate and without the next
abbrev pub block_len : List Group → ℕ
block_len groups = 5 + length (frames_bytes groups)

-- the region's log ends at a closed gate behind so many bytes, and the file reaches the region's
-- end
pub record EndsAt (l : Layout) (region used : ℕ) (file : List ℕ) : Type 0 where
  pub within : region_place l region + log_bytes l ≤ length file
  pub at : (log_of l region file).used ≡ used
  pub closed : (log_of l region file).early ≡ false

-- the gate at which it ends
abbrev pub gate_place : Layout → ℕ → ℕ → ℕ
gate_place l region used = blocks_place l region + used

-- a log with one more block
abbrev pub with_block : LogRead → List Group → LogRead
with_block r groups = record {
  groups = r.groups ++ groups;
  used = r.used
      + block_len groups;
  early = false;
}
