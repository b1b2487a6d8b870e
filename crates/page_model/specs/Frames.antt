-- A group of writes as a frame: its whole length (4), the number of writes (2), and for each write
-- page 4, offset 2, length 2, bytes. Each number is big-endian.
--     frame_bytes, writes_in      the frame of a list of writes; the writes that a frame's bytes
--                                 tell
--     IsInside      a write lies within one of so many pages
--     IsFrame, HoldsFrame      these bytes are a whole frame that a group may have; they are one of
--                              some writes
use Rattle.std.specs.Prelude.{◌≡◌, ℕ, zero, suc, ◌+◌, ◌<◌, ◌≤◌, ◌^◌, List, [], ◌∷◌, ◌++◌, length, take, drop, All}
use Rattle.byteorder.specs.Endian.{big_bytes, big_number}
use Rattle.page_model.specs.Pages.{Write, page_bytes}

-- what stands in front of a write's bytes
abbrev pub head_bytes : Write → List ℕ
head_bytes w = big_bytes 4 w.page ++ (big_bytes 2 w.at ++ big_bytes 2 (length w.bytes))

abbrev pub write_bytes : Write → List ℕ
write_bytes w = head_bytes w ++ w.bytes

abbrev pub writes_bytes : List Write → List ℕ
writes_bytes [] = []
writes_bytes (w ∷ ws) = write_bytes w ++ writes_bytes ws

-- what stands in front of the writes
abbrev pub header_bytes : ℕ → ℕ → List ℕ
header_bytes len count = big_bytes 4 len ++ big_bytes 2 count

unfoldable pub frame_bytes : List Write → List ℕ
frame_bytes ws = header_bytes (6 + length (writes_bytes ws)) (length ws) ++ writes_bytes ws

-- how many bytes the frame of a full group has
abbrev pub max_group : ℕ
max_group = 262_144

abbrev pub write : ℕ → ℕ → List ℕ → Write
write page at bytes = record { page = page; at = at; bytes = bytes }

-- ---- reading a frame

-- the first write of these bytes
abbrev pub write_at_head : List ℕ → Write
write_at_head bytes = record {
  page = big_number 4 bytes;
  at = big_number 2 (drop 4 bytes);
  bytes = take (big_number 2 (drop 6 bytes)) (drop 8 bytes);
}

-- the first so many writes of these bytes
abbrev pub writes_from : ℕ → List ℕ → List Write
writes_from zero bytes = []
writes_from (suc n) bytes = write_at_head bytes
    ∷ writes_from n (drop (8 + big_number 2 (drop 6 bytes)) bytes)

-- the writes of a frame
abbrev pub writes_in : List ℕ → List Write
writes_in frame = writes_from (big_number 2 (drop 4 frame)) (drop 6 frame)

-- ---- what a group may have

-- the write lies within one of so many pages
pub record IsInside (count : ℕ) (w : Write) : Type 0 where
  pub page : w.page < count
  pub within : w.at + length w.bytes ≤ page_bytes

-- these bytes are the whole frame of these writes, within so many pages
pub record IsFrame (count : ℕ) (ws : List Write) (bytes : List ℕ) : Type 0 where
  pub frame : bytes ≡ frame_bytes ws
  pub short : length bytes ≤ max_group
  pub inside : All (IsInside count) ws

abbrev pub HoldsFrame : ℕ → List ℕ → Type 0
HoldsFrame count bytes = (ws : List Write) × IsFrame count ws bytes

-- the bytes begin with a write within so many pages, and the others follow
pub record BeginsWith (count : ℕ) (w : Write) (after bytes : List ℕ) : Type 0 where
  pub inside : IsInside count w
  pub joined : bytes ≡ write_bytes w ++ after

-- the fields of a write fit their places
pub record IsSmall (w : Write) : Type 0 where
  pub page : w.page < 2 ^ 32
  pub at : w.at < 2 ^ 16
  pub size : length w.bytes < 2 ^ 16

abbrev pub AreSmall : List Write → Type 0
AreSmall [] = Unit {0}
AreSmall (w ∷ ws) = IsSmall w × AreSmall ws

-- these bytes are so many writes within so many pages, and no more
abbrev pub HasWrites : ℕ → ℕ → List ℕ → Type 0
HasWrites count n bytes = (ws : List Write) × (length ws ≡ n) × (bytes ≡ writes_bytes ws)
    × All (IsInside count) ws

-- the bytes begin as a frame of their length
pub record HasHeader (bytes : List ℕ) : Type 0 where
  pub long : 6 ≤ length bytes
  pub short : length bytes ≤ max_group
  pub len : big_number 4 bytes ≡ length bytes
