-- The frames that bytes hold, one behind another, up to the first that a group can't have.
use Rattle.std.specs.Prelude.{ℕ, zero, suc, ◌+◌, Bool, true, false, ◌&&◌, List, [], ◌∷◌, ◌++◌, ◌≤◌, All, length, take, drop, nat_lt, nat_le, bytes_eq, if◌then◌else◌}
use Rattle.std.specs.List.{list_all}
use Rattle.byteorder.specs.Endian.{big_number}
use Rattle.page_model.specs.Pages.{Pages, Write, page_bytes, all_written}
use Rattle.page_model.specs.Frames.{frame_bytes, max_group, writes_in, IsInside}

-- the writes of one mini-transaction
abbrev pub Group : Type 0
Group = List Write

abbrev pub frames_bytes : List Group → List ℕ
frames_bytes [] = []
frames_bytes (g ∷ gs) = frame_bytes g ++ frames_bytes gs

-- the pages with the groups applied, the first of them first
abbrev pub applied : List Group → Pages → Pages
applied [] pages = pages
applied (g ∷ gs) pages = applied gs (all_written g pages)

-- ---- reading

abbrev pub is_inside : ℕ → Write → Bool
is_inside pages w = nat_lt w.page pages && nat_le (w.at + length w.bytes) page_bytes

-- these bytes are the whole frame of the writes that they tell, which lie within the pages, and no
-- longer than a group may be
abbrev pub is_frame : ℕ → List ℕ → Bool
is_frame pages bytes = bytes_eq bytes (frame_bytes (writes_in bytes))
    && nat_le (length bytes) max_group && list_all (is_inside pages) (writes_in bytes)

-- as many bytes as the first four tell
abbrev pub first_bytes : List ℕ → List ℕ
first_bytes bytes = take (big_number 4 bytes) bytes

-- the groups found, and whether the bytes ended with the last of them
pub record FramesRead : Type 0 where
  pub groups : List Group
  pub whole : Bool

abbrev pub found : Group → FramesRead → FramesRead
found g after = record { groups = g ∷ after.groups; whole = after.whole }

abbrev pub no_frame : FramesRead
no_frame = record { groups = []; whole = false }

-- the groups in these bytes; the first number is at least their length
abbrev pub frames_from : ℕ → ℕ → List ℕ → FramesRead
frames_from zero pages [] = record { groups = []; whole = true }
frames_from zero pages (b ∷ bytes) = no_frame
frames_from (suc n) pages [] = record { groups = []; whole = true }
frames_from (suc n) pages (b ∷ bytes) =
    if is_frame pages (first_bytes (b ∷ bytes))
    then found (writes_in (first_bytes (b ∷ bytes)))
    (frames_from n pages (drop (length (first_bytes (b ∷ bytes))) (b ∷ bytes))) else no_frame

unfoldable pub frames_of : ℕ → List ℕ → FramesRead
frames_of pages bytes = frames_from (length bytes) pages bytes

-- ---- writing

-- the log can hold this group: its frame is no longer than a group may be, and its writes lie
-- within the pages
pub record IsLoggable (pages : ℕ) (g : Group) : Type 0 where
  pub short : length (frame_bytes g) ≤ max_group
  pub inside : All (IsInside pages) g
