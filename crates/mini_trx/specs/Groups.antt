-- What a contract sees of a group: its writes in their order, and how many bytes its buffer has
-- room for.
use Rattle.std.specs.Prelude.{◌≡◌, ℕ, ◌≤◌, ◌^◌, List, length, All}
use Rattle.page_model.specs.Pages.{Write}
use Rattle.page_model.specs.Frames.{frame_bytes, writes_in, max_group, IsInside}

pub record GroupView : Type 0 where
  pub writes : List Write
  pub capacity : ℕ

-- the buffer of a group is the frame of its writes
pub record KeepsFrame (items : List ℕ) : Type 0 where
  pub frame : items ≡ frame_bytes (writes_in items)
  pub short : length items ≤ max_group
  pub inside : All (IsInside (2 ^ 32)) (writes_in items)
