-- What callers see of a disk in memory that fails only past its room, and what a write leaves.
use Rattle.std.specs.Prelude.{ℕ, ◌+◌, ◌-◌, List, ◌++◌, length, take, drop, replicate}
use Rattle.engine_base.specs.Numbers.{raised}

-- the bytes that a read gives, how many it has room for, and how many writes went past that
pub record Sure : Type 0 where
  pub contents : List ℕ
  pub room : ℕ
  pub faults : ℕ

-- a file with bytes written at a place: what stood before it, zeros where nothing did, the bytes,
-- and what stood behind them
unfoldable pub overlaid : List ℕ → ℕ → List ℕ → List ℕ
overlaid file at bytes = take at file
    ++ (replicate (at - length file) 0 ++ (bytes ++ drop (at + length bytes) file))

-- the disk after a write that was made
abbrev pub after_write : Sure → ℕ → List ℕ → Sure
after_write disk at bytes = record disk { contents = overlaid disk.contents at bytes }

-- the disk after a write that failed
abbrev pub after_failed_write : Sure → Sure
after_failed_write disk = record disk { faults = raised disk.faults }
