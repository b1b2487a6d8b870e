-- What callers see of a source and of a sink in memory, which of their calls fail, and what a call
-- leaves.
use Rattle.std.specs.Prelude.{ℕ, ◌≡◌, ◌⊎◌, ◌++◌, List, length, take, drop, Contains}
use Rattle.engine_base.specs.Numbers.{raised}

-- a source: the bytes that are left, the numbers of the calls that fail, how many calls were made,
-- and how many failed
pub record Reading : Type 0 where
  pub left : List ℕ
  pub fails : List ℕ
  pub calls : ℕ
  pub faults : ℕ

-- the next call is one of those that fail; the first call has number 1
abbrev pub FailsNext : Reading → Type 0
FailsNext source = Contains source.fails (raised source.calls)

-- the source after a call that gave n bytes
abbrev pub after_read : Reading → ℕ → Reading
after_read source n = record source { left = drop n source.left; calls = raised source.calls }

-- the source after a call that failed
abbrev pub after_failed_read : Reading → Reading
after_failed_read source = record source {
  calls = raised source.calls;
  faults = raised source.faults;
}

-- a sink: the bytes that were taken, how many it takes in all, the numbers of the calls that fail,
-- how many calls were made, and how many failed
pub record Writing : Type 0 where
  pub taken : List ℕ
  pub room : ℕ
  pub fails : List ℕ
  pub calls : ℕ
  pub faults : ℕ

-- no room is left
abbrev pub IsFull : Writing → Type 0
IsFull sink = length sink.taken ≡ sink.room

-- the next call is one of those that fail, or no room is left
abbrev pub RefusesNext : Writing → Type 0
RefusesNext sink = Contains sink.fails (raised sink.calls) ⊎ IsFull sink

-- the sink after a call that took the first n bytes of a piece
abbrev pub after_write : Writing → List ℕ → ℕ → Writing
after_write sink piece n = record sink {
  taken = sink.taken ++ take n piece;
  calls = raised sink.calls;
}

-- the sink after a call that failed
abbrev pub after_failed_write : Writing → Writing
after_failed_write sink = record sink { calls = raised sink.calls; faults = raised sink.faults }
