-- Where a leg leads.
use Rattle.std.specs.Prelude.{ℕ, ◌==◌, Bool, false, nat_lt, Option, Some, None, if◌then◌else◌}
use Rattle.tree_model.specs.Path.{Leg, key, cell, last, from_end}

-- in a list of so many
abbrev pub place_in : ℕ → Leg → Option ℕ
place_in count (key k) = None
place_in count (cell n) = if nat_lt n count then Some n else None
place_in count (last n) = from_end count n

-- on a value that isn't a list, to the value itself
abbrev pub is_itself : Leg → Bool
is_itself (key k) = false
is_itself (cell n) = n == 0
is_itself (last n) = n == 0
