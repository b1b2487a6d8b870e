-- The parts of the code as a table.
use Rattle.std.specs.Prelude.{ℕ, ◌==◌, not, Bool, List, Option, option_map}
use Rattle.engine_base.specs.declared.ids.DocId.{DocId}
use Rattle.engine_base.specs.declared.ids.SessionNo.{SessionNo}
use Rattle.row_locks.specs.Locks.{Table}

abbrev pub number_of : Option SessionNo → Option ℕ
number_of s = option_map (λ (h : SessionNo). h.0) s

-- waits don't look at the room
abbrev pub table_of : List (ℕ × SessionNo) → List (Option DocId) → Table
table_of held asks = record { held = held; asks = asks; room = 0 }

-- an entry of another session
abbrev pub is_of_another : ℕ → ℕ × SessionNo → Bool
is_of_another s e = not (e.1.0 == s)
