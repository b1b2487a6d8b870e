-- The version of a LOB raised.
--     raise_room      the bytes that are written at most, with the heads of the writes
use Rattle.std.specs.Prelude.{ℕ, ◌+◌}
use Rattle.page_model.specs.Steps.{write_head}
use Rattle.transactions.specs.Changes.{change_room}

abbrev pub raise_room : ℕ
raise_room = change_room + (4 + write_head)
