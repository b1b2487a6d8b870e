-- A journal as the definitions have it, and the room that it has for more.
use Rattle.std.specs.Prelude.{ℕ, ◌-◌, List, vec_len}
use Rattle.std.specs.Vec.{vec_capacity}
use Rattle.journal_model.specs.Journal as journal
use Rattle.statements.specs.Entries.{entries_of}
use Rattle.statements.specs.declared.journal.Journal.{Journal}

abbrev pub entries_in : Journal → List journal.Entry
entries_in j = entries_of j.entries.items

-- so many entries more take no memory
abbrev pub room_in : Journal → ℕ
room_in j = vec_capacity j.entries - vec_len j.entries
