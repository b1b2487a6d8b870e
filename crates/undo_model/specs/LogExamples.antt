-- A log of three records by hand: two on its first page, one on another.
use Rattle.std.specs.Prelude.{ℕ, List, [], ◌∷◌, None}
use Rattle.page_model.specs.Pages.{Address}
use Rattle.store_data.specs.Store.{active}
use Rattle.undo_model.specs.Data.{removed, Entry, Part, Log}
use Rattle.undo_model.specs.Examples.{row}

abbrev pub place : ℕ → ℕ → Address
place page at = record { page = page; at = at }

abbrev pub entry : ℕ → ℕ → ℕ → Entry
entry page at number = record {
  at = place page at;
  undo = record { number = number; doc = 9; before = row; body = removed };
}

abbrev pub one : Entry
one = entry 4 107 0

abbrev pub two : Entry
two = entry 4 158 1

abbrev pub three : Entry
three = entry 6 56 2

abbrev pub log_with_parts : List Part → Log
log_with_parts parts = record {
  page = 4;
  trx = 7;
  state = active;
  commit = 0;
  parts = parts;
  next = None;
}

abbrev pub part : ℕ → List Entry → Part
part page records = record { page = page; records = records }

abbrev pub log_one : Log
log_one = log_with_parts (part 4 (one ∷ []) ∷ [])

abbrev pub log_two : Log
log_two = log_with_parts (part 4 (two ∷ one ∷ []) ∷ [])

abbrev pub log_three : Log
log_three = log_with_parts (part 6 (three ∷ []) ∷ part 4 (two ∷ one ∷ []) ∷ [])
