-- Records by hand.
use Rattle.std.specs.Prelude.{ℕ, List, [], ◌∷◌}
use Rattle.page_model.specs.Pages.{Address, null_address}
use Rattle.store_data.specs.Store.{live, Run}
use Rattle.undo_model.specs.Data.{Reference, Row, patched, versioned, Record, Body}

abbrev pub no_record : Address
no_record = null_address

abbrev pub reference : Reference
reference = record { space = 0; page = 3; version = 2; length = 20_022 }

abbrev pub row : Row
row = record { state = live; trx = 7; roll = 327_787; lob = reference }

abbrev pub record_of_body : Body → Record
record_of_body body = record { number = 1; doc = 9; before = row; body = body }

abbrev pub runs : List Run
runs = record { page = 3; at = 696; bytes = 1 ∷ 2 ∷ [] }
    ∷ record { page = 6; at = 49; bytes = 255 ∷ [] } ∷ []

abbrev pub patched_record : Record
patched_record = record_of_body (patched runs)

abbrev pub versioned_record : Record
versioned_record = record_of_body (versioned 10 (5 ∷ 2 ∷ []))

abbrev pub patched_bytes : List ℕ
patched_bytes =
    0 ∷ 69 ∷ 4 ∷ 0 ∷ 0 ∷ 0 ∷ 1 ∷ 0 ∷ 0 ∷ 0 ∷ 9
    ∷ 1 ∷ 0 ∷ 0 ∷ 0 ∷ 0 ∷ 0 ∷ 7 ∷ 0 ∷ 0 ∷ 0 ∷ 0 ∷ 5 ∷ 0 ∷ 107
    ∷ 0 ∷ 0 ∷ 0 ∷ 0 ∷ 0 ∷ 0 ∷ 0 ∷ 3 ∷ 0 ∷ 0 ∷ 0 ∷ 2 ∷ 0 ∷ 0 ∷ 0 ∷ 0 ∷ 0 ∷ 0 ∷ 78 ∷ 54
    ∷ 255 ∷ 255 ∷ 255 ∷ 255 ∷ 0 ∷ 0
    ∷ 2
    ∷ 0 ∷ 0 ∷ 0 ∷ 3 ∷ 2 ∷ 184 ∷ 2 ∷ 1 ∷ 2
    ∷ 0 ∷ 0 ∷ 0 ∷ 6 ∷ 0 ∷ 49 ∷ 1 ∷ 255 ∷ []
