-- Worked pieces, by hand: one of three versions, and one of a single version behind it.
use Rattle.std.specs.Prelude.{ℕ, List, [], ◌∷◌}
use Rattle.store_data.specs.Store.{Version, Piece}
use Rattle.lob_model.specs.Places.{at_place}
use Rattle.lob_model.specs.Changes.{piece}

abbrev pub entry : ℕ → ℕ → ℕ → List ℕ → Version
entry at number page bytes = record {
  place = at_place 3 at;
  number = number;
  page = page;
  at = 49;
  bytes = bytes;
  creator = 1;
  modifier = 1;
  creator_undo = 0;
  modifier_undo = 0;
}

abbrev pub three : Piece
three = piece (entry 96 5 30 (5 ∷ [])) (entry 216 4 20 (4 ∷ []) ∷ entry 156 1 3 (1 ∷ []) ∷ [])

abbrev pub other : Piece
other = piece (entry 276 1 40 (7 ∷ 8 ∷ [])) []
