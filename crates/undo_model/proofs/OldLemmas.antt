-- How many old bytes runs have, and what putting them back does.
use Rattle.std.proofs.Common.{◌≡◌, ◌+◌, List, [], ◌∷◌, ◌++◌, arith}
use Rattle.store_data.specs.Store.{Run}
use Rattle.undo_model.specs.Old.{old_size}

-- runs put behind others have the old bytes of both
pub old_size_append : (xs ys : List Run) → old_size (xs ++ ys) ≡ old_size xs + old_size ys
old_size_append [] ys = omega arith
old_size_append (r ∷ xs) ys = let ih = old_size_append xs ys in omega (arith, ih)
