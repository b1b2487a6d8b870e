-- How the logic stores a path, so that it can be the value of a type with a model.
use Rattle.std.specs.Prelude.{◌≡◌, ◌⊎◌, ℕ, List, refl}
use Rattle.std.specs.Coded.{Coded, code_by, coded⊎, coded_list, coded_ℕ}
use Rattle.std.proofs.Common.{inl, inr}
use Rattle.tree_model.specs.Path.{Leg, key, cell, last}

abbrev pub LegParts : Type 0
LegParts = List ℕ ⊎ (ℕ ⊎ ℕ)

abbrev pub to : Leg → LegParts
to (key k) = inl k
to (cell n) = inr (inl n)
to (last n) = inr (inr n)

abbrev pub from : LegParts → Leg
from (inl k) = key k
from (inr (inl n)) = cell n
from (inr (inr n)) = last n

pub back : (l : Leg) → from (to l) ≡ l
back (key k) = refl
back (cell n) = refl
back (last n) = refl

abbrev pub path_code : Coded (List Leg)
path_code = coded_list (code_by LegParts (coded⊎ (coded_list coded_ℕ) (coded⊎ coded_ℕ coded_ℕ)) to
    from back)
