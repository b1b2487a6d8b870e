-- The leg that a `Leg` is, and what a path keeps.
use Rattle.std.specs.Prelude.{⊤, ◌^◌, ◌<◌, ◌≤◌, length}
use Rattle.std.specs.List.{AllByRecursion}
use Rattle.tree_model.specs.Tree.{max_key_bytes}
use Rattle.tree_model.specs.Path as model
use Rattle.tree_model.specs.Path.{key, cell, last}
use Rattle.path_model.specs.PathText.{max_legs}
use Rattle.json_path.specs.declared.path.Leg.{Leg}
use Rattle.json_path.specs.declared.path.Leg.TheVariants.{Member, Cell, Last}

abbrev pub leg_of : Leg → model.Leg
leg_of (Member k) = key k
leg_of (Cell n) = cell n
leg_of (Last n) = last n

abbrev pub IsLeg : model.Leg → Type 0
IsLeg (key k) = length k ≤ max_key_bytes
IsLeg (cell n) = n < 2 ^ 32
IsLeg (last n) = n < 2 ^ 32

-- its number has 32 bits
abbrev pub IsNumbered : model.Leg → Type 0
IsNumbered (key k) = ⊤
IsNumbered (cell n) = n < 2 ^ 32
IsNumbered (last n) = n < 2 ^ 32

-- no more legs than a path may have, with short keys and numbers of 32 bits
abbrev pub IsPath : model.Path → Type 0
IsPath ls = (length ls ≤ max_legs) × AllByRecursion IsLeg ls
