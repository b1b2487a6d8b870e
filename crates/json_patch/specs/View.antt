-- Patches as the runs that they are.
--     run_of, runs_of      a patch, and the patches of a change
--     AreWithin      each run has as many new bytes as old ones and lies within so many bytes
use Rattle.std.specs.Prelude.{◌≡◌, ◌≤◌, ℕ, ◌+◌, List, [], ◌∷◌, length, map}
use Rattle.binary_model.specs.Change.{Run}
use Rattle.json_patch.specs.declared.parts.Patch.{Patch}
use Rattle.json_patch.specs.declared.parts.Parts.{Parts}

abbrev pub run_of : Patch → Run
run_of p = record { at = p.at; before = p.before.items; after = p.after.items }

abbrev pub runs_of : Parts → List Run
runs_of parts = map run_of parts.patches.items

abbrev pub AreWithin : ℕ → List Run → Type 0
AreWithin size [] = Unit {0}
AreWithin size (r ∷ rs) = (length r.before ≡ length r.after) × (r.at + length r.after ≤ size)
    × AreWithin size rs
