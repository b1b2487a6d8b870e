-- The pieces that a change gave a new version, one after another.
--     next_touched last touched      the first one behind `last`, or the first of all
use Rattle.std.specs.Prelude.{ℕ, List, [], ◌∷◌, Option, Some, None, nat_lt, if◌then◌else◌}

abbrev pub next_touched : Option ℕ → List ℕ → Option ℕ
next_touched last [] = None
next_touched None (k ∷ ks) = Some k
next_touched (Some n) (k ∷ ks) = if nat_lt n k then Some k else next_touched (Some n) ks
