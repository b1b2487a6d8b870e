-- What the place of a fault in quotes means, in the words of JSON alone.
use Rattle.std.specs.Prelude.{ℕ, List, ◌++◌, IsSome}
use Rattle.json.specs.Text.{content, plain}

-- behind these bytes others can stand, so that JSON reads a string
abbrev pub CanGoOn : List ℕ → Type 0
CanGoOn front = (rest : List ℕ) × IsSome (content plain (front ++ rest))
