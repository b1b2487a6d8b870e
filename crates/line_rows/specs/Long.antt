-- Long lines.
use Rattle.std.specs.Prelude.{ℕ, zero, suc, codes, List, [], ◌++◌, replicate}

abbrev pub repeated : ℕ → List ℕ → List ℕ
repeated zero text = []
repeated (suc n) text = text ++ repeated n text

-- a removal by so many paths and one more
abbrev pub removal : ℕ → List ℕ
removal n = codes "s1 remove 1 [" ++ repeated n (codes "\"$.a\",") ++ codes "\"$.a\"]"

-- an object whose key has so many letters
abbrev pub keyed : ℕ → List ℕ
keyed n = codes "s1 insert 1 {\"" ++ replicate n 97 ++ codes "\":1}"

-- a value within so many arrays, and what stands behind it
abbrev pub nested : ℕ → List ℕ → List ℕ
nested n rest = codes "s1 insert 1 " ++ replicate n 91 ++ replicate n 93 ++ rest

-- a path of so many legs, and what stands behind them
abbrev pub legs : ℕ → List ℕ → List ℕ
legs n rest = codes "s1 set 1 [\"$" ++ repeated n (codes ".a") ++ rest ++ codes "\",1]"
