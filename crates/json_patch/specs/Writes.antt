-- Writes into bytes, one after the other.
use Rattle.std.specs.Prelude.{◌≡◌, ◌≤◌, ℕ, ◌+◌, ◌==◌, List, [], ◌∷◌, ◌++◌, length, Option, Some, None, if◌then◌else◌}
use Rattle.binary_model.specs.Change.{Run, written}
use Rattle.json_patch.specs.declared.writes.Write.{Write}

abbrev pub put_writes : List Write → List ℕ → List ℕ
put_writes [] bytes = bytes
put_writes (w ∷ ws) bytes = put_writes ws (written bytes w.at w.bytes.items)

-- each lies within so many bytes
abbrev pub AreInside : ℕ → List Write → Type 0
AreInside size [] = Unit {0}
AreInside size (w ∷ ws) = (w.at + length w.bytes.items ≤ size) × AreInside size ws

-- each begins at or past the end of the one before, the first at or past a place
abbrev pub AreRising : ℕ → List Write → Type 0
AreRising low [] = Unit {0}
AreRising low (w ∷ ws) = (low ≤ w.at) × AreRising (w.at + length w.bytes.items) ws

-- a run of one differing place, and a run with the place right behind it
abbrev pub run_at : ℕ → ℕ → ℕ → Run
run_at at x y = record { at = at; before = x ∷ []; after = y ∷ [] }

abbrev pub longer : Run → ℕ → ℕ → Run
longer r x y = record { at = r.at; before = r.before ++ x ∷ []; after = r.after ++ y ∷ [] }

-- a differing place behind runs: the last one grows, where it ends there
abbrev pub lengthened : ℕ → ℕ → ℕ → List Run → List Run
lengthened at x y [] = run_at at x y ∷ []
lengthened at x y (r ∷ []) = if r.at + length r.before == at then longer r x y ∷ []
    else r ∷ run_at at x y ∷ []
lengthened at x y (r ∷ s ∷ rs) = r ∷ lengthened at x y (s ∷ rs)

-- these writes, one behind the other, make the wanted bytes
pub record AreWrites (bytes : List ℕ) (wanted : Option (List ℕ)) (ws : List Write) : Type 0 where
  pub made : wanted ≡ Some (put_writes ws bytes)
  pub inside : AreInside (length bytes) ws
  pub rising : AreRising 0 ws

-- and none are given where none are wanted
abbrev pub AreWritesFor : List ℕ → Option (List ℕ) → Option (List Write) → Type 0
AreWritesFor bytes wanted None = wanted ≡ None
AreWritesFor bytes wanted (Some ws) = AreWrites bytes wanted ws
