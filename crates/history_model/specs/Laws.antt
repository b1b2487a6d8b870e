-- What the laws on histories ask of a run.
--     IsNumbered      sessions are 1 to 64
--     IsOpening      an opening's unpurged changes are numbered by its commits, and the LOBs held
--         are those of its histories
use Rattle.std.specs.Prelude.{◌≡◌, ◌⊎◌, ◌≤◌, ◌<◌, ℕ, false, List, [], ◌∷◌}
use Rattle.journal_model.specs.Journal.{Script, statements, Opening}
use Rattle.journal_model.specs.Locks.{sessions}
use Rattle.journal_model.specs.Held.{Kind, HeldLob, is_in}

-- no session but 1 to 64 has a statement
abbrev pub IsNumbered : Script → Type 0
IsNumbered script = (s : ℕ) → is_in s sessions ≡ false → statements s script ≡ []

-- the commits of the changes are unpurged ones, and none is above one that stands in front of it
abbrev pub AreFalling : (purged most : ℕ) → List (ℕ × ℕ × Kind) → Type 0
AreFalling purged most [] = Unit {0}
AreFalling purged most (c ∷ cs) = (purged < c.0) × (c.0 ≤ most) × AreFalling purged c.0 cs

-- what a run of several sessions gives
pub record IsRun (o : Opening) (script : Script) : Type 0 where
  pub numbered : IsNumbered script
  pub falling : AreFalling o.purged o.commits o.changes
  pub made : o.purged ≤ o.commits

-- one of the LOBs
abbrev pub Among : HeldLob → List HeldLob → Type 0
Among l [] = ⊥
Among l (m ∷ ms) = (l ≡ m) ⊎ Among l ms
