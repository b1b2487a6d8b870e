-- Sessions that wait for one another, by the lock table, and sessions at work.
--     WaitsOn e w h      w asks for a document whose lock another session, h, has
--     IsCircle e s l      from the session that s waits on, over the one that it waits on, back to
--         s
--     IsAtWork      a change is under way, or a rollback that a statement or a deadlock asks for
use Rattle.std.specs.Prelude.{◌≡◌, ◌≢◌, ℕ, List, [], ◌∷◌, Some}
use Rattle.journal_model.specs.Journal.{by_rollback, by_deadlock, by_end}
use Rattle.kept_model.specs.Engine.{Task, idle, asking, fetching, making, reading, undoing, Engine}

pub record WaitsOn (e : Engine) (w h : ℕ) : Type 0 where
  pub doc : ℕ
  pub asks : (e.sessions w).task ≡ asking doc
  pub lock : e.locks doc ≡ Some h
  pub other : h ≢ w

-- w waits on the first of the list, each on the one behind it, and s is the last and stands nowhere
-- before
abbrev pub LeadsTo : Engine → (s w : ℕ) → List ℕ → Type 0
LeadsTo e s w [] = ⊥
LeadsTo e s w (h ∷ []) = WaitsOn e w h × (h ≡ s)
LeadsTo e s w (h ∷ g ∷ l) = WaitsOn e w h × (h ≢ s) × LeadsTo e s h (g ∷ l)

abbrev pub IsCircle : Engine → ℕ → List ℕ → Type 0
IsCircle e s l = LeadsTo e s s l

abbrev pub IsAtWork : Task → Type 0
IsAtWork idle = ⊥
IsAtWork (asking d) = Unit {0}
IsAtWork (fetching d ps) = Unit {0}
IsAtWork (making d left r) = Unit {0}
IsAtWork (reading d f) = ⊥
IsAtWork (undoing by_rollback) = Unit {0}
IsAtWork (undoing by_deadlock) = Unit {0}
IsAtWork (undoing by_end) = ⊥
