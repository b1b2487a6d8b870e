-- What asking for a document is answered, and what it leaves.
use Rattle.std.specs.Prelude.{◌≡◌, ℕ, Option, Some, None, is_some, if◌then◌else◌}
use Rattle.row_locks.specs.declared.asked.Asked.{Asked}
use Rattle.row_locks.specs.declared.asked.Asked.TheVariants.{Granted, Held, Circle}
use Rattle.row_locks.specs.Locks.{Table, holder, other_holder, circle}

-- no other session holds it; or one does, and no chain of waits leads back from it; or one does
abbrev pub Answers : Table → (s d : ℕ) → Asked → Type 0
Answers t s d Granted = other_holder t s d ≡ None
Answers t s d (Held h) = (other_holder t s d ≡ Some h.0) × (circle t s h.0 ≡ None)
Answers t s d (Circle sessions) =
    (h : ℕ) × (other_holder t s d ≡ Some h) × (circle t s h ≡ Some sessions)

-- who holds the document then
abbrev pub holder_then : Table → (s d : ℕ) → Asked → Option ℕ
holder_then t s d Granted = Some s
holder_then t s d (Held h) = holder t d
holder_then t s d (Circle sessions) = holder t d

-- for which document the session asks then: it waits for one that another holds, and for none where
-- it got it or would wait for itself
abbrev pub asked_then : ℕ → Asked → Option ℕ
asked_then d Granted = None
asked_then d (Held h) = Some d
asked_then d (Circle sessions) = None

-- how many documents more are held then
abbrev pub taken : Table → ℕ → Asked → ℕ
taken t d Granted = if is_some (holder t d) then 0 else 1
taken t d (Held h) = 0
taken t d (Circle sessions) = 0
