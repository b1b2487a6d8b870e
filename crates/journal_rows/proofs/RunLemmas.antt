-- What the tests tell of a run.
use Rattle.std.proofs.Common.{◌≡◌, ℕ, true, false, [], ◌∷◌, ◌++◌, take}
use Rattle.journal_model.specs.Journal.{Opening, Entry}
use Rattle.journal_rows.specs.Told.{is_legal}
use Rattle.journal_rows.specs.Cuts.{follows}
use Rattle.journal_rows.specs.Runs.{Run, script_of, entries_of, cuts_of, Runs, Allows}
use Rattle.journal_rows.proofs.ToldLemmas.{legal, illegal}
use Rattle.journal_rows.proofs.CutLemmas.{turns}

-- it is legal and follows its lines
pub runs : (o : Opening) (r : Run) → is_legal o (script_of r) (entries_of r) ≡ true → follows o (script_of r) (cuts_of r) (entries_of r) ≡ true → Runs o r
runs o r h t = (legal o (script_of r) (entries_of r) h, turns o (script_of r) (cuts_of r) (entries_of r) t)

-- the entry may stand behind so many of its entries
pub allowed : (o : Opening) (r : Run) (n : ℕ) (e : Entry) → is_legal o (script_of r) (take n (entries_of r) ++ e ∷ []) ≡ true → Allows o r n e
allowed o r n e h = legal o (script_of r) (take n (entries_of r) ++ e ∷ []) h

-- it may not
pub refused : (o : Opening) (r : Run) (n : ℕ) (e : Entry) → is_legal o (script_of r) (take n (entries_of r) ++ e ∷ []) ≡ false → Allows o r n e → ⊥
refused o r n e h = illegal o (script_of r) (take n (entries_of r) ++ e ∷ []) h
