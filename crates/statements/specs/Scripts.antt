-- A script as the definitions have it.
use Rattle.std.specs.Prelude.{◌≤◌, ℕ, length, Result, Ok, Err}
use Rattle.journal_model.specs.Journal as journal
use Rattle.journal_model.specs.ScriptText.{Cause, max_statements}
use Rattle.statements.specs.Lines.{ArePartsOf}
use Rattle.statements.specs.declared.script.Script.{Script}

-- its lines are those, and its lists are the sessions' statements
abbrev pub IsScript : Script → journal.Script → Type 0
IsScript script model = ArePartsOf script.lines.items script.statements.items model

-- what bytes read as is this script, and no session has more statements than may stand
abbrev pub IsReadAs : Script → Result journal.Script (ℕ × Cause) → Type 0
IsReadAs script (Ok model) =
    IsScript script model × ((s : ℕ) → length (journal.statements s model) ≤ max_statements)
IsReadAs script (Err e) = ⊥
