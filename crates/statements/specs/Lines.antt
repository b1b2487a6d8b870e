-- Lines and lists of statements as the definitions have them.
--     read_line_of      the line that was read
--     shape_of      a line of a script without its statement
--     ArePartsOf      these lines and these lists of statements, one a session, are the script
use Rattle.std.specs.Prelude.{◌≡◌, ◌≤◌, ◌+◌, ℕ, List, [], ◌∷◌, length, map, true, slice_get, IfSome, Vec, ◌==◌, ◌++◌, if◌then◌else◌}
use Rattle.std.specs.declared.alloc.Global.{Global}
use Rattle.journal_model.specs.Journal as journal
use Rattle.statements.specs.Forms.{statement_of}
use Rattle.journal_model.specs.StatementText.{max_session}
use Rattle.statements.specs.Limits.{is_numbered}
use Rattle.statements.specs.declared.script.Line.{Line}
use Rattle.statements.specs.declared.script.Line.TheVariants as line
use Rattle.statements.specs.declared.draft.ReadLine.{ReadLine}
use Rattle.statements.specs.declared.draft.ReadLine.TheVariants as read
use Rattle.statements.specs.declared.statement.Statement.{Statement}

abbrev pub read_line_of : ReadLine → journal.Line
read_line_of (read.Say s driven st) = journal.say s.0 driven (statement_of st)
read_line_of (read.Step s n) = journal.step s.0 n
read_line_of read.Purge = journal.purge
read_line_of read.Checkpoint = journal.checkpoint
read_line_of read.Audit = journal.audit
read_line_of read.Restart = journal.restart

abbrev pub shape_of : journal.Line → Line
shape_of (journal.say s driven st) = line.Say (record { 0 = s }) driven
shape_of (journal.step s n) = line.Step (record { 0 = s }) n
shape_of journal.purge = line.Purge
shape_of journal.checkpoint = line.Checkpoint
shape_of journal.audit = line.Audit
shape_of journal.restart = line.Restart

abbrev pub IsSession : ℕ → Type 0
IsSession s = (1 ≤ s) × (s ≤ max_session)

-- its session is 1 to 64, and its document has a number from 1 on
abbrev pub IsWithin : ReadLine → Type 0
IsWithin (read.Say s driven st) = IsSession s.0 × (is_numbered st ≡ true)
IsWithin (read.Step s n) = IsSession s.0
IsWithin l = Unit {0}

-- the k-th list, from 0, has the statements of session k + 1
abbrev pub AreLists : List (Vec Statement Global) → journal.Script → Type 0
AreLists lists model = (k : ℕ)
    → IfSome (slice_get lists k) (λ v. map statement_of v.items ≡ journal.statements (k + 1) model)

-- one list has a statement more
abbrev pub IsGrown : (old new : List (Vec Statement Global)) → (session : ℕ)
    → journal.Statement → Type 0
IsGrown old new s st =
    (length new ≡ length old)
    × ((k : ℕ) → IfSome (slice_get new k) (λ w. IfSome (slice_get old k) (λ v.
    map statement_of w.items
    ≡ (if s == k + 1 then map statement_of v.items ++ st ∷ [] else map statement_of v.items))))

pub record ArePartsOf (lines : List Line) (lists : List (Vec Statement Global))
    (model : journal.Script) : Type 0 where
  pub lines_are : lines ≡ map shape_of model
  pub sessions : length lists ≡ max_session
  pub lists_are : AreLists lists model
