-- What a script keeps.
--     has_session      the session of a line is 1 to 64
--     said      so many of the lines have a statement
--     is_numbered      the document of a statement has a number from 1 on
use Rattle.std.specs.Prelude.{ℕ, ◌+◌, ◌&&◌, Bool, true, List, [], ◌∷◌, Vec, nat_le}
use Rattle.std.specs.List.{list_all}
use Rattle.std.specs.declared.alloc.Global.{Global}
use Rattle.journal_model.specs.StatementText.{max_session}
use Rattle.statements.specs.declared.script.Line.{Line}
use Rattle.statements.specs.declared.script.Line.TheVariants as line
use Rattle.statements.specs.declared.statement.Call.{Call}
use Rattle.statements.specs.declared.statement.Call.TheVariants as calls
use Rattle.statements.specs.declared.statement.Question.{Question}
use Rattle.statements.specs.declared.statement.Question.TheVariants as question
use Rattle.statements.specs.declared.statement.Statement.{Statement}
use Rattle.statements.specs.declared.statement.Statement.TheVariants as statement

abbrev pub is_session : ℕ → Bool
is_session s = nat_le 1 s && nat_le s max_session

abbrev pub has_session : Line → Bool
has_session (line.Say s driven) = is_session s.0
has_session (line.Step s n) = is_session s.0
has_session l = true

abbrev pub said : List Line → ℕ
said [] = 0
said (line.Say s driven ∷ ls) = said ls + 1
said (l ∷ ls) = said ls

-- the document of a change, and of a question
abbrev pub changed : Call → ℕ
changed (calls.Insert d t) = d.0
changed (calls.Change d e) = d.0
changed (calls.Delete d) = d.0

abbrev pub asked : Question → ℕ
asked (question.Get d) = d.0
asked (question.Size d) = d.0

abbrev pub is_numbered : Statement → Bool
is_numbered (statement.Change c) = nat_le 1 (changed c)
is_numbered (statement.Read q) = nat_le 1 (asked q)
is_numbered st = true

abbrev pub are_numbered : Vec Statement Global → Bool
are_numbered v = list_all is_numbered v.items
