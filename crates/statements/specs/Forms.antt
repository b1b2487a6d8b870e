-- Modes, forms, statements and what a program takes, as the definitions have them.
use Rattle.journal_model.specs.ScriptText as script
use Rattle.journal_model.specs.Documents as documents
use Rattle.journal_model.specs.Journal as journal
use Rattle.journal_model.specs.Built as built
use Rattle.json_tree.specs.View.{tree_of}
use Rattle.json_edit.specs.Edits.{edit_of}
use Rattle.statements.specs.declared.mode.Mode.{Mode}
use Rattle.statements.specs.declared.mode.Mode.TheVariants as mode
use Rattle.statements.specs.declared.words.EditWord.{EditWord}
use Rattle.statements.specs.declared.words.EditWord.TheVariants as word
use Rattle.statements.specs.declared.words.StatementKind.{StatementKind}
use Rattle.statements.specs.declared.words.StatementKind.TheVariants as form
use Rattle.statements.specs.declared.statement.Level.{Level}
use Rattle.statements.specs.declared.statement.Level.TheVariants as level
use Rattle.statements.specs.declared.built.Built.{Built}
use Rattle.statements.specs.declared.statement.Call.{Call}
use Rattle.statements.specs.declared.statement.Call.TheVariants as calls
use Rattle.statements.specs.declared.statement.Question.{Question}
use Rattle.statements.specs.declared.statement.Question.TheVariants as question
use Rattle.statements.specs.declared.statement.Statement.{Statement}
use Rattle.statements.specs.declared.statement.Statement.TheVariants as statement

abbrev pub mode_view : Mode → script.Mode
mode_view mode.Turns = script.turns
mode_view mode.Threads = script.threads

abbrev pub word_view : EditWord → script.EditWord
word_view word.Set = script.set
word_view word.Replace = script.replace
word_view word.Remove = script.remove

abbrev pub level_of : Level → journal.Level
level_of level.Rr = journal.rr
level_of level.Rc = journal.rc

abbrev pub form_view : StatementKind → script.StatementKind
form_view form.Insert = script.insert
form_view (form.Change w) = script.change (word_view w)
form_view form.Delete = script.delete
form_view form.Get = script.get_one
form_view form.Size = script.size_one
form_view (form.Begin l) = script.of_transaction (journal.begin (level_of l))
form_view form.Commit = script.of_transaction journal.commit
form_view form.Rollback = script.of_transaction journal.rollback

abbrev pub call_of : Call → documents.Call
call_of (calls.Insert d t) = documents.Insert d.0 (tree_of t)
call_of (calls.Change d e) = documents.Change d.0 (edit_of e)
call_of (calls.Delete d) = documents.Delete d.0

abbrev pub question_of : Question → journal.Statement
question_of (question.Get d) = journal.get d.0
question_of (question.Size d) = journal.size d.0

abbrev pub statement_of : Statement → journal.Statement
statement_of (statement.Change c) = journal.call (call_of c)
statement_of (statement.Read q) = question_of q
statement_of (statement.Begin l) = journal.begin (level_of l)
statement_of statement.Commit = journal.commit
statement_of statement.Rollback = journal.rollback

-- what a program takes
abbrev pub table_of : Built → built.Built
table_of b = record {
  sessions = b.sessions;
  marks = b.marks;
  transactions = b.transactions;
  steps = b.steps;
  purges = b.purges;
  checkpoints = b.checkpoints;
  audits = b.audits;
  restarts = b.restarts;
}
