use Rattle.std.proofs.Common.{◌≡◌, ◌≤◌, List, length, drop}
use Rattle.journal_model.specs.Journal.{new_store}
use Rattle.statements.specs.Journals.{entries_in}
use Rattle.statements.specs.declared.statement.Statement.{Statement}
use Rattle.lob_store.specs.Run.{default_pages, AreByItself}
use Rattle.lob_store.proofs.RunSteps.{IsSoFar}
use Rattle.lob_store.proofs.run.run_statements.Given as goal

abbrev pub invariant-loop-statement : goal.invariant-loop-statement
invariant-loop-statement l = record {
  so_far : (answered : List Statement) × (length answered ≡ l.statement-index)
      × IsSoFar (new_store default_pages) l.statements answered (drop l.statement-index l.statements) (entries_in l.state.journal) l.state.documents l.state.commits;
  number : l.number ≡ l.statement-index;
  commits : l.state.commits ≤ l.number;
  alone : AreByItself (drop l.statement-index l.statements);
}
