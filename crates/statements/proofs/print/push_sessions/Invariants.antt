use Rattle.std.proofs.Common.{◌≡◌, ◌++◌, length}
use Rattle.journal_model.specs.Print.{sessions_text}
use Rattle.json_tree.specs.Writing.{Extends}
use Rattle.statements.proofs.print.push_sessions.Given as goal

abbrev pub invariant-loop-rest : goal.invariant-loop-rest
invariant-loop-rest l = record {
  text : l.out.items ++ sessions_text l.rest ≡ l.initial.out.items ++ sessions_text l.sessions;
  kept : Extends l.initial.out.items l.out.items;
}

abbrev pub decreases-loop-rest : goal.decreases-loop-rest
decreases-loop-rest l = length l.rest
