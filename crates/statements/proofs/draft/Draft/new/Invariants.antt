use Rattle.std.proofs.Common.{◌≡◌, [], length}
use Rattle.statements.specs.Lines.{AreLists}
use Rattle.statements.proofs.draft.Draft.new.Given as goal

abbrev pub invariant-loop : goal.invariant-loop
invariant-loop l = record {
  lists : AreLists l.statements.items [];
  count : length l.statements.items ≡ l.counter;
}
