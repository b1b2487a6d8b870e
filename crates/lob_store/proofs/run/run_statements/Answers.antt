use Rattle.std.proofs.Common.{◌≡◌, ◌+◌, ◌++◌, ◌∷◌, [], length, map, drop, sym, subst, ◌∙◌, arith}
use Rattle.std.proofs.lemmas.Grind.{common_steps}
use Rattle.journal_model.specs.Journal.{new_store}
use Rattle.statements.specs.Journals.{entries_in}
use Rattle.lob_store.specs.Run.{line_of, default_pages, AreByItself}
use Rattle.lob_store.proofs.RunSteps.{next_at, so_far_more, its_statement, it_stands, all_answered, one_longer, run_of}
use Rattle.lob_store.proofs.StreamLemmas.{where_ok}
use Rattle.lob_store.proofs.run.run_statements.Goals as goal

pub loop-statement-preserved : goal.loop-statement-preserved
loop-statement-preserved c =
    let o = new_store default_pages in
    let items = c.args.statements.now in
    let i = c.loop-statement.statement-index in
    let answered = c.loop-statement.invariant.so_far.0 in
    let count = c.loop-statement.invariant.so_far.1 in
    let so_far = c.loop-statement.invariant.so_far.2 in
    let st = c.statement-item.result in
    let next = next_at items i st c.loop-statement-test.true c.statement-item.is in
    let state = c.loop-statement.state in
    let numbered : c.loop-statement.number + 1 ≡ length answered + 1 = omega (arith, c.loop-statement.invariant.number, count) in
    let steps = where_ok c.answer.result _ (sym c.is_err.ensures.value ∙ c.if-is_err.false) c.answer.ensures.steps o (map line_of items) (length answered) so_far.at (record {
      numbered = numbered;
      is = its_statement o items answered (drop i items) st (drop (i + 1) items) (entries_in state.journal) state.documents state.commits so_far next;
      stands = it_stands o items answered (drop i items) st (drop (i + 1) items) (entries_in state.journal) state.documents state.commits so_far next;
    }) in
    record {
      so_far = (
        answered ++ st ∷ [],
        sym (one_longer answered st i (sym count)),
        so_far_more o items answered (drop i items) st (drop (i + 1) items) (entries_in state.journal) state.documents state.commits so_far next
            (entries_in c.answer.new.state.journal) c.answer.new.state.documents c.answer.new.state.commits steps,
      );
      number = omega (arith, c.loop-statement.invariant.number);
      commits = omega (arith, c.answer.ensures.counted, c.loop-statement.invariant.commits);
      alone = (subst AreByItself next c.loop-statement.invariant.alone).1;
    }

pub returns-clause-whole : goal.returns-clause-whole
returns-clause-whole c ended =
    let items = c.args.statements.now in
    let rest = drop c.loop-statement.statement-index items in
    let answered = c.loop-statement.invariant.so_far.0 in
    let so_far = c.loop-statement.invariant.so_far.2 in
    let none : length rest ≡ 0 = grind (arith, common_steps, c.loop-statement-test.false) in
    run_of items answered rest (entries_in c.loop-statement.state.journal) c.loop-statement.state.documents c.loop-statement.state.commits so_far (all_answered items answered rest so_far.whole none)
