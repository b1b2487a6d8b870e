use Rattle.std.proofs.Common.{◌+◌, ◌++◌, ◌∷◌, [], sym, ap, ◌∙◌, arith}
use Rattle.std.specs.Str.Lines.{lines}
use Rattle.journal_model.specs.ScriptText.{script_by, with_statement}
use Rattle.statements.specs.Forms.{mode_view, table_of}
use Rattle.std.specs.List.{list_all}
use Rattle.statements.specs.Limits.{said, has_session}
use Rattle.statements.specs.Lines.{read_line_of}
use Rattle.statements.proofs.LimitLemmas.{within_more, said_more, sessions_within, documents_within}
use Rattle.statements.proofs.ScriptLemmas.{next_good}
use Rattle.statements.proofs.ListLemmas.{few_more, where_ok}
use Rattle.statements.proofs.reading.read_script.Goals as goal

pub loop-rest-preserved : goal.loop-rest-preserved
loop-rest-preserved c =
    let so_far = c.loop-rest.invariant.read in
    let model = so_far.0 in
    let l = read_line_of c.in-Ok-read_line.read in
    let grown = where_ok c.push.result (c.push.ensures model so_far.1) (sym c.is_err.ensures.value ∙ c.if-is_err.false) in
    let reads = next_good (table_of c.args.built) (mode_view c.args.mode) (c.loop-rest.number + 1) c.loop-rest.count (script_by (table_of c.args.built) (mode_view c.args.mode) c.args.bytes.now) model
    (lines c.loop-rest.rest.now) c.next_line.result.0.now (lines c.next_line.result.1.now) so_far.3 c.next_line.ensures.line
    l (sym c.is_skippable.ensures ∙ c.if-is_skippable.false) c.in-Ok-read_line.ensures.gives in
    let said_all = ap said grown.lines_are ∙ said_more model l ∙ ap (with_statement l) (sym (ap said so_far.1.lines_are) ∙ so_far.5) in
    record {
      read = (
        model ++ l ∷ [],
        grown,
        (λ s. rw c.counted-count.ensures (few_more s c.loop-rest.count model l (so_far.2 s))),
        rw c.counted-count.ensures reads,
        within_more model c.in-Ok-read_line.read so_far.4 c.in-Ok-read_line.ensures.within,
        rw c.counted-count.ensures said_all,
      );
      sessions = grown.sessions;
      counted = grind (arith, c.loop-rest.invariant.counted, c.next_line.ensures.shorter);
      few = rw c.counted-count.ensures (c.in-Ok-read_line.ensures.few c.loop-rest.invariant.few);
    }

pub new-requires-2-clause-sessions : goal.new-requires-2-clause-sessions
new-requires-2-clause-sessions c =
    let so_far = c.loop-rest.invariant.read in
    ap (list_all has_session) so_far.1.lines_are ∙ sessions_within so_far.0 so_far.4

pub new-requires-2-clause-documents : goal.new-requires-2-clause-documents
new-requires-2-clause-documents c =
    let so_far = c.loop-rest.invariant.read in
    documents_within c.loop-rest.draft.statements.items so_far.0 so_far.1.lists_are so_far.4
