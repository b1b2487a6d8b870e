use Rattle.std.proofs.Common.{ap, ◌∙◌, [], ◌∷◌, ◌++◌}
use Rattle.statements.specs.Lines.{read_line_of}
use Rattle.statements.proofs.ListLemmas.{both_ok, script_more}
use Rattle.statements.proofs.draft.Draft.push.Goals as goal

pub returns : goal.returns
returns c model h =
    both_ok c.push_statement.result (c.push_statement.ensures.more model h.lists_are) c.push_statement.ensures.count (λ lists count. record {
      lines_are = script_more c.args.self.now.lines.items c.push.new.self.items model (read_line_of c.args.line) h.lines_are (c.in_ok-push.ensures.items ∙ ap (λ l. c.args.self.now.lines.items ++ l ∷ []) c.shape.ensures);
      sessions = count;
      lists_are = lists;
    })
