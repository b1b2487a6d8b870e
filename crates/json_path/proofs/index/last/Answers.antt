use Rattle.std.proofs.Common.{◌+◌, ◌∷◌, [], arith, refl, ◌∙◌}
use Rattle.tree_model.specs.Path.{last}
use Rattle.path_model.specs.PathText.{letters, minus}
use Rattle.json_path.proofs.Steps.{behind_letters, dash_on, no_dash, reads_on, reads_closed}
use Rattle.json_path.proofs.index.last.Goals as goal

pub returns-then-has_byte : goal.returns-then-has_byte
returns-then-has_byte c =
    let dash = c.if-has_byte.ensures.yes refl in
    reads_on (letters (97 ∷ 115 ∷ 116 ∷ [])) minus c.args.bytes.now c.args.at (c.args.at + 3 + 1) c.before_last.result (omega arith)
    (λ ls. behind_letters c.args.bytes.now c.args.at c.loop-count.count c.loop-count-test.false c.loop-count.auto.count-end c.loop-count.invariant.1 ls
    ∙ dash_on c.args.bytes.now (c.args.at + 3) ls dash.0 dash.1)
    c.before_last.ensures

pub returns : goal.returns
returns c =
    reads_closed (letters (97 ∷ 115 ∷ 116 ∷ [])) (last 0) c.args.bytes.now c.args.at (c.args.at + 3) c.close.result (omega arith)
    (λ ls. behind_letters c.args.bytes.now c.args.at c.loop-count.count c.loop-count-test.false c.loop-count.auto.count-end c.loop-count.invariant.1 ls
    ∙ no_dash c.args.bytes.now (c.args.at + 3) ls (c.if-has_byte.ensures.no refl))
    c.close.ensures
