use Rattle.std.proofs.Common.{◌≡◌, ◌<◌, length, get_or, rules, true, false, ◌∙◌}
use Rattle.std.specs.Char.{is_ascii_digit}
use Rattle.tree_model.specs.Path.{cell}
use Rattle.path_model.specs.PathText.{bracket, digits}
use Rattle.json_path.proofs.Steps.{reads_failed, bracket_on, reads_closed}
use Rattle.json_path.proofs.index.index.Goals as goal

pub returns-in_err-number-in-Some : goal.returns-in_err-number-in-Some
returns-in_err-number-in-Some c =
    let lt : c.args.at < length c.args.bytes.now = search rules in
    let digit : is_ascii_digit (get_or c.args.bytes.now c.args.at 0) ≡ true = search rules in
    reads_failed bracket (digits false c.args.at 0 0) c.args.bytes.now c.args.at c.args.at c.from_residual.result c.in_err-number-in-Some.field-0.0 c.from_residual.ensures.1
    (λ ls. bracket_on c.args.bytes.now c.args.at ls lt digit) (λ ls. c.in_err-number-in-Some.ensures false ls)

pub returns-in_ok-number-in-Some : goal.returns-in_ok-number-in-Some
returns-in_ok-number-in-Some c =
    let lt : c.args.at < length c.args.bytes.now = search rules in
    let digit : is_ascii_digit (get_or c.args.bytes.now c.args.at 0) ≡ true = search rules in
    let number = c.in_ok-number-in-Some in
    reads_closed bracket (cell number.number.value) c.args.bytes.now c.args.at number.number.end c.close.result number.ensures.0
    (λ ls. bracket_on c.args.bytes.now c.args.at ls lt digit ∙ number.ensures.2 false ls) c.close.ensures
