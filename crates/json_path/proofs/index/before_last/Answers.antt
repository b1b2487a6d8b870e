use Rattle.std.proofs.Common.{◌≡◌, ◌<◌, length, get_or, rules, true, ◌∙◌}
use Rattle.std.specs.Char.{is_ascii_digit}
use Rattle.tree_model.specs.Path.{last}
use Rattle.path_model.specs.PathText.{minus, digits}
use Rattle.json_path.proofs.Steps.{reads_failed, minus_on, reads_closed}
use Rattle.json_path.proofs.index.before_last.Goals as goal

pub returns-in_err-number-in-Some : goal.returns-in_err-number-in-Some
returns-in_err-number-in-Some c =
    let lt : c.args.at < length c.args.bytes.now = search rules in
    let digit : is_ascii_digit (get_or c.args.bytes.now c.args.at 0) ≡ true = search rules in
    reads_failed minus (digits true c.args.at 0 0) c.args.bytes.now c.args.at c.args.at c.from_residual.result c.in_err-number-in-Some.field-0.0 c.from_residual.ensures.1
    (λ ls. minus_on c.args.bytes.now c.args.at ls lt digit) (λ ls. c.in_err-number-in-Some.ensures true ls)

pub returns-in_ok-number-in-Some : goal.returns-in_ok-number-in-Some
returns-in_ok-number-in-Some c =
    let lt : c.args.at < length c.args.bytes.now = search rules in
    let digit : is_ascii_digit (get_or c.args.bytes.now c.args.at 0) ≡ true = search rules in
    let number = c.in_ok-number-in-Some in
    reads_closed minus (last number.number.value) c.args.bytes.now c.args.at number.number.end c.close.result number.ensures.0
    (λ ls. minus_on c.args.bytes.now c.args.at ls lt digit ∙ number.ensures.2 true ls) c.close.ensures
