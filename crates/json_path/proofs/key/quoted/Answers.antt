use Rattle.std.proofs.Common.{◌+◌, drop, sym, ap, ◌∙◌}
use Rattle.json.specs.Text.{content, plain}
use Rattle.path_model.specs.PathText.{dot, inside}
use Rattle.json_path.proofs.Steps.{quote_on, reads_failed}
use Rattle.json_path.proofs.key.quoted.Goals as goal

pub returns-in_err-end-in-Some : goal.returns-in_err-end-in-Some
returns-in_err-end-in-Some c =
    let reads = ap (λ bs. content plain (drop 1 bs)) (sym c.range_from.ensures.value) ∙ sym c.in_ok-key.ensures ∙ c.in-Some.is in
    reads_failed dot (inside c.in-Some.key) c.args.text.now c.args.at (c.args.at + 1) c.from_residual-in_err-end-in-Some.result c.in_err-end-in-Some.field-0.0 c.from_residual-in_err-end-in-Some.ensures.1
    (λ ls. quote_on c.args.text.now c.in-Some.key c.args.at ls c.requires.within c.requires.quote reads) (λ ls. rw c.as_bytes-bytes.ensures.value at (c.in_err-end-in-Some.ensures c.in-Some.key ls))
