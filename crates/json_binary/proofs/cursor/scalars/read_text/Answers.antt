use Rattle.std.proofs.Common.{◌∙◌, ap, sym, Ok}
use Rattle.tree_model.specs.Tree.{text}
use Rattle.json_binary.proofs.ScalarLemmas.{letters_found, letters_bad}
use Rattle.json_binary.proofs.cursor.scalars.read_text.Goals as goal

pub returns-in_ok-from_str-in-Ok-clause-value : goal.returns-in_ok-from_str-in-Ok-clause-value
returns-in_ok-from_str-in-Ok-clause-value c =
    letters_found c.args.bytes.now c.args.spot.at _ (c.in-Some.start, c.in-Some.end) (sym c.in-Some.ensures.range) c.in-Ok.ensures.cases.1
    ∙ ap (λ s. Ok (text s)) (sym c.in-Ok.ensures.cases.0 ∙ sym c.in_ok-from_str-in-Ok.ensures.ok ∙ sym c.new.ensures)

pub returns-in-Err-clause-value : goal.returns-in-Err-clause-value
returns-in-Err-clause-value c =
    letters_bad c.args.bytes.now c.args.spot.at _ (c.in-Some.start, c.in-Some.end) (sym c.in-Some.ensures.range) c.in-Err.ensures.cases.0
