use Rattle.std.proofs.Common.{◌∙◌, sym, ap, arith, Ok, Err}
use Rattle.std.specs.Option.{option_copied}
use Rattle.binary_model.specs.FirstFault.{is_after, KeyOrder}
use Rattle.json_binary.specs.Place.{container_of}
use Rattle.json_binary.proofs.KeyLemmas.{no_text, not_after, is_next}
use Rattle.json_binary.proofs.codec.entries.checked_key.Goals as goal

pub returns-in_default : goal.returns-in_default
returns-in_default c =
    let r = c.key_range-start.ensures in
    no_text c.args.bytes.now (container_of c.args.container) c.args.k c.args.floor (option_copied c.args.before) _ _ r.from r.to (omega arith) (omega (arith, c.end.ensures.place)) c.in_default.ensures.cases.0

pub returns-then-not-follows : goal.returns-then-not-follows
returns-then-not-follows c =
    let r = c.key_range-start.ensures in
    not_after c.args.bytes.now (container_of c.args.container) c.args.k c.args.floor (option_copied c.args.before) _ _ r.from r.to (omega arith) (omega (arith, c.end.ensures.place)) c.in-Ok.ensures.cases.1
    (ap (is_after (option_copied c.args.before)) (sym c.in-Ok.ensures.cases.0) ∙ sym c.if-not-follows.ensures)
    ∙ ap (λ n. Err (KeyOrder n)) (sym c.key_entry-entry.ensures.place)

pub returns : goal.returns
returns c =
    let r = c.key_range-start.ensures in
    is_next c.args.bytes.now (container_of c.args.container) c.args.k c.args.floor (option_copied c.args.before) _ _ r.from r.to (omega arith) (omega (arith, c.end.ensures.place)) c.in-Ok.ensures.cases.1
    (ap (is_after (option_copied c.args.before)) (sym c.in-Ok.ensures.cases.0) ∙ sym c.if-not-follows.ensures)
    ∙ ap Ok (sym c.in-Ok.ensures.cases.0 ∙ sym c.in_ok-from_str.ensures.ok ∙ sym c.new.ensures)
