use Rattle.std.proofs.Common.{sym, ◌∙◌}
use Rattle.std.proofs.lemmas.List.{length-map}
use Rattle.json_path.proofs.Steps.{all_legs}
use Rattle.json_path.proofs.path.Path.parse.Goals as goal

pub invariant_of-result : goal.invariant_of-result
invariant_of-result c =
    let short = rw c.deref.ensures.value at (sym c.has_long_key.ensures ∙ c.if-has_long_key.false) in
    (rw length-map c.in_ok-legs.ensures.1, all_legs _ c.in_ok-legs.ensures.2 short)
