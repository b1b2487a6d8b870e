use Rattle.std.proofs.Common.{◌∙◌, ◌++◌, ap}
use Rattle.binary_model.specs.Canonical.{spelling}
use Rattle.json_tree.specs.View.{tree_of}
use Rattle.json_binary.proofs.EncodeLemmas.{value_spelled}
use Rattle.json_binary.proofs.codec.parts.value_bytes.Goals as goal

pub returns-clause-ok : goal.returns-clause-ok
returns-clause-ok c =
    value_spelled (tree_of c.args.tree.now) c.in_ok-measured.measured c.push_value.new.out.items c.in_ok-measured.ensures.measured
    (c.in_ok-push_value.ensures.ok ∙ ap (λ bytes. bytes ++ (spelling (tree_of c.args.tree.now)).1) c.in_ok-bytes.ensures.items)
