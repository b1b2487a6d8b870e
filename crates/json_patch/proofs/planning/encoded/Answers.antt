use Rattle.std.proofs.Common.{◌≡◌, ◌≤◌, ◌++◌, length, sym, ap, subst, ◌∙◌, arith}
use Rattle.binary_model.specs.Stands.{Stands}
use Rattle.binary_model.specs.Canonical.{canonical, canonical_length}
use Rattle.binary_model.proofs.canonical.LengthLemmas.{measured_length}
use Rattle.binary_model.proofs.canonical.RoundLemmas.{canonical_stands}
use Rattle.json_tree.specs.View.{tree_of}
use Rattle.json_patch.proofs.planning.encoded.Goals as goal

pub returns-in-Ok-clause-encoded : goal.returns-in-Ok-clause-encoded
returns-in-Ok-clause-encoded c =
    let t = tree_of c.args.tree.now in
    let is : c.encode.new.out.items ≡ canonical t = c.in-Ok.ensures.ok ∙ ap (λ old. old ++ canonical t) c.new-out.ensures.items in
    let fits : canonical_length t ≤ 16777216 = c.in-Ok.ensures.fits in
    let small : length (canonical t) ≤ 16777216 = subst (λ n. n ≤ 16777216) (sym (measured_length t)) fits in
    subst (λ bytes. Stands bytes t × (length bytes ≤ 16777216)) (sym is) (canonical_stands t c.in-Ok.ensures.is_tree c.requires (omega (arith, small)), small)
