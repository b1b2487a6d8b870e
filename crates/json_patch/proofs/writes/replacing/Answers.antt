use Rattle.std.proofs.Common.{◌≡◌, length, Err, ap, ◌∙◌, arith}
use Rattle.binary_model.specs.Canonical.{measure}
use Rattle.json_tree.specs.View.{tree_of}
use Rattle.json_patch.proofs.WriteLemmas.{size_of, too_large}
use Rattle.json_patch.proofs.writes.replacing.Goals as goal

pub replacing_by-requires-clause-short : goal.replacing_by-requires-clause-short
replacing_by-requires-clause-short c =
    let t = tree_of c.args.value.now in
    let size : length c.in-Ok.spelled.bytes.items ≡ (measure t).1 = ap (λ v. length v.1) c.in-Ok.ensures.ok ∙ size_of t in
    let fits = c.in-Ok.ensures.fits in
    omega (arith, size, fits)

pub returns-in-Err-Large-clause-writes : goal.returns-in-Err-Large-clause-writes
returns-in-Err-Large-clause-writes c =
    too_large c.args.bytes.now c.args.container c.args.k (tree_of c.args.value.now) c.requires.stands c.requires.inside c.requires.small (c.in-Err-Large.ensures.large (ap Err c.in-Err-Large.field-0-is))
