use Rattle.std.proofs.Common.{◌+◌, ◌≤◌, arith, length}
use Rattle.binary_model.specs.Layout.{root}
use Rattle.binary_model.specs.Stands.{used_in}
use Rattle.json_binary.proofs.UsageLemmas.{document_bound}
use Rattle.json_binary.proofs.cursor.usage.used.Goals as goal

pub returns : goal.returns
returns c =
    λ t s. let b : 1 + used_in c.args.bytes.now t (root c.args.bytes.now) ≤ length c.args.bytes.now = document_bound c.args.bytes.now t s in
    let u = c.value_used.ensures t s.value s.nested in
    omega (arith, b, u, c.requires.small)

pub overflow_cast-result : goal.overflow_cast-result
overflow_cast-result c =
    let d = c.requires.document in
    let b : 1 + used_in c.args.bytes.now d.0 (root c.args.bytes.now) ≤ length c.args.bytes.now = document_bound c.args.bytes.now d.0 d.1 in
    let u = c.value_used.ensures d.0 d.1.value d.1.nested in
    omega (arith, b, u, c.requires.small)

pub overflow_add-result : goal.overflow_add-result
overflow_add-result c =
    let d = c.requires.document in
    let b : 1 + used_in c.args.bytes.now d.0 (root c.args.bytes.now) ≤ length c.args.bytes.now = document_bound c.args.bytes.now d.0 d.1 in
    let u = c.value_used.ensures d.0 d.1.value d.1.nested in
    omega (arith, b, u, c.requires.small)
