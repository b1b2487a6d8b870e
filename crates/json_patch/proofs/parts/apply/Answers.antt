use Rattle.std.proofs.Common.{◌≤◌, length, rules}
use Rattle.json_patch.proofs.PartLemmas.{all_put}
use Rattle.json_patch.proofs.parts.apply.Goals as goal

pub returns-clause-new : goal.returns-clause-new
returns-clause-new c =
    let items = c.args.parts.now.patches.items in
    let high : length items ≤ c.loop-patch.patch-index = search rules in
    λ new e same. all_put items c.loop-patch.patch-index c.loop-patch.bytes c.args.bytes.now new high c.loop-patch.invariant.1 e same
