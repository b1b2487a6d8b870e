use Rattle.std.proofs.Common.{◌≤◌, length, rules}
use Rattle.json_patch.proofs.PartLemmas.{all_back}
use Rattle.json_patch.proofs.parts.unapply.Goals as goal

pub returns-clause-old : goal.returns-clause-old
returns-clause-old c =
    let items = c.args.parts.now.patches.items in
    let high : length items ≤ c.loop-patch.patch-index = search rules in
    λ old e same. all_back items c.loop-patch.patch-index c.loop-patch.bytes old c.args.bytes.now high c.loop-patch.invariant.1 e same
