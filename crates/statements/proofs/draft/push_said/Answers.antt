use Rattle.std.proofs.Common.{◌≡◌, ◌<◌, ◌+◌, ◌-◌, length, arith}
use Rattle.statements.proofs.ListLemmas.{grown}
use Rattle.statements.proofs.draft.push_said.Goals as goal

pub returns : goal.returns
returns c =
    let number = c.from-index.ensures in
    let next : (c.from-index.result - 1) + 1 ≡ c.args.session.0 = grind (arith, number, c.requires) in
    let within : c.from-index.result - 1 < length c.args.lists.now.items = grind (arith, number, c.requires) in
    grown c.args.lists.now.items c.args.session.0 (c.from-index.result - 1) c.index_mut.result.now c.push.new.self c.args.statement next within c.index_mut.ensures.value c.in_ok-push.ensures.items
