use Rattle.std.proofs.Common.{ap, Fits, w32, arith, rules}
use Rattle.mini_trx.specs.Groups.{GroupView}
use Rattle.mini_trx.proofs.GroupLemmas.{keeps_more}
use Rattle.mini_trx.proofs.group.Group.append.Goals as goal

pub invariant_of-self : goal.invariant_of-self
invariant_of-self c =
    let old = c.self.inside.buffer in
    let new = c.append.new.buffer in
    (keeps_more old.items new.items c.args.self.now.writes old.len new.len c.args.page.0 c.args.at c.args.bytes.now c.self.invariant (ap (λ (v : GroupView). v.writes) c.self.view_is)
    c.append.ensures.appends old.ok.0 new.ok.0 c.append.ensures.len c.requires.room (let f : Fits w32 c.args.page.0 = search rules in omega arith) c.requires.within).group

pub returns-clause-writes : goal.returns-clause-writes
returns-clause-writes c =
    let old = c.self.inside.buffer in
    let new = c.append.new.buffer in
    (keeps_more old.items new.items c.args.self.now.writes old.len new.len c.args.page.0 c.args.at c.args.bytes.now c.self.invariant (ap (λ (v : GroupView). v.writes) c.self.view_is)
    c.append.ensures.appends old.ok.0 new.ok.0 c.append.ensures.len c.requires.room (let f : Fits w32 c.args.page.0 = search rules in omega arith) c.requires.within).writes
