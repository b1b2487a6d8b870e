use Rattle.std.proofs.Common.{refl}
use Rattle.mini_trx.proofs.MtrLemmas.{begins}
use Rattle.mini_trx.proofs.mtr.Mtr+C.new.Goals as goal

pub returns-clause-begins : goal.returns-clause-begins
returns-clause-begins g c =
    let s = g.C.Cache.state c.args.cache.now in
    begins s s c.new.result.lent c.new.result.group.writes refl refl refl c.new.ensures.lent c.new.ensures.writes
