use Rattle.std.proofs.Common.{arith}
use Rattle.mini_trx.proofs.MtrLemmas.{pins_one}
use Rattle.mini_trx.proofs.mtr.pin.Goals as goal

pub returns-clause-pins : goal.returns-clause-pins
returns-clause-pins g c =
    pins_one c.args.page.0 (g.C.Cache.state c.args.cache.now) (g.C.Cache.state c.lend.new.self) c.args.lent.now c.push.new.self c.in_ok-frame.frame c.push.ensures
    (g.C.Cache.stays_pages _ _ c.lend.ensures.stays) (let l = c.in_ok-frame.ensures.lent in omega (arith, l)) c.in_default.ensures.none c.in_ok-frame.ensures.holds c.in_ok-frame.ensures.copy
