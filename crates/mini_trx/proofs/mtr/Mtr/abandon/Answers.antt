use Rattle.std.proofs.Common.{arith}
use Rattle.mini_trx.proofs.CoherenceLemmas.{coherent_kept}
use Rattle.mini_trx.proofs.mtr.Mtr.abandon.Goals as goal

pub invariant_of-self : goal.invariant_of-self
invariant_of-self g c = record {
  coherent = coherent_kept (g.C.Cache.state c.args.self.cache.now) (g.C.Cache.state c.keep.new.self) (g.H.Holdings.copies c.args.self.memo) (g.H.Holdings.writes c.args.self.memo) c.args.self.coherent
      (g.C.Cache.stays_pages _ _ (g.C.Cache.stays_on _ _ _ c.give_back_all.ensures.stays c.keep.ensures.stays))
      (let l = c.keep.ensures.lent in let m = c.give_back_all.ensures.lent in omega (arith, l, m));
}

pub returns-clause-stays : goal.returns-clause-stays
returns-clause-stays g c = g.C.Cache.stays_on _ _ _ c.give_back_all.ensures.stays c.keep.ensures.stays
