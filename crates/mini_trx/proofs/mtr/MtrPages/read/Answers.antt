use Rattle.mini_trx.proofs.mtr.MtrPages.read.Goals as goal

pub invariant_of-self-2 : goal.invariant_of-self-2
invariant_of-self-2 g c = record { coherent = c.pin.ensures.pins.coherent c.args.self.now.memo.group.writes c.args.self.now.coherent }
