use Rattle.std.proofs.Common.{◌∙◌, arith}
use Rattle.mini_trx.proofs.mtr.give_back_all.Goals as goal

pub loop-frame-preserved : goal.loop-frame-preserved
loop-frame-preserved g c =
    let frames = c.in-Some.ensures.frames in
    let lent = c.give_back.ensures.lent in
    record {
      lent = omega (arith, frames, lent, c.loop-frame.invariant.lent);
      out = c.give_back.ensures.out ∙ c.loop-frame.invariant.out;
      stays = g.C.Cache.stays_on _ _ _ c.loop-frame.invariant.stays c.give_back.ensures.stays;
      faults = c.give_back.ensures.faults ∙ c.loop-frame.invariant.faults;
      writes = c.take_frame.ensures.writes ∙ c.loop-frame.invariant.writes;
    }
