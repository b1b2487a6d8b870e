use Rattle.std.proofs.Common.{◌≡◌, ◌-◌, length}
use Rattle.mini_trx.proofs.mtr.give_back_all.Given as goal

-- what is lent beyond the frames that are held stays, and so does all but that
abbrev pub invariant-loop-frame : goal.invariant-loop-frame
invariant-loop-frame g l = record {
  lent : (g.C.Cache.state l.cache).lent - length (g.H.Holdings.copies l.memo) ≡ (g.C.Cache.state l.fn.cache).lent - length (g.H.Holdings.copies l.fn.memo);
  out : (g.C.Cache.state l.cache).out ≡ (g.C.Cache.state l.fn.cache).out;
  stays : g.C.Cache.stays l.fn.cache l.cache;
  faults : (g.C.Cache.state l.cache).faults ≡ (g.C.Cache.state l.fn.cache).faults;
  writes : g.H.Holdings.writes l.memo ≡ g.H.Holdings.writes l.fn.memo;
}

abbrev pub decreases-loop-frame : goal.decreases-loop-frame
decreases-loop-frame g l = length (g.H.Holdings.copies l.memo)
