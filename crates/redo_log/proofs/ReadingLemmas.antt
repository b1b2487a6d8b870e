-- Calls of a disk that only read, one after another.
use Rattle.std.proofs.Common.{◌≡◌, inl, inr, ⊎_elim, ◌≤◌, Result, Ok, ◌∙◌, arith}
use Rattle.engine_base.specs.Disk.{DiskState, Elapses, Stays, GoesOn}
use Rattle.engine_base.specs.declared.fault.Fault.{Fault}

pub record HasRead (old new : DiskState) : Type 0 where
  pub stays : Stays old new
  pub tells : new.tells_images ≡ old.tells_images
  pub time : Elapses old new
  pub more : old.faults ≤ new.faults

-- a call of a disk that leaves what is read and what a crash leaves has only read
pub has_read : {T : Type 0} (old new : DiskState) (r : Result T Fault) → Stays old new → GoesOn old new r → HasRead old new
has_read old new r stays on = record { stays = stays; tells = on.tells; time = on.time; more = on.cause.later }

-- two calls that only read, one behind the other, have only read
pub has_then : (a b c : DiskState) → HasRead a b → HasRead b c → HasRead a c
has_then a b c one two = record {
  stays = record {
    reads = two.stays.reads ∙ one.stays.reads;
    leaves = λ f. (λ left. (one.stays.leaves f).0 ((two.stays.leaves f).0 left), λ left. (two.stays.leaves f).1 ((one.stays.leaves f).1 left));
  };
  tells = two.tells ∙ one.tells;
  time = record {
    later = let p = one.time.later in let q = two.time.later in omega (arith, p, q);
    nothing_else = λ t f le since. let p = one.time.later in ⊎_elim
        (λ past. ⊎_elim (λ was. inl was) (λ now. inr ((two.stays.leaves f).1 now)) (one.time.nothing_else t f le past))
        (λ now. inr now)
        (two.time.nothing_else t f (omega (arith, le, p)) since);
    keeps = λ t f le past. let p = one.time.later in two.time.keeps t f (omega (arith, le, p)) (one.time.keeps t f le past);
  };
  more = let p = one.more in let q = two.more in omega (arith, p, q);
}

-- reads that ended well
pub ok_goes_on : {T : Type 0} (old new : DiskState) (x : T) → HasRead old new → GoesOn old new (Ok x)
ok_goes_on old new x reads = record { tells = reads.tells; time = reads.time; cause = record { later = reads.more; device = λ is. cc }; plain = tt }

-- reads, and then one more call that only reads
pub then_goes_on : {T : Type 0} (a b c : DiskState) (r : Result T Fault) → HasRead a b → Stays b c → GoesOn b c r → GoesOn a c r
then_goes_on a b c r one stays on =
    let all = has_then a b c one (has_read b c r stays on) in
    record {
      tells = all.tells;
      time = all.time;
      cause = record { later = all.more; device = λ is. let rose = on.cause.device is in let p = one.more in omega (arith, rose, p) };
      plain = on.plain;
    }
