use Rattle.std.proofs.Common.{arith, rules, refl, Fits, w16, w32}
use Rattle.engine_base.proofs.FieldLemmas.{address_told, adds_same}
use Rattle.engine_base.proofs.field.write_address.Goals as goal

pub returns-clause-sets : goal.returns-clause-sets
returns-clause-sets g c = address_told _ _ _ _ _ _ _ (g.P.Pages.whole c.args.p.now) c.requires.page c.requires.within
    (let f : Fits w32 c.args.value.page.0 = search rules in omega arith)
    (let f : Fits w16 c.args.value.at = search rules in omega arith)
    (rw c.write_u16.ensures (rw c.write_u32.ensures refl)) c.in_ok-write.ensures.written

pub returns-clause-writes : goal.returns-clause-writes
returns-clause-writes g c = adds_same _ _ _ _ _ _ (rw c.write_u16.ensures (rw c.write_u32.ensures refl)) c.in_ok-write.ensures.writes
