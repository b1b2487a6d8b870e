use Rattle.std.proofs.Common.{[], ◌∷◌, lit≤}
use Rattle.page_model.proofs.StepLemmas.{may_within, uses_within, uses_nowhere, within_one, within_two}
use Rattle.mini_trx.proofs.tests.two_writes.Goals as goal

pub write-requires-clause-may : goal.write-requires-clause-may
write-requires-clause-may g c =
    let ns = 1 ∷ 3 ∷ [] in
    let so_far = uses_within g.P.Pages.stays_on ns (1 ∷ []) 0 0 0 12 c.args.p.now c.args.p.now c.write_field.new.p (within_one 1 (3 ∷ [])) (uses_nowhere ns c.args.p.now (g.P.Pages.stays_still c.args.p.now)) c.write_field.ensures.uses in
    may_within ns (3 ∷ []) 0 22 0 12 0 10 c.args.p.now c.write_field.new.p (within_two 1 3 []) (lit≤ tt) (lit≤ tt) c.requires.may so_far
