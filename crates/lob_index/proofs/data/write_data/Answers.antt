use Rattle.std.proofs.Common.{◌+◌, [], ◌∷◌, length, lit≤, arith}
use Rattle.page_model.proofs.StepLemmas.{may_within}
use Rattle.lob_index.proofs.DataLemmas.{data_told}
use Rattle.lob_index.proofs.data.write_data.Goals as goal

pub write-requires-2-clause-may : goal.write-requires-2-clause-may
write-requires-2-clause-may g c =
    let n = length c.args.bytes.now in
    let len = c.fill_front.ensures.len in
    let d = c.args.page.0 ∷ [] in
    may_within d d 0 (49 + n + 16) 0 (length c.fill_front.new.front + 8) 0 (n + 8) c.args.p.now c.write.new.self (λ k is. is) (lit≤ tt) (omega (arith, len)) c.requires.may c.write.ensures.uses

pub returns-clause-makes : goal.returns-clause-makes
returns-clause-makes g c =
    data_told _ (g.P.Pages.state c.write.new.self).told _ (g.P.Pages.state c.args.p.now).count c.args.page.0 c.args.trx.0 c.fill_front.new.front c.args.bytes.now (g.P.Pages.whole c.args.p.now) c.requires.page c.fill_front.ensures.len c.requires.fits c.fill_front.ensures.fields c.in_ok-write.ensures.written c.in_ok-write-2.ensures.written
