use Rattle.page_model.proofs.StepLemmas.{told_step}
use Rattle.lob_bytes.specs.Begin.{MakesFirstPage}
use Rattle.lob_bytes.proofs.StepLemmas.{begin_may, begin_uses}
use Rattle.lob_bytes.proofs.BeginLemmas.{began}
use Rattle.lob_bytes.proofs.begin.begin_lob.Goals as goal

pub write_first_page-requires-clause-may : goal.write_first_page-requires-clause-may
write_first_page-requires-clause-may g c = begin_may g.P.Pages.stays_on c.in_ok-page.page.0 c.args.p.now c.take.new.p c.take.new.p c.requires.may c.take.ensures.uses

pub returns-in_err-write_first_page-clause-uses : goal.returns-in_err-write_first_page-clause-uses
returns-in_err-write_first_page-clause-uses g c = begin_uses g.P.Pages.stays_on c.in_ok-page.page.0 c.args.p.now c.take.new.p c.write_first_page.new.p c.take.ensures.uses c.write_first_page.ensures.uses

pub returns-clause-uses : goal.returns-clause-uses
returns-clause-uses g c = begin_uses g.P.Pages.stays_on c.in_ok-page.page.0 c.args.p.now c.take.new.p c.write_first_page.new.p c.take.ensures.uses c.write_first_page.ensures.uses

pub returns-clause-begins : goal.returns-clause-begins
returns-clause-begins g c = λ pages is can.
    let page = c.in_ok-page.page.0 in
    let t1 = c.in_ok-page.ensures.takes pages is can.map can.covered in
    let t2 = told_step (MakesFirstPage page c.args.trx.0) _ _ t1.0 t1.1 c.in_ok-write_first_page.ensures.makes in
    (t2.0, t2.1, began pages t1.0 t2.0 page c.args.trx.0 c.args.space.now c.take.new.self can t1.2.0 t2.2 c.in_ok-page.ensures.ok)
