use Rattle.lob_bytes.proofs.BeginLemmas.{first_told}
use Rattle.lob_bytes.proofs.first_page.write_first_page.Goals as goal

pub returns-clause-makes : goal.returns-clause-makes
returns-clause-makes g c =
    first_told _ _ (g.P.Pages.state c.args.p.now).count c.args.page.0 c.args.trx.0 c.fill_first_page.new.bytes (g.P.Pages.whole c.args.p.now) c.requires.page c.fill_first_page.auto.bytes c.fill_first_page.ensures.fields c.fill_first_page.ensures.nodes c.in_ok-write.ensures.written
