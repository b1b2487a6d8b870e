use Rattle.lob_index.proofs.PageLemmas.{index_told}
use Rattle.lob_index.proofs.index_pages.write_index_page.Goals as goal

pub returns-clause-makes : goal.returns-clause-makes
returns-clause-makes g c =
    index_told _ _ (g.P.Pages.state c.args.p.now).count c.args.page.0 c.args.behind.0 c.fill_index_page.new.bytes (g.P.Pages.whole c.args.p.now) c.requires.page c.fill_index_page.auto.bytes c.fill_index_page.ensures.header c.fill_index_page.ensures.nodes c.in_ok-write.ensures.written
