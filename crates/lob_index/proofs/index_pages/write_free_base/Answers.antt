use Rattle.lob_index.proofs.PageLemmas.{base_told}
use Rattle.lob_index.proofs.index_pages.write_free_base.Goals as goal

pub returns-clause-sets : goal.returns-clause-sets
returns-clause-sets g c =
    base_told _ _ (g.P.Pages.state c.args.p.now).count c.args.first.0 c.args.page.0 c.from.result c.fill_fields.new.bytes (g.P.Pages.whole c.args.p.now) c.requires.first c.fill_fields.auto.bytes c.from.ensures c.fill_fields.ensures.sets.here c.in_ok-write.ensures.written
