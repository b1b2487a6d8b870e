use Rattle.page_model.specs.Lists.{first_of}
use Rattle.file_lists.proofs.LinkLemmas.{link_read, plain_read, first_link}
use Rattle.file_lists.proofs.reads.first.Goals as goal

pub returns-clause-value : goal.returns-clause-value
returns-clause-value g c = λ pages nodes told list.
    let s = c.args.p.now in
    let there = first_link pages _ nodes _ (g.P.Pages.whole s pages told) list in
    link_read _ _ _ _ _ pages (first_of nodes) (g.P.Pages.few s) told c.read_link.ensures.value c.read_link.ensures.place there.0 there.1

pub returns-clause-never : goal.returns-clause-never
returns-clause-never g c = λ pages nodes told list.
    let there = first_link pages _ nodes _ (g.P.Pages.whole c.args.p.now pages told) list in
    plain_read _ _ _ _ _ pages (first_of nodes) told c.read_link.ensures.never there.0 there.1
