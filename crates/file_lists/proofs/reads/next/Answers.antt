use Rattle.page_model.specs.Lists.{first_of}
use Rattle.file_lists.proofs.LinkLemmas.{link_read, plain_read, next_link}
use Rattle.file_lists.proofs.reads.next.Goals as goal

pub returns-clause-value : goal.returns-clause-value
returns-clause-value g c = λ pages base before behind told list.
    let s = c.args.p.now in
    let there = next_link pages base _ before behind _ (g.P.Pages.whole s pages told) list in
    link_read _ _ _ _ _ pages (first_of behind) (g.P.Pages.few s) told c.read_link.ensures.value c.read_link.ensures.place there.0 there.1

pub returns-clause-never : goal.returns-clause-never
returns-clause-never g c = λ pages base before behind told list.
    let there = next_link pages base _ before behind _ (g.P.Pages.whole c.args.p.now pages told) list in
    plain_read _ _ _ _ _ pages (first_of behind) told c.read_link.ensures.never there.0 there.1
