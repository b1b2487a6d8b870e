use Rattle.engine_base.specs.Addresses.{address_of}
use Rattle.std.proofs.Common.{◌∙◌, ap, sym}
use Rattle.file_lists.specs.Links.{link_of}
use Rattle.undo_logs.proofs.PlaceLemmas.{same_page}
use Rattle.undo_logs.proofs.NeverLemmas.{newest_at, newest_some}
use Rattle.undo_logs.proofs.appending.newest_page.Goals as goal

pub returns-then-node-eq-PAGE_NODE-clause-value : goal.returns-then-node-eq-PAGE_NODE-clause-value
returns-then-node-eq-PAGE_NODE-clause-value g c = λ l is pages told log.
    same_page pages l c.args.log.0 (address_of c.in-Some.node) is log (λ nodes list. sym (ap link_of c.in-Some.is) ∙ c.in_ok-node.ensures.value pages nodes told list)

pub returns-else-node-eq-PAGE_NODE-clause-never : goal.returns-else-node-eq-PAGE_NODE-clause-never
returns-else-node-eq-PAGE_NODE-clause-never g c = λ l is pages told log.
    absurd (c.if-node-eq-PAGE_NODE.false (newest_at pages l c.args.log.0 (address_of c.in-Some.node) is log (λ nodes list. sym (ap link_of c.in-Some.is) ∙ c.in_ok-node.ensures.value pages nodes told list)))

pub returns-in-None-clause-never : goal.returns-in-None-clause-never
returns-in-None-clause-never g c = λ l is pages told log.
    newest_some pages l c.args.log.0 is log (λ nodes list. sym (ap link_of c.in-None.is) ∙ c.in_ok-node.ensures.value pages nodes told list)
