use Rattle.store_steps.proofs.UseLemmas.{on_told}
use Rattle.store_steps.proofs.LobLemmas.{lob_at, page_used}
use Rattle.store_steps.proofs.PartLemmas.{rest_goes}
use Rattle.store_steps.proofs.lob.free_rest.Goals as goal

pub returns-clause-gives : goal.returns-clause-gives
returns-clause-gives g c = λ there pages store l told on found pieces index.
    let page = c.args.page.0 in
    let at = lob_at there pages store page l on found in
    on_told c.free_first.result _ _ _
    (λ new gives. at.gone new (rest_goes there pages new store page l at pieces index gives))
    (c.free_first.ensures.gives pages told at.map (page_used there pages store page l at))

pub returns-clause-never : goal.returns-clause-never
returns-clause-never g c = λ there pages store l told on found.
    let page = c.args.page.0 in
    let at = lob_at there pages store page l on found in
    c.free_first.ensures.never pages told at.map (page_used there pages store page l at)
