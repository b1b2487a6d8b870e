use Rattle.purge.proofs.LogLemmas.{at_first, page_is, page_given, page_plain}
use Rattle.purge.proofs.log.give_page.Goals as goal

pub returns-clause-gives : goal.returns-clause-gives
returns-clause-gives g c = λ there pages store l ls at begun passed_all.
    let log = c.args.log.0 in
    let f = at_first _ log there pages store l ls at in
    let page = page_is _ log there pages store l ls at in
    page_given there pages store l f at.few begun passed_all c.drop_page.result _
    (λ newest next older can is. c.drop_page.ensures.drops pages f.log newest next older at.told' page
    can is)
    (λ can. c.drop_page.ensures.purges pages f.log store.purged at.told' page can)
    (λ newest older can is. c.drop_page.ensures.left pages f.log newest older at.told' page can is)

pub returns-clause-never : goal.returns-clause-never
returns-clause-never g c = λ there pages store l ls at begun passed_all.
    let log = c.args.log.0 in
    let f = at_first _ log there pages store l ls at in
    let page = page_is _ log there pages store l ls at in
    page_plain there pages store l f at.few begun passed_all
    (λ newest next older can is. c.drop_page.ensures.never pages f.log newest next older at.told' page
    can is)
    (λ can. c.drop_page.ensures.never_last pages f.log store.purged at.told' page can)
