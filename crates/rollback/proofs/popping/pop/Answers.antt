use Rattle.rollback.proofs.LogLemmas.{active_log, page_is, popped_left, popped_record}
use Rattle.rollback.proofs.popping.pop.Goals as goal

pub returns-clause-pops : goal.returns-clause-pops
returns-clause-pops g c = λ s is.
    let log = c.args.log.0 in
    let a = active_log _ log s is in
    let page = page_is _ log s is in
    popped_record _ log s is c.pop_last.result _
    (λ f older records. c.pop_last.ensures.pops s.pages a.log a.newest'.entry f older is.told' page a.room records)
    (λ records. c.pop_last.ensures.ends s.pages a.log a.newest'.entry is.told' page a.room a.listed records)

pub returns-clause-left : goal.returns-clause-left
returns-clause-left g c = λ s is.
    let log = c.args.log.0 in
    let a = active_log _ log s is in
    popped_left _ log s is c.pop_last.result
    (c.pop_last.ensures.left s.pages a.log a.newest'.entry a.newest'.older is.told' (page_is _ log s is) a.room a.newest'.records)

pub returns-clause-never : goal.returns-clause-never
returns-clause-never g c = λ s is.
    let log = c.args.log.0 in
    let a = active_log _ log s is in
    c.pop_last.ensures.never s.pages a.log a.newest'.entry a.newest'.older is.told' (page_is _ log s is) a.room
    a.listed a.newest'.records
