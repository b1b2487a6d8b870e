use Rattle.std.proofs.Common.{ap, ◌∙◌}
use Rattle.store_data.specs.Store.{Log}
use Rattle.transactions.proofs.CommitLemmas.{can_commit, first_log, trx_committed}
use Rattle.transactions.proofs.committing.commit.Goals as goal

pub returns-clause-commits : goal.returns-clause-commits
returns-clause-commits g c = λ there pages store l at work.
    let on = at.stands in
    trx_committed there pages store c.args.trx.now.id.0 l on at.consistent work.found
    c.commit.result _
    (λ m log shows. c.commit.ensures.commits pages m store.commits at.told'
    (ap (λ (x : Log). x.page) shows ∙ work.page_is)
    (can_commit pages store c.args.trx.now.id.0 l m on.is work.found log shows))

pub returns-clause-never : goal.returns-clause-never
returns-clause-never g c = λ there pages store l at work few.
    let on = at.stands in
    let m = first_log there pages store c.args.trx.now.id.0 l on at.consistent work.found in
    c.commit.ensures.never pages m.0 store.commits at.told'
    (ap (λ (x : Log). x.page) m.2 ∙ work.page_is)
    (can_commit pages store c.args.trx.now.id.0 l m.0 on.is work.found m.1 m.2) few
