use Rattle.std.proofs.Common.{ap}
use Rattle.store_data.specs.Logs.{passed}
use Rattle.store_model.specs.Steps.{last_in}
use Rattle.purge.proofs.LogLemmas.{on_told, at_first, page_is, one, none, due_or}
use Rattle.purge.proofs.log.pass.Goals as goal

pub returns-clause-passes : goal.returns-clause-passes
returns-clause-passes g c = λ there pages store l ls at some.
    let log = c.args.log.0 in
    let f = at_first _ log there pages store l ls at in
    elim (due_or there pages store l f) [
      | one d ↦ on_told c.purged_one.result _ _ _ (λ new ch. f.changed new passed ch)
          (c.purged_one.ensures.passes pages f.log d.newer d.entry d.older at.told'
          (page_is _ log there pages store l ls at) f.stands f.state d.cut d.next)
      | none next gone ↦ absurd (some (ap last_in gone))
    ]

pub returns-clause-never : goal.returns-clause-never
returns-clause-never g c = λ there pages store l ls at some.
    let log = c.args.log.0 in
    let f = at_first _ log there pages store l ls at in
    elim (due_or there pages store l f) [
      | one d ↦ c.purged_one.ensures.never pages f.log d.newer d.entry d.older at.told'
          (page_is _ log there pages store l ls at) f.stands f.state d.cut d.next
      | none next gone ↦ absurd (some (ap last_in gone))
    ]
