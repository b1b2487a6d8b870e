use Rattle.std.proofs.Common.{sym, ap, ◌∙◌}
use Rattle.engine_base.specs.Addresses.{address_of}
use Rattle.undo_model.specs.Reading.{is_place}
use Rattle.undo_logs.proofs.NeverLemmas.{newest_is_place, not_purging, not_both}
use Rattle.undo_logs.proofs.popping.newest_place.Goals as goal

pub returns-else-is_place-clause-never : goal.returns-else-is_place-clause-never
returns-else-is_place-clause-never g c = λ pages l e older is same can records.
    let a = address_of c.in_ok-a.a in
    not_both (is_place (g.P.Pages.state c.args.p.now).count a.page a.at)
    (newest_is_place _ _ pages l c.args.log.0 a e older (g.P.Pages.whole c.args.p.now pages is) is same can.stands (not_purging l.state can.active) records c.in_ok-a.ensures.value)
    (ap (λ n. is_place n a.page a.at) (sym c.count-count.ensures) ∙ ap (is_place c.count-count.result a.page) (sym c.from.ensures) ∙ sym c.is_place.ensures ∙ c.if-is_place.false)
