use Rattle.std.proofs.Common.{◌≡◌, true, false, sym, ap, ◌∙◌}
use Rattle.engine_base.specs.Addresses.{address_of}
use Rattle.undo_model.specs.Reading.{is_previous}
use Rattle.undo_logs.proofs.NeverLemmas.{last_allowed, not_purging}
use Rattle.undo_logs.proofs.appending.previous_of.Goals as goal

pub returns-else-is_previous-clause-never : goal.returns-else-is_previous-clause-never
returns-else-is_previous-clause-never g c = λ pages l is same can.
    let a = address_of c.in_ok-a.a in
    let allowed = last_allowed _ _ pages l c.args.log.0 a (g.P.Pages.whole c.args.p.now pages is) is same can.stands (not_purging l.state can.active) c.in_ok-a.ensures.value in
    let e : true ≡ false = sym allowed ∙ ap (λ n. is_previous n a.page a.at) (sym c.count-count.ensures) ∙ sym c.is_previous.ensures ∙ c.if-is_previous.false in
    absurd (let f : true ≡ false = e in cc)
