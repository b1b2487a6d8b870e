use Rattle.std.proofs.Common.{sym, ap, ◌∙◌}
use Rattle.engine_base.specs.Addresses.{address_of}
use Rattle.undo_model.specs.Reading.{is_place}
use Rattle.undo_logs.proofs.NeverLemmas.{not_both}
use Rattle.undo_logs.proofs.PurgeLemmas.{due_place}
use Rattle.undo_logs.proofs.committed.due_place.Goals as goal

pub returns-else-is_place-clause-never : goal.returns-else-is_place-clause-never
returns-else-is_place-clause-never g c = λ pages l xs e ys is same stands state records next.
    let a = address_of c.in_ok-a.a in
    not_both (is_place (g.P.Pages.state c.args.p.now).count a.page a.at)
    (due_place pages l c.args.log.0 xs e ys _ a is same stands state records next (g.P.Pages.state c.args.p.now).count (g.P.Pages.whole c.args.p.now pages is) c.in_ok-a.ensures.value)
    (ap (λ n. is_place n a.page a.at) (sym c.count-count.ensures) ∙ ap (is_place c.count-count.result a.page) (sym c.from.ensures) ∙ sym c.is_place.ensures ∙ c.if-is_place.false)
