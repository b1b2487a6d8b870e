use Rattle.std.proofs.Common.{sym, ap, ◌∙◌}
use Rattle.engine_base.specs.Addresses.{address_of}
use Rattle.undo_model.specs.Reading.{is_previous}
use Rattle.undo_logs.proofs.NeverLemmas.{not_both}
use Rattle.undo_logs.proofs.ReadLemmas.{previous_read}
use Rattle.undo_logs.proofs.popping.record_before.Goals as goal

pub returns-then-is_previous-clause-value : goal.returns-then-is_previous-clause-value
returns-then-is_previous-clause-value g c = λ pages r previous is stands.
    (previous_read _ _ pages (address_of c.args.at) r previous (address_of c.in_ok-a.a) (g.P.Pages.whole c.args.p.now pages is) is stands c.in_ok-a.ensures.value).0

pub returns-else-is_previous-clause-never : goal.returns-else-is_previous-clause-never
returns-else-is_previous-clause-never g c = λ pages r previous is stands.
    let a = address_of c.in_ok-a.a in
    not_both (is_previous (g.P.Pages.state c.args.p.now).count a.page a.at)
    (previous_read _ _ pages (address_of c.args.at) r previous a (g.P.Pages.whole c.args.p.now pages is) is stands c.in_ok-a.ensures.value).1
    (ap (λ n. is_previous n a.page a.at) (sym c.count-count.ensures) ∙ sym c.is_previous.ensures ∙ c.if-is_previous.false)
