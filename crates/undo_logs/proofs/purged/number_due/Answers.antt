use Rattle.std.proofs.Common.{◌≡◌, ℕ, true, false, Some, [], ◌∷◌, ap, ◌∙◌, sym, subst, arith, lit≤}
use Rattle.page_model.proofs.StepLemmas.{may_other, uses_other}
use Rattle.engine_base.specs.Addresses.{address_of}
use Rattle.file_lists.proofs.LinkLemmas.{handed_on}
use Rattle.undo_model.specs.Data.{Record}
use Rattle.undo_model.specs.Reading.{is_place}
use Rattle.undo_model.specs.Logs.{next_field}
use Rattle.undo_logs.proofs.NeverLemmas.{not_both, place_of_record}
use Rattle.undo_logs.proofs.ToldLemmas.{told_is}
use Rattle.undo_logs.proofs.WalkLemmas.{due_none, due_some}
use Rattle.undo_logs.proofs.purged.number_due.Goals as goal

pub record_there-requires-clause-may : goal.record_there-requires-clause-may
record_there-requires-clause-may g c = may_other (c.args.log.0 ∷ []) c.in_ok-a.a.page.0 1 0 0 0 0 c.args.p.now c.read_address.new.p (lit≤ tt) (lit≤ tt) c.requires.may c.read_address.ensures.uses

pub returns-in_err-rec-clause-uses : goal.returns-in_err-rec-clause-uses
returns-in_err-rec-clause-uses g c = uses_other g.P.Pages.stays_on (c.args.log.0 ∷ []) c.in_ok-a.a.page.0 0 0 0 c.args.p.now c.read_address.new.p c.record_there.new.p c.read_address.ensures.uses c.record_there.ensures.uses

pub returns-clause-uses : goal.returns-clause-uses
returns-clause-uses g c = uses_other g.P.Pages.stays_on (c.args.log.0 ∷ []) c.in_ok-a.a.page.0 0 0 0 c.args.p.now c.read_address.new.p c.record_there.new.p c.read_address.ensures.uses c.record_there.ensures.uses

pub returns-then-a-clause-value : goal.returns-then-a-clause-value
returns-then-a-clause-value g c = λ pages l is same log state.
    let a = address_of c.in_ok-a.a in
    let read = told_is (λ ps. a ≡ next_field ps c.args.log.0) _ pages is c.in_ok-a.ensures.value ∙ ap (next_field pages) (sym same) in
    let p = c.args.p.now in
    let whole = g.P.Pages.whole p pages is in
    let few = g.P.Pages.few p in
    let m = whole.many in
    sym (due_none pages l a log state read (omega (arith, m, few)) c.if-a.true)

pub returns-then-not-is_place-clause-never : goal.returns-then-not-is_place-clause-never
returns-then-not-is_place-clause-never g c = λ pages l is same log state.
    let a = address_of c.in_ok-a.a in
    let p = c.args.p.now in
    let whole = g.P.Pages.whole p pages is in
    let read = told_is (λ ps. a ≡ next_field ps c.args.log.0) _ pages is c.in_ok-a.ensures.value ∙ ap (next_field pages) (sym same) in
    let n = due_some pages l a log state read c.if-a.false in
    let d = n.number in
    let none : is_place (g.P.Pages.state p).count a.page a.at ≡ false = ap (λ n. is_place n a.page a.at) (sym c.count-count.ensures) ∙ ap (is_place c.count-count.result a.page) (sym c.from.ensures) ∙ sym c.is_place.ensures ∙ c.if-not-is_place.true in
    not_both (is_place (g.P.Pages.state p).count a.page a.at) (subst (λ (k : ℕ). is_place k a.page a.at ≡ true) whole.many (place_of_record pages a d.undo d.previous d.stands)) none

pub returns-in_err-rec-clause-never : goal.returns-in_err-rec-clause-never
returns-in_err-rec-clause-never g c = λ pages l is same log state.
    let a = address_of c.in_ok-a.a in
    let read = told_is (λ ps. a ≡ next_field ps c.args.log.0) _ pages is c.in_ok-a.ensures.value ∙ ap (next_field pages) (sym same) in
    let n = due_some pages l a log state read c.if-a.false in
    let d = n.number in
    handed_on c.record_there.result _ _ (c.record_there.ensures.never pages d.undo d.previous (c.read_address.ensures.told ∙ is) d.stands) c.in_err-rec.was c.from_residual-in_err-rec.ensures

pub returns-clause-value : goal.returns-clause-value
returns-clause-value g c = λ pages l is same log state.
    let a = address_of c.in_ok-a.a in
    let read = told_is (λ ps. a ≡ next_field ps c.args.log.0) _ pages is c.in_ok-a.ensures.value ∙ ap (next_field pages) (sym same) in
    let n = due_some pages l a log state read c.if-a.false in
    let d = n.number in
    let r = c.in_ok-rec.ensures.value pages d.undo d.previous (c.read_address.ensures.told ∙ is) d.stands in
    ap (λ (x : Record). Some x.number) r ∙ sym n.due
