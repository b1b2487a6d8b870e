use Rattle.std.proofs.Common.{◌≡◌, Some, ◌<◌, [], ◌∷◌, ap, ◌∙◌, sym, arith, lit≤}
use Rattle.page_model.specs.Pages.{field}
use Rattle.page_model.proofs.StepLemmas.{may_within, uses_within}
use Rattle.engine_base.specs.Addresses.{address_of}
use Rattle.file_lists.proofs.LinkLemmas.{handed_on}
use Rattle.undo_model.specs.Reading.{is_place}
use Rattle.undo_model.specs.Logs.{records_of, end_field}
use Rattle.undo_logs.proofs.ToldLemmas.{told_is}
use Rattle.undo_logs.proofs.WalkLemmas.{walk_here, walk_past, past_end, not_place}
use Rattle.undo_logs.proofs.purged.number_there.Goals as goal

pub returns-then-not-is_place-clause-value : goal.returns-then-not-is_place-clause-value
returns-then-not-is_place-clause-value g c = λ pages l is same log has.
    let a = address_of c.args.a in
    let p = c.args.p.now in
    let whole = g.P.Pages.whole p pages is in
    sym (not_place pages a (records_of l) log.chain
    (ap (λ n. is_place n a.page a.at) (whole.many ∙ sym c.count.ensures) ∙ ap (is_place c.count.result a.page) (sym c.from.ensures) ∙ sym c.is_place.ensures ∙ c.if-not-is_place.true))

pub returns-then-from-end-clause-value : goal.returns-then-from-end-clause-value
returns-then-from-end-clause-value g c = λ pages l is same log has.
    let a = address_of c.args.a in
    let end = told_is (λ ps. c.in_ok-end.end ≡ field ps a.page 50 2) _ pages is c.in_ok-end.ensures.value in
    let t = c.if-from-end.true in
    sym (past_end pages l a log has (omega (arith, end, t, c.from-2.ensures)))

pub boundary-requires-clause-may : goal.boundary-requires-clause-may
boundary-requires-clause-may g c =
    let page = c.args.a.page.0 in
    may_within (page ∷ []) (page ∷ []) 0 0 0 0 0 0 c.args.p.now c.read_field.new.p (λ n is. is) (lit≤ tt) (lit≤ tt) c.requires.may c.read_field.ensures.uses

pub returns-then-place-from-clause-value : goal.returns-then-place-from-clause-value
returns-then-place-from-clause-value g c = λ pages l is same log has.
    let a = address_of c.args.a in
    let end = told_is (λ ps. c.in_ok-end.end ≡ field ps a.page 50 2) _ pages is c.in_ok-end.ensures.value in
    let e = c.if-from-end.false in
    let t = c.if-place-from.true in
    sym (walk_past pages l a c.in_ok-place.place (c.in_ok-place.ensures.value pages l (c.read_field.ensures.told ∙ is) same log has (omega (arith, end, e, c.from-2.ensures))) (omega (arith, t, c.from-3.ensures)))

pub record_there-requires-clause-may : goal.record_there-requires-clause-may
record_there-requires-clause-may g c =
    let page = c.args.a.page.0 in
    may_within (page ∷ []) (page ∷ []) 0 0 0 0 0 0 c.args.p.now c.boundary.new.p (λ n is. is) (lit≤ tt) (lit≤ tt) c.requires.may
    (uses_within g.P.Pages.stays_on (page ∷ []) (page ∷ []) 0 0 0 0 c.args.p.now c.read_field.new.p c.boundary.new.p (λ n is. is) c.read_field.ensures.uses c.boundary.ensures.uses)

pub returns-in_err-rec-clause-uses : goal.returns-in_err-rec-clause-uses
returns-in_err-rec-clause-uses g c =
    let page = c.args.a.page.0 in
    uses_within g.P.Pages.stays_on (page ∷ []) (page ∷ []) 0 0 0 0 c.args.p.now c.boundary.new.p c.record_there.new.p (λ n is. is)
    (uses_within g.P.Pages.stays_on (page ∷ []) (page ∷ []) 0 0 0 0 c.args.p.now c.read_field.new.p c.boundary.new.p (λ n is. is) c.read_field.ensures.uses c.boundary.ensures.uses) c.record_there.ensures.uses

pub returns-clause-uses : goal.returns-clause-uses
returns-clause-uses g c =
    let page = c.args.a.page.0 in
    uses_within g.P.Pages.stays_on (page ∷ []) (page ∷ []) 0 0 0 0 c.args.p.now c.boundary.new.p c.record_there.new.p (λ n is. is)
    (uses_within g.P.Pages.stays_on (page ∷ []) (page ∷ []) 0 0 0 0 c.args.p.now c.read_field.new.p c.boundary.new.p (λ n is. is) c.read_field.ensures.uses c.boundary.ensures.uses) c.record_there.ensures.uses

pub returns-in_err-rec-clause-never : goal.returns-in_err-rec-clause-never
returns-in_err-rec-clause-never g c = λ pages l is same log has.
    let a = address_of c.args.a in
    let end = told_is (λ ps. c.in_ok-end.end ≡ field ps a.page 50 2) _ pages is c.in_ok-end.ensures.value in
    let e = c.if-from-end.false in
    let low : a.at < end_field pages a.page = omega (arith, end, e, c.from-2.ensures) in
    let w = c.in_ok-place.ensures.value pages l (c.read_field.ensures.told ∙ is) same log has low in
    let f = c.if-place-from.false in
    let b = c.in_ok-place.ensures.behind in
    let n = walk_here pages l a c.in_ok-place.place w (omega (arith, f, b, c.from-3.ensures)) low log in
    handed_on c.record_there.result _ _ (c.record_there.ensures.never pages n.undo n.previous (c.boundary.ensures.told ∙ c.read_field.ensures.told ∙ is) n.stands) c.in_err-rec.was c.from_residual-in_err-rec.ensures

pub returns-clause-value : goal.returns-clause-value
returns-clause-value g c = λ pages l is same log has.
    let a = address_of c.args.a in
    let end = told_is (λ ps. c.in_ok-end.end ≡ field ps a.page 50 2) _ pages is c.in_ok-end.ensures.value in
    let e = c.if-from-end.false in
    let low : a.at < end_field pages a.page = omega (arith, end, e, c.from-2.ensures) in
    let w = c.in_ok-place.ensures.value pages l (c.read_field.ensures.told ∙ is) same log has low in
    let f = c.if-place-from.false in
    let b = c.in_ok-place.ensures.behind in
    let n = walk_here pages l a c.in_ok-place.place w (omega (arith, f, b, c.from-3.ensures)) low log in
    let r = c.in_ok-rec.ensures.value pages n.undo n.previous (c.boundary.ensures.told ∙ c.read_field.ensures.told ∙ is) n.stands in
    ap (λ (x : Rattle.undo_model.specs.Data.Record). Some x.number) r ∙ sym n.number
