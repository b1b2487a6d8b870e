use Rattle.std.proofs.Common.{[], ◌∷◌, lit≤, arith}
use Rattle.page_model.proofs.StepLemmas.{may_within, may_other, uses_at_most}
use Rattle.undo_logs.proofs.UseLemmas.{place1, place2, place2_named, place3, place3_named, swap}
use Rattle.undo_logs.proofs.TellLemmas.{place_here, place_new}
use Rattle.undo_logs.proofs.appending.place.Goals as goal

pub read_field-requires-clause-may : goal.read_field-requires-clause-may
read_field-requires-clause-may g c = may_other (c.args.log.0 ∷ 0 ∷ []) c.in_ok-page.page.0 3 153 0 0 0 c.args.p.now c.newest_page.new.p (lit≤ tt) (lit≤ tt) c.requires.may
    (place1 g.P.Pages.stays_on c.args.log.0 0 _ _ c.newest_page.ensures.uses)

pub returns-in_err-end-clause-uses : goal.returns-in_err-end-clause-uses
returns-in_err-end-clause-uses g c = uses_at_most (c.args.log.0 ∷ 0 ∷ []) 1 0 3 153 c.args.p.now c.read_field.new.p (lit≤ tt) (lit≤ tt)
    (place2 g.P.Pages.stays_on c.args.log.0 c.in_ok-page.page.0 _ _ _ c.newest_page.ensures.uses c.read_field.ensures.uses)

pub returns-then-end-size-clause-uses : goal.returns-then-end-size-clause-uses
returns-then-end-size-clause-uses g c = uses_at_most (c.args.log.0 ∷ 0 ∷ []) 1 0 3 153 c.args.p.now c.read_field.new.p (lit≤ tt) (lit≤ tt)
    (place2 g.P.Pages.stays_on c.args.log.0 c.in_ok-page.page.0 _ _ _ c.newest_page.ensures.uses c.read_field.ensures.uses)

pub open_page-requires-clause-may : goal.open_page-requires-clause-may
open_page-requires-clause-may g c = may_within (c.args.log.0 ∷ 0 ∷ []) (0 ∷ c.args.log.0 ∷ []) 3 153 1 0 2 153 c.args.p.now c.read_field.new.p (swap c.args.log.0 0) (lit≤ tt) (lit≤ tt) c.requires.may
    (place2 g.P.Pages.stays_on c.args.log.0 c.in_ok-page.page.0 _ _ _ c.newest_page.ensures.uses c.read_field.ensures.uses)

pub returns-in_err-page-2-clause-uses : goal.returns-in_err-page-2-clause-uses
returns-in_err-page-2-clause-uses g c = place3 g.P.Pages.stays_on c.args.log.0 c.in_ok-page.page.0 _ _ _ _ c.newest_page.ensures.uses c.read_field.ensures.uses c.open_page.ensures.uses

pub returns-clause-uses : goal.returns-clause-uses
returns-clause-uses g c = place3 g.P.Pages.stays_on c.args.log.0 c.in_ok-page.page.0 _ _ _ _ c.newest_page.ensures.uses c.read_field.ensures.uses c.open_page.ensures.uses

pub returns-then-end-size-clause-named : goal.returns-then-end-size-clause-named
returns-then-end-size-clause-named g c = place2_named g.P.Pages.stays_on c.args.log.0 c.in_ok-page.page.0 _ _ _ c.newest_page.ensures.uses c.read_field.ensures.uses

pub returns-clause-named : goal.returns-clause-named
returns-clause-named g c = place3_named g.P.Pages.stays_on c.args.log.0 c.in_ok-page.page.0 _ c.in_ok-page-2.page.0 _ _ _ c.newest_page.ensures.uses c.read_field.ensures.uses c.in_ok-page-2.ensures.named

pub returns-then-end-size-clause-places : goal.returns-then-end-size-clause-places
returns-then-end-size-clause-places g c = λ pages l is same can covered.
    place_here _ _ _ pages l c.args.size c.in_ok-page.page.0 c.in_ok-end.end _ is c.newest_page.ensures.told c.read_field.ensures.told can covered
    (c.in_ok-page.ensures.value l same pages is can.stands) c.in_ok-end.ensures.value (omega (arith, c.from.ensures, c.if-end-size.true))

pub returns-clause-places : goal.returns-clause-places
returns-clause-places g c = λ pages l is same can covered.
    place_new _ _ _ _ pages l c.args.size c.in_ok-page-2.page.0 c.args.log.0 _ _ is same c.newest_page.ensures.told c.read_field.ensures.told can covered c.in_ok-page-2.ensures.opens c.requires.small
