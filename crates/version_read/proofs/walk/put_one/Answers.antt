use Rattle.std.proofs.Common.{◌≡◌, [], Some, option_map, refl, sym, ap, subst, ◌∙◌}
use Rattle.page_model.specs.Pages.{AreWhole}
use Rattle.page_model.proofs.StepLemmas.{uses_unnamed}
use Rattle.engine_base.specs.Addresses.{address_of}
use Rattle.undo_model.specs.Data.{led}
use Rattle.read_model.specs.OfStore.{document}
use Rattle.read_views.specs.Flights.{flight_of, phase_of}
use Rattle.version_read.proofs.WalkLemmas.{on_ok, walk_leads_there, goes_on_put}
use Rattle.version_read.proofs.walk.put_one.Goals as goal

pub returns-in_err-place-clause-never : goal.returns-in_err-place-clause-never
returns-in_err-place-clause-never g c = λ pages store d sees shown reading.
    let whole = subst (AreWhole pages) (sym c.count.ensures)
    (g.P.Pages.whole c.args.p.now pages reading.told') in
    absurd (walk_leads_there _ pages store d sees shown (flight_of c.args.flight.now)
    c.count.result c.args.flight.now.cursor.0 reading (ap phase_of c.requires.phase) refl whole
    c.in_err-place.ensures.strange.1)

pub returns-clause-puts : goal.returns-clause-puts
returns-clause-puts g c = λ pages store d sees shown reading.
    let leads : led c.args.flight.now.cursor.0 ≡ Some (address_of c.in-Some.place) =
    sym c.in_ok-place.ensures.leads ∙ ap (option_map address_of) c.in-Some.is in
    on_ok c.put_next.result _ _ (λ x puts. goes_on_put sees (document store d) shown
    (address_of c.in-Some.place) _ _ leads puts)
    (c.put_next.ensures.puts pages store d sees shown reading)

pub returns-clause-uses : goal.returns-clause-uses
returns-clause-uses g c =
    uses_unnamed c.in-Some.place.page.0 [] 0 0 _ _ c.put_next.ensures.uses
