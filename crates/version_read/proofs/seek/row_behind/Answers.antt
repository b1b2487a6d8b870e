use Rattle.std.proofs.Common.{◌≡◌, [], None, option_map, refl, sym, ap, subst, ◌∙◌}
use Rattle.page_model.specs.Pages.{AreWhole}
use Rattle.page_model.proofs.StepLemmas.{uses_unnamed}
use Rattle.engine_base.specs.Addresses.{address_of}
use Rattle.undo_model.specs.Data.{led}
use Rattle.read_model.specs.OfStore.{document}
use Rattle.read_views.specs.Flights.{row_in}
use Rattle.version_read.proofs.SeekLemmas.{behind_row, seek_leads_there, seek_leads_on}
use Rattle.version_read.proofs.seek.row_behind.Goals as goal

pub returns-in_err-place-clause-never : goal.returns-in_err-place-clause-never
returns-in_err-place-clause-never g c = λ pages store d sees shown reading unseen.
    let whole = subst (AreWhole pages) (sym c.count.ensures)
    (g.P.Pages.whole c.args.p.now pages reading.told') in
    absurd (seek_leads_there pages sees (document store d) shown (row_in c.args.row)
    c.count.result c.args.row.roll.0
    (behind_row _ pages store d sees shown (row_in c.args.row) reading unseen) refl whole
    c.in_err-place.ensures.strange.1)

pub returns-in_default-clause-never : goal.returns-in_default-clause-never
returns-in_default-clause-never g c = λ pages store d sees shown reading unseen.
    let none : led c.args.row.roll.0 ≡ None =
    sym c.in_ok-place.ensures.leads ∙ ap (option_map address_of) c.in_default.is in
    absurd (seek_leads_on pages sees (document store d) shown (row_in c.args.row)
    (behind_row _ pages store d sees shown (row_in c.args.row) reading unseen) none)

pub returns-clause-uses : goal.returns-clause-uses
returns-clause-uses g c =
    uses_unnamed c.in-Some.place.page.0 [] 0 0 _ _ c.row_before.ensures.uses
