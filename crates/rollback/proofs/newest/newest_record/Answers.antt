use Rattle.std.proofs.Common.{[], ◌∷◌, Some, sym, ap, subst, ◌∙◌, lit≤}
use Rattle.page_model.specs.Pages.{AreWhole}
use Rattle.page_model.proofs.StepLemmas.{may_other, uses_other}
use Rattle.engine_base.specs.Addresses.{address_of}
use Rattle.file_lists.proofs.LinkLemmas.{handed_on}
use Rattle.undo_model.specs.Data.{Record}
use Rattle.store_parts.specs.Shows.{record_of}
use Rattle.rollback.proofs.LogLemmas.{active_log, page_is}
use Rattle.rollback.proofs.NewestLemmas.{newest_leads, newest_some, newest_fits, not_purging, place_is, undo_is, same_place, ok_not}
use Rattle.rollback.proofs.newest.newest_record.Goals as goal

pub returns-in_err-roll-clause-never : goal.returns-in_err-roll-clause-never
returns-in_err-roll-clause-never g c = λ s is.
    let log = c.args.log.0 in
    let a = active_log _ log s is in
    handed_on c.last.result _ _
    (c.last.ensures.never a.log (page_is _ log s is) (not_purging s a) s.pages is.told' a.room.stands)
    c.in_err-roll.was c.from_residual.ensures

pub returns-in_default-clause-never : goal.returns-in_default-clause-never
returns-in_default-clause-never g c = λ s is.
    let log = c.args.log.0 in
    let a = active_log _ log s is in
    newest_some s a _ c.in_default.is
    (c.in_ok-roll.ensures.value a.log (page_is _ log s is) (not_purging s a) s.pages is.told' a.room.stands)

pub returns-in_err-place-clause-never : goal.returns-in_err-place-clause-never
returns-in_err-place-clause-never g c = λ s is.
    let log = c.args.log.0 in
    let a = active_log _ log s is in
    let leads = newest_leads s a c.in-Some.roll _ c.in-Some.is
    (c.in_ok-roll.ensures.value a.log (page_is _ log s is) (not_purging s a) s.pages is.told' a.room.stands) in
    let whole = subst (AreWhole s.pages) (sym c.count-count.ensures)
    (g.P.Pages.whole c.args.p.now s.pages is.told') in
    absurd (ok_not c.record_place.result _ c.in_err-place.was
    (c.record_place.ensures.never a.newest'.entry.at leads (newest_fits s a _ whole)))

pub at-requires-clause-may : goal.at-requires-clause-may
at-requires-clause-may g c = λ a leads.
    may_other (c.args.log.0 ∷ []) a.page 2 0 1 0 0 c.args.p.now c.last.new.p (lit≤ tt) (lit≤ tt)
    c.requires.may c.last.ensures.uses

pub returns-in_err-rec-clause-never : goal.returns-in_err-rec-clause-never
returns-in_err-rec-clause-never g c = λ s is.
    let log = c.args.log.0 in
    let a = active_log _ log s is in
    let leads = newest_leads s a c.in-Some.roll _ c.in-Some.is
    (c.in_ok-roll.ensures.value a.log (page_is _ log s is) (not_purging s a) s.pages is.told' a.room.stands) in
    handed_on c.at.result _ _
    (c.at.ensures.never s.pages a.newest'.entry.at a.newest'.entry.undo _ (c.last.ensures.told ∙ is.told')
    leads a.there) c.in_err-rec.was c.from_residual-in_err-rec.ensures

pub returns-in_err-rec-clause-uses : goal.returns-in_err-rec-clause-uses
returns-in_err-rec-clause-uses g c =
    let a = address_of c.in_ok-place.place in
    uses_other g.P.Pages.stays_on (c.args.log.0 ∷ []) a.page 1 0 0 c.args.p.now c.last.new.p
    c.at.new.p c.last.ensures.uses (c.at.ensures.uses a c.in_ok-place.ensures.leads)

pub returns-clause-value : goal.returns-clause-value
returns-clause-value g c = λ s is.
    let log = c.args.log.0 in
    let a = active_log _ log s is in
    let leads = newest_leads s a c.in-Some.roll _ c.in-Some.is
    (c.in_ok-roll.ensures.value a.log (page_is _ log s is) (not_purging s a) s.pages is.told' a.room.stands) in
    let r = c.in_ok-rec.ensures.value s.pages a.newest'.entry.at a.newest'.entry.undo _
    (c.last.ensures.told ∙ is.told') leads a.there in (
      same_place (address_of c.in_ok-place.place) s.place c.in-Some.roll.0 c.in_ok-place.ensures.leads
          (leads ∙ ap (λ x. Some x) (place_is s a)),
      ap (λ (u : Record). record_of u) r ∙ undo_is s a,
    )

pub returns-clause-uses : goal.returns-clause-uses
returns-clause-uses g c =
    let a = address_of c.in_ok-place.place in
    uses_other g.P.Pages.stays_on (c.args.log.0 ∷ []) a.page 1 0 0 c.args.p.now c.last.new.p
    c.at.new.p c.last.ensures.uses (c.at.ensures.uses a c.in_ok-place.ensures.leads)
