use Rattle.std.proofs.Common.{[], ◌∷◌, Option, Some, None, sym, ap₂, subst, ◌∙◌, lit≤}
use Rattle.page_model.specs.Pages.{Address, AreWhole}
use Rattle.page_model.proofs.StepLemmas.{may_other, uses_other}
use Rattle.engine_base.specs.Addresses.{address_of}
use Rattle.file_lists.proofs.LinkLemmas.{handed_on}
use Rattle.store_parts.specs.Shows.{record_of}
use Rattle.undo_model.specs.Data.{Record as RecordThere}
use Rattle.undo_records.specs.declared.ids.RollPtr.{RollPtr}
use Rattle.undo_logs.specs.Reads.{number_of, IsDue}
use Rattle.purge.proofs.LogLemmas.{at_first, page_is}
use Rattle.purge.proofs.DueLemmas.{nothing, leads_to, roll_of, has_next, due_fits, some_not, roll_leads, same_place, ok_not}
use Rattle.purge.proofs.due.record_due.Goals as goal

pub returns-in_err-roll-clause-never : goal.returns-in_err-roll-clause-never
returns-in_err-roll-clause-never g c = λ there pages store l ls at.
    let log = c.args.log.0 in
    let f = at_first _ log there pages store l ls at in
    handed_on c.next_to_purge.result _ _
    (c.next_to_purge.ensures.never f.log (page_is _ log there pages store l ls at) f.state pages
    at.told' f.stands (has_next there pages store l f)) c.in_err-roll.was c.from_residual.ensures

pub returns-in_default-clause-value : goal.returns-in_default-clause-value
returns-in_default-clause-value g c = λ there pages store l ls at.
    let log = c.args.log.0 in
    let f = at_first _ log there pages store l ls at in
    let is = c.in_ok-roll.ensures.value f.log (page_is _ log there pages store l ls at) f.state pages
    at.told' f.stands in
    let D : Option RollPtr → Type 0 = λ o. IsDue pages f.log.next (number_of o) in
    elim (roll_of there pages store l f None (subst D c.in_default.is is)) [
      | nothing gone e ↦ gone
      | leads_to d n e leads ↦ absurd (some_not n e)
    ]

pub returns-in_err-place-clause-never : goal.returns-in_err-place-clause-never
returns-in_err-place-clause-never g c = λ there pages store l ls at.
    let log = c.args.log.0 in
    let f = at_first _ log there pages store l ls at in
    let is = c.in_ok-roll.ensures.value f.log (page_is _ log there pages store l ls at) f.state pages
    at.told' f.stands in
    let D : Option RollPtr → Type 0 = λ o. IsDue pages f.log.next (number_of o) in
    let roll = c.in-Some.roll.0 in
    let whole = subst (AreWhole pages) (sym c.count-count.ensures)
    (g.P.Pages.whole c.args.p.now pages at.told') in
    elim (roll_of there pages store l f (Some roll) (subst D c.in-Some.is is)) [
      | nothing gone e ↦ absurd (some_not roll (sym e))
      | leads_to d n e leads ↦ absurd (ok_not c.record_place.result _ c.in_err-place.was
          (c.record_place.ensures.never d.entry.at (roll_leads roll n _ e leads)
          (due_fits pages _ f.log l.records whole d)))
    ]

pub at-requires-clause-may : goal.at-requires-clause-may
at-requires-clause-may g c = λ a leads.
    may_other (c.args.log.0 ∷ []) a.page 2 0 1 0 0 c.args.p.now c.next_to_purge.new.p (lit≤ tt) (lit≤ tt)
    c.requires.may c.next_to_purge.ensures.uses

pub returns-in_err-rec-clause-never : goal.returns-in_err-rec-clause-never
returns-in_err-rec-clause-never g c = λ there pages store l ls at.
    let log = c.args.log.0 in
    let f = at_first _ log there pages store l ls at in
    let is = c.in_ok-roll.ensures.value f.log (page_is _ log there pages store l ls at) f.state pages
    at.told' f.stands in
    let D : Option RollPtr → Type 0 = λ o. IsDue pages f.log.next (number_of o) in
    let roll = c.in-Some.roll.0 in
    elim (roll_of there pages store l f (Some roll) (subst D c.in-Some.is is)) [
      | nothing gone e ↦ absurd (some_not roll (sym e))
      | leads_to d n e leads ↦ handed_on c.at.result _ _
          (c.at.ensures.never pages d.entry.at d.entry.undo _ (c.next_to_purge.ensures.told ∙ at.told')
          (roll_leads roll n _ e leads) d.there) c.in_err-rec.was c.from_residual-in_err-rec.ensures
    ]

pub returns-in_err-rec-clause-uses : goal.returns-in_err-rec-clause-uses
returns-in_err-rec-clause-uses g c =
    let a = address_of c.in_ok-place.place in
    uses_other g.P.Pages.stays_on (c.args.log.0 ∷ []) a.page 1 0 0 c.args.p.now c.next_to_purge.new.p
    c.at.new.p c.next_to_purge.ensures.uses (c.at.ensures.uses a c.in_ok-place.ensures.leads)

pub returns-clause-value : goal.returns-clause-value
returns-clause-value g c = λ there pages store l ls at.
    let log = c.args.log.0 in
    let f = at_first _ log there pages store l ls at in
    let is = c.in_ok-roll.ensures.value f.log (page_is _ log there pages store l ls at) f.state pages
    at.told' f.stands in
    let D : Option RollPtr → Type 0 = λ o. IsDue pages f.log.next (number_of o) in
    let roll = c.in-Some.roll.0 in
    elim (roll_of there pages store l f (Some roll) (subst D c.in-Some.is is)) [
      | nothing gone e ↦ absurd (some_not roll (sym e))
      | leads_to d n e leads ↦
          let here = roll_leads roll n _ e leads in
          let a = same_place d.entry.at (address_of c.in_ok-place.place) roll here
          c.in_ok-place.ensures.leads in
          let r = c.in_ok-rec.ensures.value pages d.entry.at d.entry.undo _
          (c.next_to_purge.ensures.told ∙ at.told') here d.there in
          d.last ∙ ap₂ (λ (x : Address) (u : RecordThere). (x, record_of u) ∷ []) a (sym r)
    ]

pub returns-clause-uses : goal.returns-clause-uses
returns-clause-uses g c =
    let a = address_of c.in_ok-place.place in
    uses_other g.P.Pages.stays_on (c.args.log.0 ∷ []) a.page 1 0 0 c.args.p.now c.next_to_purge.new.p
    c.at.new.p c.next_to_purge.ensures.uses (c.at.ensures.uses a c.in_ok-place.ensures.leads)
