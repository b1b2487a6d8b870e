use Rattle.std.proofs.Common.{ℕ, [], ◌∷◌, subst, lit≤}
use Rattle.page_model.specs.Spans.{SetsField}
use Rattle.page_model.specs.Steps.{Told}
use Rattle.page_model.proofs.StepLemmas.{may_within, uses_within}
use Rattle.engine_base.specs.Addresses.{address_of}
use Rattle.undo_logs.proofs.MarkLemmas.{marked_told}
use Rattle.undo_logs.proofs.committing.mark_committed.Goals as goal

pub write_field-requires-2-clause-may : goal.write_field-requires-2-clause-may
write_field-requires-2-clause-may g c =
    let log = c.args.log.0 in
    may_within (log ∷ []) (log ∷ []) 0 39 0 9 0 16 c.args.p.now c.write_field.new.p (λ n is. is) (lit≤ tt) (lit≤ tt) c.requires.may c.write_field.ensures.uses

pub write_address-requires-clause-may : goal.write_address-requires-clause-may
write_address-requires-clause-may g c =
    let log = c.args.log.0 in
    may_within (log ∷ []) (log ∷ []) 0 39 0 25 0 14 c.args.p.now c.write_field-2.new.p (λ n is. is) (lit≤ tt) (lit≤ tt) c.requires.may
    (uses_within g.P.Pages.stays_on (log ∷ []) (log ∷ []) 0 9 0 16 _ _ _ (λ n is. is) c.write_field.ensures.uses c.write_field-2.ensures.uses)

pub returns-in_err-write_address-clause-uses : goal.returns-in_err-write_address-clause-uses
returns-in_err-write_address-clause-uses g c =
    let log = c.args.log.0 in
    uses_within g.P.Pages.stays_on (log ∷ []) (log ∷ []) 0 25 0 14 _ _ _ (λ n is. is) (uses_within g.P.Pages.stays_on (log ∷ []) (log ∷ []) 0 9 0 16 _ _ _ (λ n is. is) c.write_field.ensures.uses c.write_field-2.ensures.uses) c.write_address.ensures.uses

pub returns-clause-uses : goal.returns-clause-uses
returns-clause-uses g c =
    let log = c.args.log.0 in
    uses_within g.P.Pages.stays_on (log ∷ []) (log ∷ []) 0 25 0 14 _ _ _ (λ n is. is) (uses_within g.P.Pages.stays_on (log ∷ []) (log ∷ []) 0 9 0 16 _ _ _ (λ n is. is) c.write_field.ensures.uses c.write_field-2.ensures.uses) c.write_address.ensures.uses

pub returns-clause-marks : goal.returns-clause-marks
returns-clause-marks g c =
    let s = g.P.Pages.state in
    let log = c.args.log.0 in
    marked_told log c.args.number (address_of c.args.next) _ _ _ _ (subst (λ (n : ℕ). Told (SetsField log 52 1 n) (s c.args.p.now).told (s c.write_field.new.p).told) c.from.ensures c.in_ok-write_field.ensures.sets)
    c.in_ok-write_field-2.ensures.sets c.in_ok-write_address.ensures.sets
