use Rattle.std.proofs.Common.{[], ◌∷◌, lit≤}
use Rattle.page_model.proofs.StepLemmas.{may_within, uses_within, uses_at_most, within_one, within_two}
use Rattle.engine_base.specs.Addresses.{address_of}
use Rattle.undo_logs.proofs.UseLemmas.{begin}
use Rattle.undo_logs.proofs.CutLemmas.{cut_told}
use Rattle.undo_logs.proofs.cutting.cut_end.Goals as goal

pub write_address-requires-clause-may : goal.write_address-requires-clause-may
write_address-requires-clause-may g c =
    let page = c.args.at.page.0 in
    let log = c.args.log.0 in
    may_within (page ∷ log ∷ []) (log ∷ []) 0 24 0 10 0 14 c.args.p.now c.write_field.new.p (within_two page log []) (lit≤ tt) (lit≤ tt) c.requires.may
    (begin (page ∷ log ∷ []) (page ∷ []) 0 10 c.args.p.now c.write_field.new.p (within_one page (log ∷ [])) c.write_field.ensures.uses)

pub returns-in_err-write_address-clause-uses : goal.returns-in_err-write_address-clause-uses
returns-in_err-write_address-clause-uses g c =
    let page = c.args.at.page.0 in
    let log = c.args.log.0 in
    uses_within g.P.Pages.stays_on (page ∷ log ∷ []) (log ∷ []) 0 10 0 14 c.args.p.now c.write_field.new.p c.write_address.new.p (within_two page log [])
    (begin (page ∷ log ∷ []) (page ∷ []) 0 10 c.args.p.now c.write_field.new.p (within_one page (log ∷ [])) c.write_field.ensures.uses) c.write_address.ensures.uses

pub returns-in_err-write_field-clause-uses : goal.returns-in_err-write_field-clause-uses
returns-in_err-write_field-clause-uses g c =
    let page = c.args.at.page.0 in
    let log = c.args.log.0 in
    uses_at_most (page ∷ log ∷ []) 0 10 0 24 c.args.p.now c.write_field.new.p (lit≤ tt) (lit≤ tt)
    (begin (page ∷ log ∷ []) (page ∷ []) 0 10 c.args.p.now c.write_field.new.p (within_one page (log ∷ [])) c.write_field.ensures.uses)

pub returns-clause-uses : goal.returns-clause-uses
returns-clause-uses g c =
    let page = c.args.at.page.0 in
    let log = c.args.log.0 in
    uses_within g.P.Pages.stays_on (page ∷ log ∷ []) (log ∷ []) 0 10 0 14 c.args.p.now c.write_field.new.p c.write_address.new.p (within_two page log [])
    (begin (page ∷ log ∷ []) (page ∷ []) 0 10 c.args.p.now c.write_field.new.p (within_one page (log ∷ [])) c.write_field.ensures.uses) c.write_address.ensures.uses

pub returns-clause-cuts : goal.returns-clause-cuts
returns-clause-cuts g c =
    cut_told c.args.log.0 (address_of c.args.at) (address_of c.args.previous) c.from.result _ _ _ c.from.ensures c.in_ok-write_field.ensures.sets c.in_ok-write_address.ensures.sets
