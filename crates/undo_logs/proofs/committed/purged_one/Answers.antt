use Rattle.std.proofs.Common.{◌+◌, [], ◌∷◌, lit≤, arith, ap, ◌∙◌}
use Rattle.page_model.specs.Pages.{Address}
use Rattle.page_model.specs.Lists.{or_null}
use Rattle.page_model.proofs.StepLemmas.{may_within, may_name, uses_at_most, uses_unnamed, within_one, within_two}
use Rattle.engine_base.specs.Addresses.{address_of}
use Rattle.file_lists.proofs.LinkLemmas.{handed_on}
use Rattle.undo_model.specs.LogSteps.{oldest}
use Rattle.undo_logs.proofs.PurgeLemmas.{due_is, size_is, cut_behind, passed_told, pass1, pass2, pass3, pass4}
use Rattle.undo_logs.proofs.committed.purged_one.Goals as goal

pub read_field-requires-clause-may : goal.read_field-requires-clause-may
read_field-requires-clause-may g c =
    let page = c.in_ok-a.a.page.0 in
    let log = c.args.log.0 in
    may_within (page ∷ log ∷ []) (page ∷ []) 0 14 0 0 0 0 c.args.p.now c.due_place.new.p (within_one page (log ∷ [])) (lit≤ tt) (lit≤ tt) (may_name page (log ∷ []) 0 14 _ c.requires.may) (pass1 g.P.Pages.stays_on page log _ _ c.due_place.ensures.uses)

pub returns-in_err-size-clause-uses : goal.returns-in_err-size-clause-uses
returns-in_err-size-clause-uses g c =
    let page = c.in_ok-a.a.page.0 in
    let log = c.args.log.0 in
    uses_at_most (log ∷ []) 1 0 1 14 _ _ (lit≤ tt) (lit≤ tt) (uses_unnamed page (log ∷ []) 0 0 _ _ (pass2 g.P.Pages.stays_on page log _ _ _ c.due_place.ensures.uses c.read_field.ensures.uses))

pub record_from-requires-clause-may : goal.record_from-requires-clause-may
record_from-requires-clause-may g c =
    let page = c.in_ok-a.a.page.0 in
    let log = c.args.log.0 in
    may_within (page ∷ log ∷ []) (page ∷ []) 0 14 0 0 0 0 c.args.p.now c.read_field.new.p (within_one page (log ∷ [])) (lit≤ tt) (lit≤ tt) (may_name page (log ∷ []) 0 14 _ c.requires.may)
    (pass2 g.P.Pages.stays_on page log _ _ _ c.due_place.ensures.uses c.read_field.ensures.uses)

pub returns-in_err-to-clause-uses : goal.returns-in_err-to-clause-uses
returns-in_err-to-clause-uses g c =
    let page = c.in_ok-a.a.page.0 in
    let log = c.args.log.0 in
    uses_at_most (log ∷ []) 1 0 1 14 _ _ (lit≤ tt) (lit≤ tt) (uses_unnamed page (log ∷ []) 0 0 _ _ (pass3 g.P.Pages.stays_on page log _ _ _ _ c.due_place.ensures.uses c.read_field.ensures.uses c.record_from.ensures.uses))

pub write_address-requires-clause-may : goal.write_address-requires-clause-may
write_address-requires-clause-may g c =
    let page = c.in_ok-a.a.page.0 in
    let log = c.args.log.0 in
    may_within (page ∷ log ∷ []) (log ∷ []) 0 14 0 0 0 14 c.args.p.now c.record_from.new.p (within_two page log []) (lit≤ tt) (lit≤ tt) (may_name page (log ∷ []) 0 14 _ c.requires.may)
    (pass3 g.P.Pages.stays_on page log _ _ _ _ c.due_place.ensures.uses c.read_field.ensures.uses c.record_from.ensures.uses)

pub returns-in_err-write_address-clause-uses : goal.returns-in_err-write_address-clause-uses
returns-in_err-write_address-clause-uses g c =
    pass4 g.P.Pages.stays_on c.in_ok-a.a.page.0 c.args.log.0 _ _ _ _ _ c.due_place.ensures.uses c.read_field.ensures.uses c.record_from.ensures.uses c.write_address.ensures.uses

pub returns-clause-uses : goal.returns-clause-uses
returns-clause-uses g c =
    pass4 g.P.Pages.stays_on c.in_ok-a.a.page.0 c.args.log.0 _ _ _ _ _ c.due_place.ensures.uses c.read_field.ensures.uses c.record_from.ensures.uses c.write_address.ensures.uses

pub returns-in_err-to-clause-never : goal.returns-in_err-to-clause-never
returns-in_err-to-clause-never g c = λ pages l xs e ys is same stands state records next.
    let log = c.args.log.0 in
    let a = address_of c.in_ok-a.a in
    let here = due_is pages l log xs e ys _ a is same stands state records next c.in_ok-a.ensures.value in
    let told = c.due_place.ensures.told ∙ is in
    let size = size_is pages l log xs e ys _ a told same stands state records next c.in_ok-size.size here c.in_ok-size.ensures.value in
    let at = ap (λ (x : Address). x.at) here in
    let cut = cut_behind pages l log xs e ys _ a is same stands state records next (c.from.result + c.in_ok-size.size) here (omega (arith, c.from.ensures, size, at)) in
    handed_on c.record_from.result _ _ (c.record_from.ensures.never pages l (c.read_field.ensures.told ∙ told) cut.cut) c.in_err-to.was c.from_residual-in_err-to.ensures

pub returns-clause-passes : goal.returns-clause-passes
returns-clause-passes g c = λ pages l xs e ys is same stands state records next.
    let log = c.args.log.0 in
    let a = address_of c.in_ok-a.a in
    let here = due_is pages l log xs e ys _ a is same stands state records next c.in_ok-a.ensures.value in
    let told = c.due_place.ensures.told ∙ is in
    let size = size_is pages l log xs e ys _ a told same stands state records next c.in_ok-size.size here c.in_ok-size.ensures.value in
    let at = ap (λ (x : Address). x.at) here in
    let cut = cut_behind pages l log xs e ys _ a is same stands state records next (c.from.result + c.in_ok-size.size) here (omega (arith, c.from.ensures, size, at)) in
    passed_told _ _ pages l log xs e ys (address_of c.in_ok-to.to) (c.record_from.ensures.told ∙ c.read_field.ensures.told ∙ told) same stands state records next
    (c.in_ok-to.ensures.value pages l (c.read_field.ensures.told ∙ told) cut.cut ∙ ap (λ xs'. or_null (oldest xs')) cut.left) c.in_ok-write_address.ensures.sets
