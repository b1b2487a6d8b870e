use Rattle.std.proofs.Common.{[], ◌∷◌, lit≤}
use Rattle.page_model.proofs.StepLemmas.{may_less, may_within, uses_more, within_one, within_two}
use Rattle.undo_logs.proofs.PurgedLemmas.{passed_uses}
use Rattle.undo_logs.proofs.purged.is_passed.Goals as goal

pub number_due-requires-clause-may : goal.number_due-requires-clause-may
number_due-requires-clause-may g c =
    let page = c.args.a.page.0 in
    let log = c.args.log.0 in
    may_less (page ∷ log ∷ []) (log ∷ []) 1 1 0 0 _ c.requires.may (within_two page log []) (lit≤ tt) (lit≤ tt)

pub returns-in_err-due-clause-uses : goal.returns-in_err-due-clause-uses
returns-in_err-due-clause-uses g c =
    let page = c.args.a.page.0 in
    let log = c.args.log.0 in
    uses_more (log ∷ []) (page ∷ log ∷ []) 1 1 0 0 _ _ c.number_due.ensures.uses (within_two page log []) (lit≤ tt) (lit≤ tt)

pub returns-in_default-clause-uses : goal.returns-in_default-clause-uses
returns-in_default-clause-uses g c =
    let page = c.args.a.page.0 in
    let log = c.args.log.0 in
    uses_more (log ∷ []) (page ∷ log ∷ []) 1 1 0 0 _ _ c.number_due.ensures.uses (within_two page log []) (lit≤ tt) (lit≤ tt)

pub number_there-requires-clause-may : goal.number_there-requires-clause-may
number_there-requires-clause-may g c =
    let page = c.args.a.page.0 in
    let log = c.args.log.0 in
    may_within (page ∷ log ∷ []) (page ∷ []) 1 0 1 0 0 0 c.args.p.now c.number_due.new.p (within_one page (log ∷ [])) (lit≤ tt) (lit≤ tt) c.requires.may
    (uses_more (log ∷ []) (page ∷ log ∷ []) 1 1 0 0 _ _ c.number_due.ensures.uses (within_two page log []) (lit≤ tt) (lit≤ tt))

pub returns-in_err-number-clause-uses : goal.returns-in_err-number-clause-uses
returns-in_err-number-clause-uses g c = passed_uses g.P.Pages.stays_on c.args.a.page.0 c.args.log.0 _ _ _ c.number_due.ensures.uses c.number_there.ensures.uses

pub returns-in-Some-2-clause-uses : goal.returns-in-Some-2-clause-uses
returns-in-Some-2-clause-uses g c = passed_uses g.P.Pages.stays_on c.args.a.page.0 c.args.log.0 _ _ _ c.number_due.ensures.uses c.number_there.ensures.uses

pub returns-in-None-clause-uses : goal.returns-in-None-clause-uses
returns-in-None-clause-uses g c = passed_uses g.P.Pages.stays_on c.args.a.page.0 c.args.log.0 _ _ _ c.number_due.ensures.uses c.number_there.ensures.uses
