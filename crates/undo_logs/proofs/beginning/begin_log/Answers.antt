use Rattle.std.proofs.Common.{[], ◌∷◌, lit≤}
use Rattle.page_model.proofs.StepLemmas.{may_within, may_name, within_one, uses_bound}
use Rattle.file_lists.specs.Near.{near_front}
use Rattle.file_lists.proofs.LinkLemmas.{handed_on}
use Rattle.file_lists.proofs.NearLemmas.{may_front, front_few}
use Rattle.undo_model.specs.LogLists.{active_base}
use Rattle.undo_logs.proofs.UseLemmas.{begin1, begin2, begin3, begin2_all}
use Rattle.undo_logs.proofs.BeginLemmas.{log_begun, log_begins}
use Rattle.undo_logs.proofs.beginning.begin_log.Goals as goal

pub start_log-requires-clause-may : goal.start_log-requires-clause-may
start_log-requires-clause-may g c =
    let page = c.in_ok-page.page.0 in
    may_within (page ∷ 0 ∷ []) (page ∷ []) 1 204 0 21 0 115 c.args.p.now c.take.new.p (within_one page (0 ∷ [])) (lit≤ tt) (lit≤ tt) (may_name page (0 ∷ []) 1 204 _ c.requires.may)
    (begin1 g.P.Pages.stays_on page _ _ c.take.ensures.uses)

pub returns-in_err-start_log-clause-uses : goal.returns-in_err-start_log-clause-uses
returns-in_err-start_log-clause-uses g c = begin2_all g.P.Pages.stays_on c.in_ok-page.page.0 _ _ _ c.take.ensures.uses c.start_log.ensures.uses

pub add_first-requires-clause-may : goal.add_first-requires-clause-may
add_first-requires-clause-may g c =
    let page = c.in_ok-page.page.0 in
    may_front (g.P.Pages.state c.start_log.new.p) active_base (page ∷ 0 ∷ []) 68
    (may_within (page ∷ 0 ∷ []) (page ∷ 0 ∷ []) 1 204 0 136 1 68 c.args.p.now c.start_log.new.p (λ n is. is) (lit≤ tt) (lit≤ tt) (may_name page (0 ∷ []) 1 204 _ c.requires.may)
    (begin2 g.P.Pages.stays_on page _ _ _ c.take.ensures.uses c.start_log.ensures.uses))

pub returns-in_err-add_first-clause-uses : goal.returns-in_err-add_first-clause-uses
returns-in_err-add_first-clause-uses g c =
    let page = c.in_ok-page.page.0 in
    let s = g.P.Pages.state c.start_log.new.p in
    begin3 g.P.Pages.stays_on page _ _ _ _ c.take.ensures.uses c.start_log.ensures.uses (uses_bound (near_front s active_base) (page ∷ 0 ∷ []) 1 68 _ _ (front_few s active_base) c.add_first.ensures.uses)

pub returns-clause-uses : goal.returns-clause-uses
returns-clause-uses g c =
    let page = c.in_ok-page.page.0 in
    let s = g.P.Pages.state c.start_log.new.p in
    begin3 g.P.Pages.stays_on page _ _ _ _ c.take.ensures.uses c.start_log.ensures.uses (uses_bound (near_front s active_base) (page ∷ 0 ∷ []) 1 68 _ _ (front_few s active_base) c.add_first.ensures.uses)

pub returns-clause-begins : goal.returns-clause-begins
returns-clause-begins g c = λ pages is can covered.
    log_begun _ _ _ pages c.in_ok-page.page.0 c.args.trx.0 c.take.new.self can (c.in_ok-page.ensures.takes pages is can.map covered) c.in_ok-start_log.ensures.starts c.in_ok-add_first.ensures.adds

pub returns-in_err-add_first-clause-never : goal.returns-in_err-add_first-clause-never
returns-in_err-add_first-clause-never g c = λ pages is can covered.
    handed_on c.add_first.result _ _ (log_begins _ _ pages c.in_ok-page.page.0 c.args.trx.0 c.take.new.self can (c.in_ok-page.ensures.takes pages is can.map covered) c.in_ok-start_log.ensures.starts c.add_first.ensures.never)
    c.in_err-add_first.was c.from_residual-in_err-add_first.ensures
