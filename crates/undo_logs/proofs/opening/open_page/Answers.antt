use Rattle.std.proofs.Common.{[], ◌∷◌, lit≤}
use Rattle.page_model.proofs.StepLemmas.{may_within, may_name, within_one, uses_bound}
use Rattle.file_lists.specs.Near.{near_back}
use Rattle.file_lists.proofs.LinkLemmas.{handed_on}
use Rattle.file_lists.proofs.NearLemmas.{may_back, back_few}
use Rattle.undo_model.specs.Logs.{pages_base}
use Rattle.undo_logs.proofs.UseLemmas.{open1, open2, open3, open3_named, open2_all, skip}
use Rattle.undo_logs.proofs.OpenLemmas.{page_opened, page_opens}
use Rattle.undo_logs.proofs.opening.open_page.Goals as goal

pub start-requires-clause-may : goal.start-requires-clause-may
start-requires-clause-may g c =
    let page = c.in_ok-page.page.0 in
    let log = c.args.log.0 in
    may_within (page ∷ 0 ∷ log ∷ []) (page ∷ []) 1 153 0 21 0 64 c.args.p.now c.take.new.p (within_one page (0 ∷ log ∷ [])) (lit≤ tt) (lit≤ tt) (may_name page (0 ∷ log ∷ []) 1 153 _ c.requires.may)
    (open1 g.P.Pages.stays_on page log _ _ c.take.ensures.uses)

pub returns-in_err-start-clause-uses : goal.returns-in_err-start-clause-uses
returns-in_err-start-clause-uses g c = open2_all g.P.Pages.stays_on c.in_ok-page.page.0 c.args.log.0 _ _ _ c.take.ensures.uses c.start.ensures.uses

pub add_last-requires-clause-may : goal.add_last-requires-clause-may
add_last-requires-clause-may g c =
    let page = c.in_ok-page.page.0 in
    let log = c.args.log.0 in
    may_back (g.P.Pages.state c.start.new.p) (pages_base log) (page ∷ log ∷ []) 68
    (may_within (page ∷ 0 ∷ log ∷ []) (page ∷ log ∷ []) 1 153 0 85 1 68 c.args.p.now c.start.new.p (skip page 0 log) (lit≤ tt) (lit≤ tt) (may_name page (0 ∷ log ∷ []) 1 153 _ c.requires.may)
    (open2 g.P.Pages.stays_on page log _ _ _ c.take.ensures.uses c.start.ensures.uses))

pub returns-in_err-add_last-clause-uses : goal.returns-in_err-add_last-clause-uses
returns-in_err-add_last-clause-uses g c =
    let page = c.in_ok-page.page.0 in
    let log = c.args.log.0 in
    let s = g.P.Pages.state c.start.new.p in
    open3 g.P.Pages.stays_on page log _ _ _ _ c.take.ensures.uses c.start.ensures.uses (uses_bound (near_back s (pages_base log)) (page ∷ log ∷ []) 1 68 _ _ (back_few s (pages_base log)) c.add_last.ensures.uses)

pub returns-clause-uses : goal.returns-clause-uses
returns-clause-uses g c =
    let page = c.in_ok-page.page.0 in
    let log = c.args.log.0 in
    let s = g.P.Pages.state c.start.new.p in
    open3 g.P.Pages.stays_on page log _ _ _ _ c.take.ensures.uses c.start.ensures.uses (uses_bound (near_back s (pages_base log)) (page ∷ log ∷ []) 1 68 _ _ (back_few s (pages_base log)) c.add_last.ensures.uses)

pub returns-clause-named : goal.returns-clause-named
returns-clause-named g c =
    let page = c.in_ok-page.page.0 in
    let log = c.args.log.0 in
    let s = g.P.Pages.state c.start.new.p in
    open3_named g.P.Pages.stays_on page log _ _ _ _ c.take.ensures.uses c.start.ensures.uses (uses_bound (near_back s (pages_base log)) (page ∷ log ∷ []) 1 68 _ _ (back_few s (pages_base log)) c.add_last.ensures.uses)

pub returns-clause-opens : goal.returns-clause-opens
returns-clause-opens g c = λ pages nodes is can covered.
    page_opened (g.P.Pages.state c.args.p.now).told _ _ _ pages c.args.log.0 c.in_ok-page.page.0 c.take.new.self nodes can (c.in_ok-page.ensures.takes pages is can.map covered) c.in_ok-start.ensures.starts c.in_ok-add_last.ensures.adds

pub returns-in_err-add_last-clause-never : goal.returns-in_err-add_last-clause-never
returns-in_err-add_last-clause-never g c = λ pages nodes is can covered.
    handed_on c.add_last.result _ _ (page_opens _ _ pages c.args.log.0 c.in_ok-page.page.0 c.take.new.self nodes can (c.in_ok-page.ensures.takes pages is can.map covered) c.in_ok-start.ensures.starts c.add_last.ensures.never)
    c.in_err-add_last.was c.from_residual-in_err-add_last.ensures
