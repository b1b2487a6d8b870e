use Rattle.std.proofs.Common.{[], ◌∷◌, lit≤}
use Rattle.page_model.proofs.StepLemmas.{may_within, may_name, within_one, uses_bound}
use Rattle.file_lists.specs.Near.{near_back}
use Rattle.file_lists.proofs.LinkLemmas.{handed_on}
use Rattle.file_lists.proofs.NearLemmas.{may_back, back_few}
use Rattle.undo_model.specs.Rows.{row_base}
use Rattle.row_dir.specs.Slots.{keyed_of}
use Rattle.row_dir.proofs.UseLemmas.{open1, open2, open3, open2_all}
use Rattle.row_dir.proofs.OpenLemmas.{page_opened, page_opens}
use Rattle.row_dir.proofs.opening.open_page.Goals as goal

pub start_page-requires-clause-may : goal.start_page-requires-clause-may
start_page-requires-clause-may g c =
    let page = c.in_ok-page.page.0 in
    may_within (page ∷ 0 ∷ []) (page ∷ []) 1 16_529 0 21 0 16_440 c.args.p.now c.take.new.p (within_one page (0 ∷ [])) (lit≤ tt) (lit≤ tt) (may_name page (0 ∷ []) 1 16_529 _ c.requires.may)
    (open1 g.P.Pages.stays_on page _ _ c.take.ensures.uses)

pub returns-in_err-start_page-clause-uses : goal.returns-in_err-start_page-clause-uses
returns-in_err-start_page-clause-uses g c = open2_all g.P.Pages.stays_on c.in_ok-page.page.0 _ _ _ c.take.ensures.uses c.start_page.ensures.uses

pub add_last-requires-clause-may : goal.add_last-requires-clause-may
add_last-requires-clause-may g c =
    let page = c.in_ok-page.page.0 in
    may_back (g.P.Pages.state c.start_page.new.p) row_base (page ∷ 0 ∷ []) 68
    (may_within (page ∷ 0 ∷ []) (page ∷ 0 ∷ []) 1 16_529 0 16_461 1 68 c.args.p.now c.start_page.new.p (λ n is. is) (lit≤ tt) (lit≤ tt) (may_name page (0 ∷ []) 1 16_529 _ c.requires.may)
    (open2 g.P.Pages.stays_on page _ _ _ c.take.ensures.uses c.start_page.ensures.uses))

pub returns-in_err-add_last-clause-uses : goal.returns-in_err-add_last-clause-uses
returns-in_err-add_last-clause-uses g c =
    let page = c.in_ok-page.page.0 in
    let s = g.P.Pages.state c.start_page.new.p in
    open3 g.P.Pages.stays_on page _ _ _ _ c.take.ensures.uses c.start_page.ensures.uses (uses_bound (near_back s row_base) (page ∷ 0 ∷ []) 1 68 _ _ (back_few s row_base) c.add_last.ensures.uses)

pub returns-clause-uses : goal.returns-clause-uses
returns-clause-uses g c =
    let page = c.in_ok-page.page.0 in
    let s = g.P.Pages.state c.start_page.new.p in
    open3 g.P.Pages.stays_on page _ _ _ _ c.take.ensures.uses c.start_page.ensures.uses (uses_bound (near_back s row_base) (page ∷ 0 ∷ []) 1 68 _ _ (back_few s row_base) c.add_last.ensures.uses)

pub returns-clause-opens : goal.returns-clause-opens
returns-clause-opens g c = λ pages rows is stands can none covered.
    page_opened _ _ _ pages rows c.in_ok-page.page.0 c.take.new.self (keyed_of c.args.row.now) stands can none (c.in_ok-page.ensures.takes pages is can.map covered) c.in_ok-start_page.ensures.starts c.in_ok-add_last.ensures.adds

pub returns-in_err-add_last-clause-never : goal.returns-in_err-add_last-clause-never
returns-in_err-add_last-clause-never g c = λ pages rows is stands can covered.
    handed_on c.add_last.result _ _ (page_opens _ _ pages rows c.in_ok-page.page.0 c.take.new.self (keyed_of c.args.row.now) stands can (c.in_ok-page.ensures.takes pages is can.map covered) c.in_ok-start_page.ensures.starts c.add_last.ensures.never)
    c.in_err-add_last.was c.from_residual-in_err-add_last.ensures
