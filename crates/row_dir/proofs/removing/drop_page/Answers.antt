use Rattle.std.proofs.Common.{[], ◌∷◌, lit≤}
use Rattle.page_model.proofs.StepLemmas.{may_within, uses_bound, uses_at_most, within_right}
use Rattle.file_lists.specs.Near.{near_node}
use Rattle.file_lists.proofs.LinkLemmas.{handed_on}
use Rattle.file_lists.proofs.NearLemmas.{may_node, node_few}
use Rattle.undo_model.specs.Logs.{node_of}
use Rattle.undo_model.specs.Rows.{row_nodes}
use Rattle.row_dir.proofs.UseLemmas.{drop2}
use Rattle.row_dir.proofs.DropLemmas.{dropped, drops, listed}
use Rattle.page_model.proofs.StepLemmas.{may_less}
use Rattle.row_dir.proofs.removing.drop_page.Goals as goal

pub remove-requires-clause-may : goal.remove-requires-clause-may
remove-requires-clause-may g c =
    let page = c.args.page.0 in
    let s = g.P.Pages.state c.args.p.now in
    may_node s (node_of page) (page ∷ 0 ∷ []) 40 (may_less (page ∷ 0 ∷ []) (page ∷ 0 ∷ []) 2 2 61 40 s c.requires.may (λ n is. is) (lit≤ tt) (lit≤ tt))

pub returns-in_err-remove-clause-uses : goal.returns-in_err-remove-clause-uses
returns-in_err-remove-clause-uses g c =
    let page = c.args.page.0 in
    let s = g.P.Pages.state c.args.p.now in
    uses_at_most (page ∷ 0 ∷ []) 2 40 2 61 _ _ (lit≤ tt) (lit≤ tt) (uses_bound (near_node s (node_of page)) (page ∷ 0 ∷ []) 2 40 _ _ (node_few s (node_of page)) c.remove.ensures.uses)

pub give-requires-clause-may : goal.give-requires-clause-may
give-requires-clause-may g c =
    let page = c.args.page.0 in
    let s = g.P.Pages.state c.args.p.now in
    may_within (page ∷ 0 ∷ []) (0 ∷ []) 2 61 2 40 0 21 c.args.p.now c.remove.new.p (λ n is. within_right (page ∷ []) (0 ∷ []) n is) (lit≤ tt) (lit≤ tt) c.requires.may
    (uses_bound (near_node s (node_of page)) (page ∷ 0 ∷ []) 2 40 _ _ (node_few s (node_of page)) c.remove.ensures.uses)

pub returns-in_err-give-clause-uses : goal.returns-in_err-give-clause-uses
returns-in_err-give-clause-uses g c =
    let page = c.args.page.0 in
    let s = g.P.Pages.state c.args.p.now in
    drop2 g.P.Pages.stays_on page _ _ _ (uses_bound (near_node s (node_of page)) (page ∷ 0 ∷ []) 2 40 _ _ (node_few s (node_of page)) c.remove.ensures.uses) c.give.ensures.uses

pub returns-clause-uses : goal.returns-clause-uses
returns-clause-uses g c =
    let page = c.args.page.0 in
    let s = g.P.Pages.state c.args.p.now in
    drop2 g.P.Pages.stays_on page _ _ _ (uses_bound (near_node s (node_of page)) (page ∷ 0 ∷ []) 2 40 _ _ (node_few s (node_of page)) c.remove.ensures.uses) c.give.ensures.uses

pub returns-clause-drops : goal.returns-clause-drops
returns-clause-drops g c = λ pages before behind q is stands can same.
    dropped _ _ pages before q behind c.args.page.0 stands can same (λ xs ys list. c.in_ok-remove.ensures.removes pages xs ys is list) c.in_ok-give.ensures.gives

pub returns-in_err-remove-clause-never : goal.returns-in_err-remove-clause-never
returns-in_err-remove-clause-never g c = λ pages before behind q is stands can same.
    handed_on c.remove.result _ _ (c.remove.ensures.never pages (row_nodes before) (row_nodes behind) is (listed pages before q behind c.args.page.0 stands same)) c.in_err-remove.was c.from_residual.ensures

pub returns-in_err-give-clause-never : goal.returns-in_err-give-clause-never
returns-in_err-give-clause-never g c = λ pages before behind q is stands can same.
    handed_on c.give.result _ _ (drops _ pages before q behind c.args.page.0 stands can same (λ xs ys list. c.in_ok-remove.ensures.removes pages xs ys is list) c.give.ensures.never) c.in_err-give.was c.from_residual-in_err-give.ensures
