use Rattle.std.proofs.Common.{[], ◌∷◌, lit≤}
use Rattle.page_model.proofs.StepLemmas.{may_within, may_less, uses_bound, uses_at_most, within_left, within_right}
use Rattle.file_lists.specs.Near.{near_before}
use Rattle.file_lists.proofs.LinkLemmas.{handed_on}
use Rattle.file_lists.proofs.NearLemmas.{may_before, before_few}
use Rattle.undo_model.specs.Logs.{node_of}
use Rattle.undo_logs.proofs.UseLemmas.{drop1, drop2}
use Rattle.undo_logs.proofs.DropLemmas.{node_dropped, node_drops}
use Rattle.undo_logs.proofs.cutting.drop_node.Goals as goal

pub remove_last-requires-clause-may : goal.remove_last-requires-clause-may
remove_last-requires-clause-may g c =
    let page = c.args.page.0 in
    let log = c.args.log.0 in
    let s = g.P.Pages.state c.args.p.now in
    may_before s (node_of page) (page ∷ log ∷ []) 40 (may_less (page ∷ log ∷ 0 ∷ []) (page ∷ log ∷ []) 1 1 61 40 s c.requires.may (λ n is. within_left (page ∷ log ∷ []) (0 ∷ []) n is) (lit≤ tt) (lit≤ tt))

pub returns-in_err-remove_last-clause-uses : goal.returns-in_err-remove_last-clause-uses
returns-in_err-remove_last-clause-uses g c =
    let page = c.args.page.0 in
    let log = c.args.log.0 in
    let s = g.P.Pages.state c.args.p.now in
    uses_at_most (page ∷ log ∷ 0 ∷ []) 1 40 1 61 _ _ (lit≤ tt) (lit≤ tt) (drop1 g.P.Pages.stays_on page log _ _ (uses_bound (near_before s (node_of page)) (page ∷ log ∷ []) 1 40 _ _ (before_few s (node_of page)) c.remove_last.ensures.uses))

pub give-requires-clause-may : goal.give-requires-clause-may
give-requires-clause-may g c =
    let page = c.args.page.0 in
    let log = c.args.log.0 in
    let s = g.P.Pages.state c.args.p.now in
    may_within (page ∷ log ∷ 0 ∷ []) (0 ∷ []) 1 61 1 40 0 21 c.args.p.now c.remove_last.new.p (λ n is. within_right (page ∷ log ∷ []) (0 ∷ []) n is) (lit≤ tt) (lit≤ tt) c.requires.may
    (drop1 g.P.Pages.stays_on page log _ _ (uses_bound (near_before s (node_of page)) (page ∷ log ∷ []) 1 40 _ _ (before_few s (node_of page)) c.remove_last.ensures.uses))

pub returns-in_err-give-clause-uses : goal.returns-in_err-give-clause-uses
returns-in_err-give-clause-uses g c =
    let page = c.args.page.0 in
    let log = c.args.log.0 in
    let s = g.P.Pages.state c.args.p.now in
    drop2 g.P.Pages.stays_on page log _ _ _ (uses_bound (near_before s (node_of page)) (page ∷ log ∷ []) 1 40 _ _ (before_few s (node_of page)) c.remove_last.ensures.uses) c.give.ensures.uses

pub returns-clause-uses : goal.returns-clause-uses
returns-clause-uses g c =
    let page = c.args.page.0 in
    let log = c.args.log.0 in
    let s = g.P.Pages.state c.args.p.now in
    drop2 g.P.Pages.stays_on page log _ _ _ (uses_bound (near_before s (node_of page)) (page ∷ log ∷ []) 1 40 _ _ (before_few s (node_of page)) c.remove_last.ensures.uses) c.give.ensures.uses

pub returns-clause-drops : goal.returns-clause-drops
returns-clause-drops g c = λ pages nodes is can.
    node_dropped _ _ pages c.args.log.0 c.args.page.0 nodes can (c.in_ok-remove_last.ensures.removes pages nodes is can.list) c.in_ok-give.ensures.gives

pub returns-in_err-remove_last-clause-never : goal.returns-in_err-remove_last-clause-never
returns-in_err-remove_last-clause-never g c = λ pages nodes is can.
    handed_on c.remove_last.result _ _ (c.remove_last.ensures.never pages nodes is can.list) c.in_err-remove_last.was c.from_residual.ensures

pub returns-in_err-give-clause-never : goal.returns-in_err-give-clause-never
returns-in_err-give-clause-never g c = λ pages nodes is can.
    handed_on c.give.result _ _ (node_drops _ pages c.args.log.0 c.args.page.0 nodes can (c.in_ok-remove_last.ensures.removes pages nodes is can.list) c.give.ensures.never) c.in_err-give.was c.from_residual-in_err-give.ensures
