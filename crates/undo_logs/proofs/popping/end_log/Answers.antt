use Rattle.std.proofs.Common.{[], ◌∷◌, lit≤}
use Rattle.page_model.proofs.StepLemmas.{may_within, may_less, uses_bound, within_two}
use Rattle.file_lists.specs.Near.{near_node}
use Rattle.file_lists.proofs.LinkLemmas.{handed_on}
use Rattle.file_lists.proofs.NearLemmas.{may_node, node_few}
use Rattle.undo_model.specs.Logs.{log_node}
use Rattle.undo_model.specs.LogLists.{log_nodes}
use Rattle.undo_logs.proofs.UseLemmas.{end1, end2}
use Rattle.undo_logs.proofs.EndLemmas.{log_ended, may_give, list_there}
use Rattle.undo_logs.proofs.popping.end_log.Goals as goal

pub remove-requires-clause-may : goal.remove-requires-clause-may
remove-requires-clause-may g c =
    let log = c.args.log.0 in
    let s = g.P.Pages.state c.args.p.now in
    may_node s (log_node log) (log ∷ 0 ∷ []) 40 (may_less (log ∷ 0 ∷ []) (log ∷ 0 ∷ []) 2 2 82 40 s c.requires.may (λ n is. is) (lit≤ tt) (lit≤ tt))

pub returns-in_err-remove-clause-uses : goal.returns-in_err-remove-clause-uses
returns-in_err-remove-clause-uses g c =
    let log = c.args.log.0 in
    let s = g.P.Pages.state c.args.p.now in
    end1 g.P.Pages.stays_on log _ _ (uses_bound (near_node s (log_node log)) (log ∷ 0 ∷ []) 2 40 _ _ (node_few s (log_node log)) c.remove.ensures.uses)

pub give_both-requires-clause-may : goal.give_both-requires-clause-may
give_both-requires-clause-may g c =
    let log = c.args.log.0 in
    let s = g.P.Pages.state c.args.p.now in
    may_within (log ∷ 0 ∷ []) (0 ∷ []) 2 82 2 40 0 42 c.args.p.now c.remove.new.p (within_two log 0 []) (lit≤ tt) (lit≤ tt) c.requires.may
    (uses_bound (near_node s (log_node log)) (log ∷ 0 ∷ []) 2 40 _ _ (node_few s (log_node log)) c.remove.ensures.uses)

pub returns-in_err-give_both-clause-uses : goal.returns-in_err-give_both-clause-uses
returns-in_err-give_both-clause-uses g c =
    let log = c.args.log.0 in
    let s = g.P.Pages.state c.args.p.now in
    end2 g.P.Pages.stays_on log _ _ _ (uses_bound (near_node s (log_node log)) (log ∷ 0 ∷ []) 2 40 _ _ (node_few s (log_node log)) c.remove.ensures.uses) c.give_both.ensures.uses

pub returns-clause-uses : goal.returns-clause-uses
returns-clause-uses g c =
    let log = c.args.log.0 in
    let s = g.P.Pages.state c.args.p.now in
    end2 g.P.Pages.stays_on log _ _ _ (uses_bound (near_node s (log_node log)) (log ∷ 0 ∷ []) 2 40 _ _ (node_few s (log_node log)) c.remove.ensures.uses) c.give_both.ensures.uses

pub returns-clause-gives : goal.returns-clause-gives
returns-clause-gives g c = λ pages l e is same can records on listed.
    log_ended pages _ _ l c.args.log.0 c.args.page.0 e is same can records on listed c.in_ok-remove.ensures.removes _ c.in_ok-give_both.ensures.gives

pub returns-in_err-give_both-clause-never : goal.returns-in_err-give_both-clause-never
returns-in_err-give_both-clause-never g c = λ pages l e is same can records on listed.
    handed_on c.give_both.result _ _ (may_give pages _ _ l c.args.log.0 c.args.page.0 e is same can records on listed c.in_ok-remove.ensures.removes c.give_both.ensures.never) c.in_err-give_both.was c.from_residual-in_err-give_both.ensures

pub returns-in_err-remove-clause-never : goal.returns-in_err-remove-clause-never
returns-in_err-remove-clause-never g c = λ pages l e is same can records on listed.
    handed_on c.remove.result _ _ (c.remove.ensures.never pages (log_nodes listed.before) (log_nodes listed.behind) is (list_there pages l c.args.log.0 same listed)) c.in_err-remove.was c.from_residual.ensures
