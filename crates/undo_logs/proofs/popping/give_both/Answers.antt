use Rattle.std.proofs.Common.{[], ◌∷◌, lit≤}
use Rattle.page_model.proofs.StepLemmas.{may_within}
use Rattle.undo_logs.proofs.EndLemmas.{both_given}
use Rattle.undo_logs.proofs.popping.give_both.Goals as goal

pub give-requires-3-clause-may : goal.give-requires-3-clause-may
give-requires-3-clause-may g c = may_within (0 ∷ []) (0 ∷ []) 0 42 0 21 0 21 c.args.p.now c.give-2.new.p (λ n is. is) (lit≤ tt) (lit≤ tt) c.requires.may c.give-2.ensures.uses

pub returns-clause-gives : goal.returns-clause-gives
returns-clause-gives g c = λ pages is map used used_log.
    both_given _ _ pages c.args.page.0 c.args.log.0 c.if-page-log.false used_log (c.in_ok-give-2.ensures.gives pages is map used) c.in_ok-give-3.ensures.gives
