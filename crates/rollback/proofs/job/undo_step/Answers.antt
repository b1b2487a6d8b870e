use Rattle.std.proofs.Common.{[], ◌∷◌, refl, lit≤}
use Rattle.page_model.proofs.StepLemmas.{may_within, uses_more, uses_within, within_one}
use Rattle.lob_index.proofs.AnswerLemmas.{becomes_on}
use Rattle.rollback.proofs.ChainLemmas.{can_end}
use Rattle.rollback.proofs.ConsistentLemmas.{steps}
use Rattle.rollback.specs.Ends.{IsNewest}
use Rattle.rollback.proofs.NextLemmas.{goes_on_from}
use Rattle.rollback.proofs.RecordLemmas.{at_same}
use Rattle.rollback.proofs.job.undo_step.Goals as goal

pub returns-in_err-newest-clause-uses : goal.returns-in_err-newest-clause-uses
returns-in_err-newest-clause-uses g c =
    let log = c.args.job.now.log.0 in
    uses_more (log ∷ []) (log ∷ 0 ∷ []) 2 12 0 1_030 _ _ c.newest_record.ensures.uses (within_one log (0 ∷ [])) (lit≤ tt) (lit≤ tt)

pub undo_record-requires-clause-may : goal.undo_record-requires-clause-may
undo_record-requires-clause-may g c =
    let log = c.args.job.now.log.0 in
    let ns = log ∷ 0 ∷ [] in
    may_within ns ns 12 1_030 2 0 10 1_030 c.args.p.now c.newest_record.new.p (λ n is. is) (lit≤ tt) (lit≤ tt) c.requires.may
    (uses_more (log ∷ []) ns 2 2 0 0 _ _ c.newest_record.ensures.uses (within_one log (0 ∷ [])) (lit≤ tt) (lit≤ tt))

pub returns-in_err-left-clause-uses : goal.returns-in_err-left-clause-uses
returns-in_err-left-clause-uses g c =
    let log = c.args.job.now.log.0 in
    let ns = log ∷ 0 ∷ [] in
    uses_within g.P.Pages.stays_on ns ns 2 0 10 1_030 c.args.p.now c.newest_record.new.p c.undo_record.new.p (λ n is. is)
    (uses_more (log ∷ []) ns 2 2 0 0 _ _ c.newest_record.ensures.uses (within_one log (0 ∷ [])) (lit≤ tt) (lit≤ tt)) c.undo_record.ensures.uses

pub returns-clause-uses : goal.returns-clause-uses
returns-clause-uses g c =
    let log = c.args.job.now.log.0 in
    let ns = log ∷ 0 ∷ [] in
    uses_within g.P.Pages.stays_on ns ns 2 0 10 1_030 c.args.p.now c.newest_record.new.p c.undo_record.new.p (λ n is. is)
    (uses_more (log ∷ []) ns 2 2 0 0 _ _ c.newest_record.ensures.uses (within_one log (0 ∷ [])) (lit≤ tt) (lit≤ tt)) c.undo_record.ensures.uses

pub returns-clause-stays : goal.returns-clause-stays
returns-clause-stays g c = λ s at dir is can.
    let log = c.args.job.now.log.0 in
    let last = c.args.job.now.reached in
    let at' = at_same _ _ log s at c.newest_record.ensures.told in
    let read = c.in_ok-newest.ensures.value s at in
    becomes_on _ _ _ (λ new m. steps _ log s _ new at is last can m)
    (c.in_ok-left.ensures.makes s at' (record { place = read.0; undo = read.1 }) dir
    (can_end _ log s at is) can)

pub returns-clause-again : goal.returns-clause-again
returns-clause-again g c = λ s j dir.
    let log = c.args.job.now.log.0 in
    let at = j.at in
    let can = j.can in
    let at' = at_same _ _ log s at c.newest_record.ensures.told in
    let read = c.in_ok-newest.ensures.value s at in
    let newest : IsNewest c.in_ok-newest.newest s = record { place = read.0; undo = read.1 } in
    let m = c.in_ok-left.ensures.makes s at' newest dir (can_end _ log s at j.consistent) can in (
      m.0,
      m.1,
      goes_on_from _ _ c.args.job.now _ s j _ m.0 m.1 refl
          (c.in_ok-left.ensures.head s at' newest can)
          (c.in_ok-left.ensures.comes s at' newest can) m.2,
    )
