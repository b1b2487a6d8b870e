use Rattle.std.proofs.Common.{refl, ap, subst, lit≤, arith}
use Rattle.store_data.specs.Store.{Body, Record}
use Rattle.store_steps.specs.Reached.{piece_in}
use Rattle.rollback.specs.Kinds.{CanUndoBy}
use Rattle.rollback.proofs.RecordLemmas.{body_is, turned_at_end, one_more, lob_below, head_in}
use Rattle.rollback.proofs.record.undo_record.Goals as goal

pub returns-in_err-more-in-Insert-clause-uses : goal.returns-in_err-more-in-Insert-clause-uses
returns-in_err-more-in-Insert-clause-uses g c = one_more c.in-Insert.page.0 c.args.log.0 164 _ _ (lit≤ tt) c.undo_new.ensures.uses

pub returns-in_err-more-in-Full-clause-uses : goal.returns-in_err-more-in-Full-clause-uses
returns-in_err-more-in-Full-clause-uses g c = one_more c.in-Full.page.0 c.args.log.0 164 _ _ (lit≤ tt) c.undo_new-in-Full.ensures.uses

pub returns-then-first-count-clause-never : goal.returns-then-first-count-clause-never
returns-then-first-count-clause-never g c = λ s at newest dir end can.
    let touched = c.in-Versioned.touched in
    let body = body_is c.args.newest.now s _ newest c.in-Versioned.is in
    let P : Body → Type 0 = λ b. CanUndoBy b c.args.last s in
    let lower = subst P body can in
    let below = lob_below s lower.lob s.undo.before.lob.page _ (g.P.Pages.whole c.args.p.now s.pages at.told') at.stands lower.found in
    let same = ap (λ (u : Record). u.before.lob.page) newest.undo in
    let past = c.if-first-count.true in
    absurd (omega (arith, below, same, past))

pub returns-in_ok-more-in-Insert-clause-uses : goal.returns-in_ok-more-in-Insert-clause-uses
returns-in_ok-more-in-Insert-clause-uses g c = one_more c.in-Insert.page.0 c.args.log.0 164 _ _ (lit≤ tt) c.undo_new.ensures.uses

pub returns-in_ok-more-in-Full-clause-uses : goal.returns-in_ok-more-in-Full-clause-uses
returns-in_ok-more-in-Full-clause-uses g c = one_more c.in-Full.page.0 c.args.log.0 164 _ _ (lit≤ tt) c.undo_new-in-Full.ensures.uses

pub returns-else-first-count-clause-uses : goal.returns-else-first-count-clause-uses
returns-else-first-count-clause-uses g c = one_more c.args.newest.now.rec.before.lob.page.0 c.args.log.0 169 _ _ (lit≤ tt) c.undo_versions.ensures.uses

pub returns-in_ok-more-in-Patched-clause-turns : goal.returns-in_ok-more-in-Patched-clause-turns
returns-in_ok-more-in-Patched-clause-turns g c = λ s at newest can.
    turned_at_end s c.args.newest.now _ (piece_in c.args.last) c.args.flights.now c.undo_patched.new.flights newest
    (body_is c.args.newest.now s _ newest c.in-Patched.is) refl c.in_ok-more-in-Patched.ensures.turns

pub returns-in_ok-more-in-Removed-clause-turns : goal.returns-in_ok-more-in-Removed-clause-turns
returns-in_ok-more-in-Removed-clause-turns g c = λ s at newest can.
    turned_at_end s c.args.newest.now _ (piece_in c.args.last) c.args.flights.now c.undo_removed.new.flights newest
    (body_is c.args.newest.now s _ newest c.in-Removed.is) refl c.in_ok-more-in-Removed.ensures.turns

pub returns-else-first-count-clause-head : goal.returns-else-first-count-clause-head
returns-else-first-count-clause-head g c = λ s at newest can.
    let P : Body → Type 0 = λ b. CanUndoBy b c.args.last s in
    let lower = subst P (body_is c.args.newest.now s _ newest c.in-Versioned.is) can in
    head_in s lower.lob c.undo_versions.result lower.found (c.undo_versions.ensures.head s at newest lower)
