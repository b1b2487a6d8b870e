use Rattle.std.proofs.Common.{◌≡◌, true, false, [], ◌∷◌, sym, ap, ◌∙◌, lit≤}
use Rattle.page_model.proofs.StepLemmas.{may_less, may_within, uses_more, uses_within, within_nil}
use Rattle.file_lists.proofs.LinkLemmas.{handed_on}
use Rattle.store_data.specs.Store.{Record}
use Rattle.store_model.specs.Runs.{lobs_laid}
use Rattle.store_steps.proofs.UseLemmas.{on_told}
use Rattle.rollback.proofs.KindLemmas.{scene_at, at_scene, newest_scene, end_scene, ended_made, unmade_old}
use Rattle.rollback.proofs.kinds.undo_patched.Goals as goal

pub returns-then-not-is_live-clause-never : goal.returns-then-not-is_live-clause-never
returns-then-not-is_live-clause-never g c = λ s is newest dir can ending.
    let state = ap (λ (u : Record). u.before.state) newest.undo ∙ can.before in
    absurd (let e : true ≡ false = sym (c.is_live.ensures.live state) ∙ c.if-not-is_live.true in cc)

pub lay_old-requires-clause-may : goal.lay_old-requires-clause-may
lay_old-requires-clause-may g c =
    let ns = c.args.log.0 ∷ 0 ∷ [] in
    may_less ns [] 8 4 1030 900 _ c.requires.may (within_nil ns) (lit≤ tt) (lit≤ tt)

pub returns-in_err-lay_old-clause-never : goal.returns-in_err-lay_old-clause-never
returns-in_err-lay_old-clause-never g c = λ s is newest dir can ending.
    handed_on c.lay_old.result _ _ (c.lay_old.ensures.never can.few) c.in_err-lay_old.was c.from_residual.ensures

pub returns-in_err-lay_old-clause-uses : goal.returns-in_err-lay_old-clause-uses
returns-in_err-lay_old-clause-uses g c =
    let ns = c.args.log.0 ∷ 0 ∷ [] in
    uses_more [] ns 4 8 900 1030 _ _ c.lay_old.ensures.uses (within_nil ns) (lit≤ tt) (lit≤ tt)

pub end_live-requires-clause-may : goal.end_live-requires-clause-may
end_live-requires-clause-may g c =
    let ns = c.args.log.0 ∷ 0 ∷ [] in
    may_within ns ns 8 1030 4 900 4 130 c.args.p.now c.lay_old.new.p (λ n is. is) (lit≤ tt) (lit≤ tt)
    c.requires.may (uses_more [] ns 4 4 900 900 _ _ c.lay_old.ensures.uses (within_nil ns) (lit≤ tt) (lit≤ tt))

pub returns-clause-makes : goal.returns-clause-makes
returns-clause-makes g c = λ s is newest dir can ending.
    let log = c.args.log.0 in
    let runs = c.args.runs.now in
    let b = c.in_ok-lay_old.ensures.lays s.there s.pages s.store can.page can.lob is.told' is.stands can.found can.lie in
    let sc = at_scene _ _ log s b.0 (lobs_laid runs) is b.1 b.2 in
    on_told c.end_live.result _ _ _
    (λ new e. ended_made s b.0 (lobs_laid runs) _ new (unmade_old s runs can.body) e)
    (c.end_live.ensures.ends (scene_at s b.0 (lobs_laid runs)) sc
    (newest_scene c.args.newest.now s b.0 (lobs_laid runs) newest) dir
    (end_scene s b.0 (lobs_laid runs) ending) can.before)

pub returns-clause-left : goal.returns-clause-left
returns-clause-left g c = λ s is can.
    let log = c.args.log.0 in
    let runs = c.args.runs.now in
    let b = c.in_ok-lay_old.ensures.lays s.there s.pages s.store can.page can.lob is.told' is.stands can.found can.lie in
    let sc = at_scene _ _ log s b.0 (lobs_laid runs) is b.1 b.2 in
    c.end_live.ensures.left (scene_at s b.0 (lobs_laid runs)) sc

pub returns-clause-never : goal.returns-clause-never
returns-clause-never g c = λ s is newest dir can ending.
    let log = c.args.log.0 in
    let runs = c.args.runs.now in
    let b = c.in_ok-lay_old.ensures.lays s.there s.pages s.store can.page can.lob is.told' is.stands can.found can.lie in
    let sc = at_scene _ _ log s b.0 (lobs_laid runs) is b.1 b.2 in
    c.end_live.ensures.never (scene_at s b.0 (lobs_laid runs)) sc
    (newest_scene c.args.newest.now s b.0 (lobs_laid runs) newest) dir
    (end_scene s b.0 (lobs_laid runs) ending)

pub returns-clause-uses : goal.returns-clause-uses
returns-clause-uses g c =
    let ns = c.args.log.0 ∷ 0 ∷ [] in
    uses_within g.P.Pages.stays_on ns ns 4 900 4 130 c.args.p.now c.lay_old.new.p c.end_live.new.p (λ n is. is)
    (uses_more [] ns 4 4 900 900 _ _ c.lay_old.ensures.uses (within_nil ns) (lit≤ tt) (lit≤ tt)) c.end_live.ensures.uses
