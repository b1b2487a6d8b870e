use Rattle.std.proofs.Common.{ℕ, [], ◌∷◌, Option, subst, ◌∙◌, lit≤}
use Rattle.page_model.proofs.StepLemmas.{may_less, uses_more, uses_unnamed, uses_within, within_one, within_two}
use Rattle.undo_logs.proofs.UseLemmas.{skip}
use Rattle.file_lists.proofs.LinkLemmas.{handed_on}
use Rattle.lob_index.proofs.AnswerLemmas.{becomes_on}
use Rattle.store_parts.specs.Shows.{touched_from}
use Rattle.store_steps.specs.Reached.{piece_in}
use Rattle.purge.specs.Versions.{VersionsGo}
use Rattle.store_steps.proofs.LobLemmas.{lob_at}
use Rattle.store_steps.proofs.NextLemmas.{next_below}
use Rattle.purge.proofs.UseLemmas.{may_named}
use Rattle.purge.proofs.dropped.purge_versions.Goals as goal

pub returns-in_err-head-in-Some-clause-never : goal.returns-in_err-head-in-Some-clause-never
returns-in_err-head-in-Some-clause-never g c = λ there pages store l ls m at some found head all.
    let first = c.args.first.0 in
    let a = lob_at there pages store first m at.stands found in
    let low = next_below _ (piece_in c.args.last) c.in-Some.k
    (touched_from 0 c.args.touched.now.pieces c.args.touched.now.bits) all c.in-Some.ensures.value in
    handed_on c.reach.result _ _
    (c.reach.ensures.never pages m at.told' a.here a.stands head low)
    c.in_err-head-in-Some.was c.from_residual.ensures

pub returns-in_err-head-in-Some-clause-uses : goal.returns-in_err-head-in-Some-clause-uses
returns-in_err-head-in-Some-clause-uses g c =
    let first = c.args.first.0 in
    let log = c.args.log.0 in
    uses_more (first ∷ []) (first ∷ log ∷ 0 ∷ []) 5 9 0 129 _ _ c.reach.ensures.uses
    (within_one first (log ∷ 0 ∷ [])) (lit≤ tt) (lit≤ tt)

pub drop_version-requires-clause-may : goal.drop_version-requires-clause-may
drop_version-requires-clause-may g c =
    let first = c.args.first.0 in
    let log = c.args.log.0 in
    let ns = first ∷ log ∷ 0 ∷ [] in
    may_named c.in_ok-head-in-Some.head.page.0 ns (first ∷ 0 ∷ []) 9 129 5 0 3 129 c.args.p.now
    c.reach.new.p (skip first log 0) (lit≤ tt) (lit≤ tt) c.requires.may
    (uses_more (first ∷ []) ns 5 5 0 0 _ _ c.reach.ensures.uses (within_one first (log ∷ 0 ∷ []))
    (lit≤ tt) (lit≤ tt))

pub returns-in_err-drop_version-in-Some-clause-uses : goal.returns-in_err-drop_version-in-Some-clause-uses
returns-in_err-drop_version-in-Some-clause-uses g c =
    let first = c.args.first.0 in
    let log = c.args.log.0 in
    let ns = first ∷ log ∷ 0 ∷ [] in
    uses_within g.P.Pages.stays_on ns (first ∷ 0 ∷ []) 5 0 4 129 c.args.p.now c.reach.new.p
    c.drop_version.new.p (skip first log 0)
    (uses_more (first ∷ []) ns 5 5 0 0 _ _ c.reach.ensures.uses (within_one first (log ∷ 0 ∷ []))
    (lit≤ tt) (lit≤ tt))
    (uses_unnamed c.in_ok-head-in-Some.head.page.0 (first ∷ 0 ∷ []) 3 129 _ _
    c.drop_version.ensures.uses)

pub returns-in_ok-drop_version-in-Some-clause-uses : goal.returns-in_ok-drop_version-in-Some-clause-uses
returns-in_ok-drop_version-in-Some-clause-uses g c =
    let first = c.args.first.0 in
    let log = c.args.log.0 in
    let ns = first ∷ log ∷ 0 ∷ [] in
    uses_within g.P.Pages.stays_on ns (first ∷ 0 ∷ []) 5 0 4 129 c.args.p.now c.reach.new.p
    c.drop_version.new.p (skip first log 0)
    (uses_more (first ∷ []) ns 5 5 0 0 _ _ c.reach.ensures.uses (within_one first (log ∷ 0 ∷ []))
    (lit≤ tt) (lit≤ tt))
    (uses_unnamed c.in_ok-head-in-Some.head.page.0 (first ∷ 0 ∷ []) 3 129 _ _
    c.drop_version.ensures.uses)

pub returns-in_err-drop_version-in-Some-clause-never : goal.returns-in_err-drop_version-in-Some-clause-never
returns-in_err-drop_version-in-Some-clause-never g c = λ there pages store l ls m at some found head all.
    let first = c.args.first.0 in
    let a = lob_at there pages store first m at.stands found in
    let here = c.in_ok-head-in-Some.ensures.value pages m at.told' a.here a.stands head in
    handed_on c.drop_version.result _ _
    (c.drop_version.ensures.never there pages store m c.in-Some.k (c.reach.ensures.told ∙ at.told')
    at.stands found here)
    c.in_err-drop_version-in-Some.was c.from_residual-in_err-drop_version-in-Some.ensures

pub pass-requires-clause-may : goal.pass-requires-clause-may
pass-requires-clause-may g c =
    let first = c.args.first.0 in
    let log = c.args.log.0 in
    may_less (first ∷ log ∷ 0 ∷ []) (log ∷ []) 9 1 129 14 _ c.requires.may
    (within_two first log (0 ∷ [])) (lit≤ tt) (lit≤ tt)

pub returns-in_err-pass-in-None-clause-never : goal.returns-in_err-pass-in-None-clause-never
returns-in_err-pass-in-None-clause-never g c = λ there pages store l ls m at some found head all.
    handed_on c.pass.result _ _ (c.pass.ensures.never there pages store l ls at some)
    c.in_err-pass-in-None.was c.from_residual-in_err-pass-in-None.ensures

pub returns-in_err-pass-in-None-clause-uses : goal.returns-in_err-pass-in-None-clause-uses
returns-in_err-pass-in-None-clause-uses g c =
    let first = c.args.first.0 in
    let log = c.args.log.0 in
    uses_more (log ∷ []) (first ∷ log ∷ 0 ∷ []) 1 9 14 129 _ _ c.pass.ensures.uses
    (within_two first log (0 ∷ [])) (lit≤ tt) (lit≤ tt)

pub returns-in_ok-pass-in-None-clause-uses : goal.returns-in_ok-pass-in-None-clause-uses
returns-in_ok-pass-in-None-clause-uses g c =
    let first = c.args.first.0 in
    let log = c.args.log.0 in
    uses_more (log ∷ []) (first ∷ log ∷ 0 ∷ []) 1 9 14 129 _ _ c.pass.ensures.uses
    (within_two first log (0 ∷ [])) (lit≤ tt) (lit≤ tt)

pub returns-in_ok-drop_version-in-Some-clause-goes : goal.returns-in_ok-drop_version-in-Some-clause-goes
returns-in_ok-drop_version-in-Some-clause-goes g c = λ there pages store l ls m at some found head.
    let first = c.args.first.0 in
    let v = c.args.v.0 in
    let ks = touched_from 0 c.args.touched.now.pieces c.args.touched.now.bits in
    let a = lob_at there pages store first m at.stands found in
    let here = c.in_ok-head-in-Some.ensures.value pages m at.told' a.here a.stands head in
    let next = c.in-Some.ensures.value in
    becomes_on _ _ _ (λ new goes. subst (λ (o : Option ℕ). VersionsGo there first v store o new) next goes)
    (c.in_ok-drop_version-in-Some.ensures.drops there pages store m c.in-Some.k
    (c.reach.ensures.told ∙ at.told') at.stands found here)

pub returns-in_ok-drop_version-in-Some-clause-head : goal.returns-in_ok-drop_version-in-Some-clause-head
returns-in_ok-drop_version-in-Some-clause-head g c = λ there pages store l ls m at found head.
    let a = lob_at there pages store c.args.first.0 m at.stands found in
    c.in_ok-head-in-Some.ensures.value pages m at.told' a.here a.stands head

pub returns-in_ok-drop_version-in-Some-clause-fit : goal.returns-in_ok-drop_version-in-Some-clause-fit
returns-in_ok-drop_version-in-Some-clause-fit g c =
    (c.in_ok-head-in-Some.ensures.place, c.in-Some.ensures.small)

pub returns-in_ok-pass-in-None-clause-goes : goal.returns-in_ok-pass-in-None-clause-goes
returns-in_ok-pass-in-None-clause-goes g c = λ there pages store l ls m at some found head.
    let first = c.args.first.0 in
    let v = c.args.v.0 in
    let ks = touched_from 0 c.args.touched.now.pieces c.args.touched.now.bits in
    let next = c.in-None.ensures.value in
    becomes_on _ _ _ (λ new goes. subst (λ (o : Option ℕ). VersionsGo there first v store o new) next goes)
    (c.in_ok-pass-in-None.ensures.passes there pages store l ls at some)
