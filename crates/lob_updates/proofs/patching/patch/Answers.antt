use Rattle.std.proofs.Common.{◌≡◌, ℕ, [], ◌∷◌, sym, ap, subst, ◌∙◌, lit≤}
use Rattle.page_model.proofs.StepLemmas.{may_within, uses_more, uses_within, within_nil}
use Rattle.engine_base.specs.declared.ids.DocId.{DocId}
use Rattle.file_lists.proofs.LinkLemmas.{handed_on}
use Rattle.store_model.specs.History.{row_before}
use Rattle.page_space.specs.Map.{free_of}
use Rattle.page_model.specs.Steps.{Becomes}
use Rattle.std.proofs.Common.{◌≤◌, OnOk}
use Rattle.transactions.specs.Keeping.{CanKeep}
use Rattle.lob_updates.specs.Plans.{MayPlan}
use Rattle.lob_updates.specs.Patches.{CanPatch, PatchesRuns}
use Rattle.lob_updates.proofs.patching.patch.Goals as goal

pub returns-in_err-before-clause-never : goal.returns-in_err-before-clause-never
returns-in_err-before-clause-never g c = λ there pages store l m may can keep.
    handed_on c.live_row.result _ _
    (c.live_row.ensures.never there pages store (let a = may.at in a.told') (let a = may.at in a.stands)
    may.directory may.live' keep.first) c.in_err-before.was c.from_residual.ensures

pub returns-in_err-before-clause-uses : goal.returns-in_err-before-clause-uses
returns-in_err-before-clause-uses g c =
    let ns = c.args.trx.now.log.0 ∷ 0 ∷ [] in
    uses_more [] ns 1 10 0 18466 _ _ c.live_row.ensures.uses (within_nil ns) (lit≤ tt) (lit≤ tt)

pub returns-then-pages-gt-MAX_PAGES-clause-uses : goal.returns-then-pages-gt-MAX_PAGES-clause-uses
returns-then-pages-gt-MAX_PAGES-clause-uses g c =
    let ns = c.args.trx.now.log.0 ∷ 0 ∷ [] in
    uses_more [] ns 1 10 0 18466 _ _ c.live_row.ensures.uses (within_nil ns) (lit≤ tt) (lit≤ tt)

pub patch_row-requires-clause-may : goal.patch_row-requires-clause-may
patch_row-requires-clause-may g c =
    let ns = c.args.trx.now.log.0 ∷ 0 ∷ [] in
    may_within ns ns 10 18466 1 0 9 18466 c.args.p.now c.live_row.new.p (λ n is. is) (lit≤ tt) (lit≤ tt)
    c.requires.may
    (uses_more [] ns 1 1 0 0 _ _ c.live_row.ensures.uses (within_nil ns) (lit≤ tt) (lit≤ tt))

pub returns-clause-uses : goal.returns-clause-uses
returns-clause-uses g c =
    let ns = c.args.trx.now.log.0 ∷ 0 ∷ [] in
    uses_within g.P.Pages.stays_on ns ns 1 0 9 18466 c.args.p.now c.live_row.new.p c.patch_row.new.p (λ n is. is)
    (uses_more [] ns 1 1 0 0 _ _ c.live_row.ensures.uses (within_nil ns) (lit≤ tt) (lit≤ tt))
    c.patch_row.ensures.uses

pub returns-clause-never : goal.returns-clause-never
returns-clause-never g c = λ there pages store l m may can keep.
    let trx = c.args.trx.now.id.0 in
    let log = c.args.trx.now.log.0 in
    let n = c.args.trx.now.records.0 in
    let ed : c.in_ok-before.before.doc.0 ≡ c.args.doc.0 = ap (λ (d : DocId). d.0) c.in_ok-before.ensures.doc in
    let e = c.in_ok-before.ensures.value there pages store (let a = may.at in a.told')
    (let a = may.at in a.stands) may.directory ∙ ap (row_before store) (sym ed) in
    let may' = subst (λ (d : ℕ). MayPlan (g.P.Pages.state c.live_row.new.p).told trx log n d c.args.rows.now
    c.args.space.now there pages store l) (sym ed)
    (subst (λ o. MayPlan o trx log n c.args.doc.0 c.args.rows.now c.args.space.now there pages store l)
    (sym c.live_row.ensures.told) may) in
    let keep' = subst (λ (d : ℕ). CanKeep (g.P.Pages.state c.live_row.new.p).count (row_before store d)) (sym ed)
    (subst (λ (k : ℕ). CanKeep k (row_before store c.args.doc.0)) (sym c.live_row.ensures.uses.count) keep) in
    c.patch_row.ensures.never there pages store l may' e keep'

pub returns-clause-patches : goal.returns-clause-patches
returns-clause-patches g c = λ there pages store l m may can.
    let trx = c.args.trx.now.id.0 in
    let log = c.args.trx.now.log.0 in
    let n = c.args.trx.now.records.0 in
    let runs = c.args.runs.now in
    let ed : c.in_ok-before.before.doc.0 ≡ c.args.doc.0 = ap (λ (d : DocId). d.0) c.in_ok-before.ensures.doc in
    let e = c.in_ok-before.ensures.value there pages store (let a = may.at in a.told')
    (let a = may.at in a.stands) may.directory ∙ ap (row_before store) (sym ed) in
    let may' = subst (λ (d : ℕ). MayPlan (g.P.Pages.state c.live_row.new.p).told trx log n d c.args.rows.now
    c.args.space.now there pages store l) (sym ed)
    (subst (λ o. MayPlan o trx log n c.args.doc.0 c.args.rows.now c.args.space.now there pages store l)
    (sym c.live_row.ensures.told) may) in
    let can' = subst (λ (d : ℕ). CanPatch d runs m store) (sym ed) can in
    subst (λ (d : ℕ). OnOk c.patch_row.result (Becomes (g.P.Pages.state c.patch_row.new.p).told
    (λ new. PatchesRuns l trx n d runs c.patch_row.new.rows store new × (c.patch_row.new.space ≤ free_of new)))) ed
    (c.patch_row.ensures.patches there pages store l m may' e can')
