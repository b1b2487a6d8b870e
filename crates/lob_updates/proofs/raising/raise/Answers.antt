use Rattle.std.proofs.Common.{◌≡◌, true, false, ℕ, [], ◌∷◌, Result, IsOk, refl, sym, ap, subst, ◌∙◌, lit≤, arith}
use Rattle.engine_base.specs.declared.fault.Fault.{Fault}
use Rattle.engine_base.specs.declared.ids.DocId.{DocId}
use Rattle.engine_base.specs.declared.ids.PageNo.{PageNo}
use Rattle.lob_pages.specs.declared.lob_ref.LobRef.{LobRef}
use Rattle.store_data.specs.Store.{versioned, Reference, Row}
use Rattle.store_model.specs.History.{row_before}
use Rattle.store_model.specs.Events.{raised, version_begun}
use Rattle.store_parts.specs.Shows.{reference_of, touched_from, row_of}
use Rattle.undo_records.specs.Records.{row_of as row_there, state_of}
use Rattle.lob_pages.specs.References.{reference_of as reference_there}
use Rattle.transactions.specs.Keeping.{CanKeep}
use Rattle.transactions.specs.Changes.{plan_by}
use Rattle.page_model.proofs.StepLemmas.{may_within, may_other, uses_more, uses_within, uses_other, within_nil}
use Rattle.file_lists.proofs.LinkLemmas.{handed_on}
use Rattle.transactions.specs.Plans.{PlansChange}
use Rattle.lob_updates.specs.Plans.{MayPlan}
use Rattle.lob_updates.proofs.PlanLemmas.{row_raised, free_kept}
use Rattle.lob_updates.proofs.RaiseLemmas.{raised_at, raise_made}
use Rattle.lob_updates.proofs.raising.raise.Goals as goal

pub returns-in_err-before-clause-uses : goal.returns-in_err-before-clause-uses
returns-in_err-before-clause-uses g c =
    let ns = c.args.trx.now.log.0 ∷ 0 ∷ [] in
    uses_more [] ns 1 7 0 17578 _ _ c.live_row.ensures.uses (within_nil ns) (lit≤ tt) (lit≤ tt)

pub returns-in_err-lob-clause-uses : goal.returns-in_err-lob-clause-uses
returns-in_err-lob-clause-uses g c =
    let ns = c.args.trx.now.log.0 ∷ 0 ∷ [] in
    uses_more [] ns 1 7 0 17578 _ _ c.live_row.ensures.uses (within_nil ns) (lit≤ tt) (lit≤ tt)

pub record_change-requires-clause-may : goal.record_change-requires-clause-may
record_change-requires-clause-may g c =
    let ns = c.args.trx.now.log.0 ∷ 0 ∷ [] in
    may_within ns ns 7 17578 1 0 5 17566 c.args.p.now c.live_row.new.p (λ n is. is) (lit≤ tt) (lit≤ tt)
    c.requires.may
    (uses_more [] ns 1 1 0 0 _ _ c.live_row.ensures.uses (within_nil ns) (lit≤ tt) (lit≤ tt))

pub returns-in_err-record_change-clause-uses : goal.returns-in_err-record_change-clause-uses
returns-in_err-record_change-clause-uses g c =
    let ns = c.args.trx.now.log.0 ∷ 0 ∷ [] in
    uses_more ns ns 6 7 17566 17578 _ _
    (uses_within g.P.Pages.stays_on ns ns 1 0 5 17566 c.args.p.now c.live_row.new.p c.record_change.new.p (λ n is. is)
    (uses_more [] ns 1 1 0 0 _ _ c.live_row.ensures.uses (within_nil ns) (lit≤ tt) (lit≤ tt))
    c.record_change.ensures.uses) (λ n is. is) (lit≤ tt) (lit≤ tt)

pub set_version-requires-clause-may : goal.set_version-requires-clause-may
set_version-requires-clause-may g c =
    let ns = c.args.trx.now.log.0 ∷ 0 ∷ [] in
    may_other ns c.in_ok-lob.lob.page.0 7 17578 6 17566 12 c.args.p.now c.record_change.new.p (lit≤ tt) (lit≤ tt)
    c.requires.may
    (uses_within g.P.Pages.stays_on ns ns 1 0 5 17566 c.args.p.now c.live_row.new.p c.record_change.new.p (λ n is. is)
    (uses_more [] ns 1 1 0 0 _ _ c.live_row.ensures.uses (within_nil ns) (lit≤ tt) (lit≤ tt))
    c.record_change.ensures.uses)

pub returns-in_err-set_version-clause-uses : goal.returns-in_err-set_version-clause-uses
returns-in_err-set_version-clause-uses g c =
    let ns = c.args.trx.now.log.0 ∷ 0 ∷ [] in
    uses_other g.P.Pages.stays_on ns c.in_ok-lob.lob.page.0 6 17566 12 c.args.p.now c.record_change.new.p c.set_version.new.p
    (uses_within g.P.Pages.stays_on ns ns 1 0 5 17566 c.args.p.now c.live_row.new.p c.record_change.new.p (λ n is. is)
    (uses_more [] ns 1 1 0 0 _ _ c.live_row.ensures.uses (within_nil ns) (lit≤ tt) (lit≤ tt))
    c.record_change.ensures.uses) c.set_version.ensures.uses

pub returns-clause-uses : goal.returns-clause-uses
returns-clause-uses g c =
    let ns = c.args.trx.now.log.0 ∷ 0 ∷ [] in
    uses_other g.P.Pages.stays_on ns c.in_ok-lob.lob.page.0 6 17566 12 c.args.p.now c.record_change.new.p c.set_version.new.p
    (uses_within g.P.Pages.stays_on ns ns 1 0 5 17566 c.args.p.now c.live_row.new.p c.record_change.new.p (λ n is. is)
    (uses_more [] ns 1 1 0 0 _ _ c.live_row.ensures.uses (within_nil ns) (lit≤ tt) (lit≤ tt))
    c.record_change.ensures.uses) c.set_version.ensures.uses

pub returns-in_err-before-clause-never : goal.returns-in_err-before-clause-never
returns-in_err-before-clause-never g c = λ there pages store l may keep few.
    handed_on c.live_row.result _ _
    (c.live_row.ensures.never there pages store (let a = may.at in a.told') (let a = may.at in a.stands)
    may.directory may.live' keep.first) c.in_err-before.was c.from_residual.ensures

pub returns-in_err-lob-clause-never : goal.returns-in_err-lob-clause-never
returns-in_err-lob-clause-never g c = λ there pages store l may keep few.
    let e = c.in_ok-before.ensures.value there pages store (let a = may.at in a.told')
    (let a = may.at in a.stands) may.directory in
    let v : c.in_ok-before.before.lob.version.0 ≡ (row_before store c.args.doc.0).lob.version =
    ap (λ (r : Row). r.lob.version) e in
    let ok = c.next_version.ensures.never (omega (arith, v, few)) in
    absurd (let P : Result LobRef Fault → Type 0 = λ r. IsOk r in
    let no : false ≡ true = subst P c.in_err-lob.was ok in cc)

pub returns-in_err-record_change-clause-never : goal.returns-in_err-record_change-clause-never
returns-in_err-record_change-clause-never g c = λ there pages store l may keep few.
    let ed : c.in_ok-before.before.doc.0 ≡ c.args.doc.0 =
    ap (λ (d : DocId). d.0) c.in_ok-before.ensures.doc in
    let e = c.in_ok-before.ensures.value there pages store (let a = may.at in a.told')
    (let a = may.at in a.stands) may.directory ∙ ap (row_before store) (sym ed) in
    let keep' = subst (λ (d : ℕ). CanKeep (g.P.Pages.state c.live_row.new.p).count (row_before store d)) (sym ed)
    (subst (λ (k : ℕ). CanKeep k (row_before store c.args.doc.0)) (sym c.live_row.ensures.uses.count) keep) in
    handed_on c.record_change.result _ _
    (c.record_change.ensures.never there pages store l
    (c.live_row.ensures.told ∙ (let a = may.at in a.told')) (let a = may.at in a.stands) may.work e keep'
    may.directory may.covered) c.in_err-record_change.was c.from_residual-in_err-record_change.ensures

pub returns-clause-shows : goal.returns-clause-shows
returns-clause-shows g c = λ there pages store l may.
    let e = c.in_ok-before.ensures.value there pages store (let a = may.at in a.told')
    (let a = may.at in a.stands) may.directory in
    c.in_ok-lob.ensures.raised ∙ ap (λ (r : Row). raised r.lob) e

pub returns-clause-raises : goal.returns-clause-raises
returns-clause-raises g c = λ there pages store l may.
    let told = (g.P.Pages.state c.args.p.now).told in
    let trx = c.args.trx.now.id.0 in
    let log = c.args.trx.now.log.0 in
    let n = c.args.trx.now.records.0 in
    let before = c.in_ok-before.before in
    let lob = c.in_ok-lob.lob in
    let b = row_of (row_there before) in
    let ks = c.args.touched.pieces in
    let touched = touched_from 0 ks c.args.touched.bits in
    let ed : before.doc.0 ≡ c.args.doc.0 = ap (λ (d : DocId). d.0) c.in_ok-before.ensures.doc in
    let d = before.doc.0 in
    let may' = subst (λ (d : ℕ). MayPlan told trx log n d c.args.rows.now c.args.space.now there pages store l)
    (sym ed) may in
    let e : b ≡ row_before store d =
    c.in_ok-before.ensures.value there pages store (let a = may.at in a.told')
    (let a = may.at in a.stands) may.directory ∙ ap (row_before store) (sym ed) in
    let m = c.in_ok-record_change.ensures.changes there pages store l
    (c.live_row.ensures.told ∙ (let a = may.at in a.told')) (let a = may.at in a.stands) may.work e
    may.directory may.covered in
    let mid = m.0 in
    let ch = m.2.0 in
    let first = ap (λ (q : PageNo). q.0) c.in_ok-lob.ensures.page in
    let next = ap (λ (r : Reference). r.version) c.in_ok-lob.ensures.raised in
    let at = raised_at told trx log n d c.args.rows.now c.args.space.now there pages store l may' b _ e ks touched
    c.record_change.new.rows mid ch lob.page.0 lob.version.0 first next in
    let s = c.in_ok-set_version.ensures.lob mid at.lob m.1 (let a = at.at in a.here) (let a = at.at in a.stands)
    at.falling in
    let made = raise_made told trx log n d c.args.rows.now c.args.space.now there pages store l may' b _ e ks touched
    c.record_change.new.rows mid ch lob.page.0 lob.version.0 first next
    (row_raised (plan_by trx n d ch.place) b (state_of before.state) (reference_of (reference_there lob)) refl
    c.in_ok-lob.ensures.raised) s.0 s.2 in
    let kept = free_kept _ mid _ lob.page.0 at.lob s.0 at.at (let h = s.2 in h.outside) in (
      s.0,
      s.1,
      (
        subst (λ (d : ℕ). PlansChange l (plan_by trx n d) (versioned ks touched)
            (λ plan. version_begun plan ks touched) c.record_change.new.rows store s.0) ed made,
        (let cov = m.2.1 in omega (arith, cov, kept)),
      ),
    )
