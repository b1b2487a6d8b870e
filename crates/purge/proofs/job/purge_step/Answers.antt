use Rattle.std.proofs.Common.{[], ◌∷◌, refl, sym, ap, ◌∙◌, lit≤}
use Rattle.page_model.proofs.StepLemmas.{may_less, may_within, uses_at_most, uses_more, uses_within, within_one}
use Rattle.file_lists.proofs.LinkLemmas.{handed_on}
use Rattle.lob_index.proofs.AnswerLemmas.{becomes_on, if_ok, on_ok}
use Rattle.store_data.specs.Store.{committed, purging}
use Rattle.store_model.specs.Steps.{last_in}
use Rattle.purge.specs.Events.{behind}
use Rattle.store_steps.specs.Reached.{piece_in}
use Rattle.purge.specs.Made.{step_behind}
use Rattle.purge.proofs.LogLemmas.{at_first, page_is, state_is, on_told}
use Rattle.purge.proofs.ConsistentLemmas.{steps}
use Rattle.purge.proofs.JobLemmas.{begun_is, not_begun, due_is, job_next, begin_made, made_on, none_kept}
use Rattle.engine_base.specs.declared.ids.PageNo.{PageNo}
use Rattle.purge.proofs.NextLemmas.{goes_on_from, goes_on_by}
use Rattle.purge.proofs.job.purge_step.Goals as goal

pub purge_begun-requires-clause-may : goal.purge_begun-requires-clause-may
purge_begun-requires-clause-may g c =
    let log = c.args.job.now.log.0 in
    may_less (log ∷ 0 ∷ []) (log ∷ []) 12 0 225 0 _ c.requires.may (within_one log (0 ∷ [])) (lit≤ tt)
    (lit≤ tt)

pub returns-in_err-purge_begun-clause-uses : goal.returns-in_err-purge_begun-clause-uses
returns-in_err-purge_begun-clause-uses g c =
    let log = c.args.job.now.log.0 in
    uses_more (log ∷ []) (log ∷ 0 ∷ []) 0 12 0 225 _ _ c.purge_begun.ensures.uses
    (within_one log (0 ∷ [])) (lit≤ tt) (lit≤ tt)

pub begin-requires-clause-may : goal.begin-requires-clause-may
begin-requires-clause-may g c =
    let log = c.args.job.now.log.0 in
    let ns = log ∷ 0 ∷ [] in
    may_within ns (log ∷ []) 12 225 0 0 0 9 c.args.p.now c.purge_begun.new.p (within_one log (0 ∷ []))
    (lit≤ tt) (lit≤ tt) c.requires.may
    (uses_more (log ∷ []) ns 0 0 0 0 _ _ c.purge_begun.ensures.uses (within_one log (0 ∷ [])) (lit≤ tt)
    (lit≤ tt))

pub returns-in_err-begin-clause-uses : goal.returns-in_err-begin-clause-uses
returns-in_err-begin-clause-uses g c =
    let log = c.args.job.now.log.0 in
    let ns = log ∷ 0 ∷ [] in
    uses_at_most ns 0 9 12 225 _ _ (lit≤ tt) (lit≤ tt)
    (uses_within g.P.Pages.stays_on ns (log ∷ []) 0 0 0 9 c.args.p.now c.purge_begun.new.p c.begin.new.p
    (within_one log (0 ∷ []))
    (uses_more (log ∷ []) ns 0 0 0 0 _ _ c.purge_begun.ensures.uses (within_one log (0 ∷ [])) (lit≤ tt)
    (lit≤ tt)) c.begin.ensures.uses)

pub returns-then-not-branch-clause-uses : goal.returns-then-not-branch-clause-uses
returns-then-not-branch-clause-uses g c =
    let log = c.args.job.now.log.0 in
    let ns = log ∷ 0 ∷ [] in
    uses_at_most ns 0 9 12 225 _ _ (lit≤ tt) (lit≤ tt)
    (uses_within g.P.Pages.stays_on ns (log ∷ []) 0 0 0 9 c.args.p.now c.purge_begun.new.p c.begin.new.p
    (within_one log (0 ∷ []))
    (uses_more (log ∷ []) ns 0 0 0 0 _ _ c.purge_begun.ensures.uses (within_one log (0 ∷ [])) (lit≤ tt)
    (lit≤ tt)) c.begin.ensures.uses)

pub record_due-requires-clause-may : goal.record_due-requires-clause-may
record_due-requires-clause-may g c =
    let log = c.args.job.now.log.0 in
    let ns = log ∷ 0 ∷ [] in
    may_within ns (log ∷ []) 12 225 0 0 2 0 c.args.p.now c.purge_begun.new.p (within_one log (0 ∷ []))
    (lit≤ tt) (lit≤ tt) c.requires.may
    (uses_more (log ∷ []) ns 0 0 0 0 _ _ c.purge_begun.ensures.uses (within_one log (0 ∷ [])) (lit≤ tt)
    (lit≤ tt))

pub returns-in_err-due-clause-uses : goal.returns-in_err-due-clause-uses
returns-in_err-due-clause-uses g c =
    let log = c.args.job.now.log.0 in
    let ns = log ∷ 0 ∷ [] in
    uses_at_most ns 2 0 12 225 _ _ (lit≤ tt) (lit≤ tt)
    (uses_within g.P.Pages.stays_on ns (log ∷ []) 0 0 2 0 c.args.p.now c.purge_begun.new.p
    c.record_due.new.p (within_one log (0 ∷ []))
    (uses_more (log ∷ []) ns 0 0 0 0 _ _ c.purge_begun.ensures.uses (within_one log (0 ∷ [])) (lit≤ tt)
    (lit≤ tt)) c.record_due.ensures.uses)

pub go_on-requires-clause-may : goal.go_on-requires-clause-may
go_on-requires-clause-may g c =
    let log = c.args.job.now.log.0 in
    let ns = log ∷ 0 ∷ [] in
    may_within ns ns 12 225 2 0 10 225 c.args.p.now c.record_due.new.p (λ n is. is) (lit≤ tt) (lit≤ tt)
    c.requires.may
    (uses_within g.P.Pages.stays_on ns (log ∷ []) 0 0 2 0 c.args.p.now c.purge_begun.new.p
    c.record_due.new.p (within_one log (0 ∷ []))
    (uses_more (log ∷ []) ns 0 0 0 0 _ _ c.purge_begun.ensures.uses (within_one log (0 ∷ [])) (lit≤ tt)
    (lit≤ tt)) c.record_due.ensures.uses)

pub returns-clause-uses : goal.returns-clause-uses
returns-clause-uses g c =
    let log = c.args.job.now.log.0 in
    let ns = log ∷ 0 ∷ [] in
    uses_within g.P.Pages.stays_on ns ns 2 0 10 225 c.args.p.now c.record_due.new.p c.go_on.new.p
    (λ n is. is)
    (uses_within g.P.Pages.stays_on ns (log ∷ []) 0 0 2 0 c.args.p.now c.purge_begun.new.p
    c.record_due.new.p (within_one log (0 ∷ []))
    (uses_more (log ∷ []) ns 0 0 0 0 _ _ c.purge_begun.ensures.uses (within_one log (0 ∷ [])) (lit≤ tt)
    (lit≤ tt)) c.record_due.ensures.uses) c.go_on.ensures.uses

pub returns-in_err-purge_begun-clause-never : goal.returns-in_err-purge_begun-clause-never
returns-in_err-purge_begun-clause-never g c = λ there pages store l ls j dir.
    handed_on c.purge_begun.result _ _ c.purge_begun.ensures.plain c.in_err-purge_begun.was
    c.from_residual.ensures

pub returns-in_err-begin-clause-never : goal.returns-in_err-begin-clause-never
returns-in_err-begin-clause-never g c = λ there pages store l ls j dir.
    handed_on c.begin.result _ _ c.begin.ensures.plain c.in_err-begin.was
    c.from_residual-in_err-begin.ensures

pub returns-in_err-due-clause-never : goal.returns-in_err-due-clause-never
returns-in_err-due-clause-never g c = λ there pages store l ls j dir.
    let k = job_next _ _ c.args.job.now there pages store l ls j c.purge_begun.ensures.told in
    handed_on c.record_due.result _ _ (c.record_due.ensures.never there pages store l ls k.at)
    c.in_err-due.was c.from_residual-in_err-due.ensures

pub returns-then-not-branch-clause-makes : goal.returns-then-not-branch-clause-makes
returns-then-not-branch-clause-makes g c = λ there pages store l ls j dir.
    let log = c.args.job.now.log.0 in
    let at = j.at in
    let f = at_first _ log there pages store l ls at in
    let read = c.in_ok-purge_begun.ensures.value f.log (page_is _ log there pages store l ls at) pages
    at.told' f.stands in
    let state = not_begun f.log.state f.state (sym read ∙ c.if-not-branch.true) in
    let is = sym (state_is _ log there pages store l ls at) ∙ state in
    let k = job_next _ _ c.args.job.now there pages store l ls j c.purge_begun.ensures.told in
    let e = due_is store (piece_in c.args.job.now.dropped) l ls committed at.first is in
    becomes_on _ _ _ (λ new on. steps _ store new l ls (piece_in c.args.job.now.dropped) j.consistent at.first
    (made_on _ _ _ store new e (begin_made _ store there new on dir)))
    (c.in_ok-begin.ensures.begins there pages store l ls k.at is)

pub returns-then-not-branch-clause-ends : goal.returns-then-not-branch-clause-ends
returns-then-not-branch-clause-ends g c = λ there pages store l ls j dir.
    let log = c.args.job.now.log.0 in
    let at = j.at in
    let f = at_first _ log there pages store l ls at in
    let read = c.in_ok-purge_begun.ensures.value f.log (page_is _ log there pages store l ls at) pages
    at.told' f.stands in
    let state = not_begun f.log.state f.state (sym read ∙ c.if-not-branch.true) in
    let is = sym (state_is _ log there pages store l ls at) ∙ state in
    ap step_behind (sym (due_is store (piece_in c.args.job.now.dropped) l ls committed at.first is))

pub returns-then-not-branch-clause-comes : goal.returns-then-not-branch-clause-comes
returns-then-not-branch-clause-comes g c = λ there pages store l ls j dir.
    let log = c.args.job.now.log.0 in
    let at = j.at in
    let f = at_first _ log there pages store l ls at in
    let read = c.in_ok-purge_begun.ensures.value f.log (page_is _ log there pages store l ls at) pages
    at.told' f.stands in
    let state = not_begun f.log.state f.state (sym read ∙ c.if-not-branch.true) in
    let is = sym (state_is _ log there pages store l ls at) ∙ state in
    ap behind (sym (due_is store (piece_in c.args.job.now.dropped) l ls committed at.first is))

pub returns-clause-makes : goal.returns-clause-makes
returns-clause-makes g c = λ there pages store l ls j dir.
    let log = c.args.job.now.log.0 in
    let at = j.at in
    let f = at_first _ log there pages store l ls at in
    let read = c.in_ok-purge_begun.ensures.value f.log (page_is _ log there pages store l ls at) pages
    at.told' f.stands in
    let begun = sym (state_is _ log there pages store l ls at)
    ∙ begun_is f.log.state (sym read ∙ c.if-not-branch.false) in
    let k = job_next _ _ c.args.job.now there pages store l ls j c.purge_begun.ensures.told in
    let last = c.in_ok-due.ensures.value there pages store l ls k.at in
    let k' = job_next _ _ c.args.job.now there pages store l ls k c.record_due.ensures.told in
    let e = due_is store (piece_in c.args.job.now.dropped) l ls purging at.first begun in
    on_told c.go_on.result _ _ _ (λ new m. steps _ store new l ls (piece_in c.args.job.now.dropped) j.consistent at.first
    (made_on _ _ _ store new e m))
    (c.go_on.ensures.makes there pages store l ls k' begun last dir)

pub returns-clause-ends : goal.returns-clause-ends
returns-clause-ends g c = λ there pages store l ls j dir.
    let log = c.args.job.now.log.0 in
    let at = j.at in
    let f = at_first _ log there pages store l ls at in
    let read = c.in_ok-purge_begun.ensures.value f.log (page_is _ log there pages store l ls at) pages
    at.told' f.stands in
    let begun = sym (state_is _ log there pages store l ls at)
    ∙ begun_is f.log.state (sym read ∙ c.if-not-branch.false) in
    let k = job_next _ _ c.args.job.now there pages store l ls j c.purge_begun.ensures.told in
    let last = c.in_ok-due.ensures.value there pages store l ls k.at in
    let k' = job_next _ _ c.args.job.now there pages store l ls k c.record_due.ensures.told in
    let e = due_is store (piece_in c.args.job.now.dropped) l ls purging at.first begun in
    if_ok _ _ c.go_on.result (λ step is. is ∙ ap step_behind (sym e))
    (c.go_on.ensures.ends there pages store l ls k' begun last dir)

pub returns-clause-comes : goal.returns-clause-comes
returns-clause-comes g c = λ there pages store l ls j dir.
    let log = c.args.job.now.log.0 in
    let at = j.at in
    let f = at_first _ log there pages store l ls at in
    let read = c.in_ok-purge_begun.ensures.value f.log (page_is _ log there pages store l ls at) pages
    at.told' f.stands in
    let begun = sym (state_is _ log there pages store l ls at)
    ∙ begun_is f.log.state (sym read ∙ c.if-not-branch.false) in
    let k = job_next _ _ c.args.job.now there pages store l ls j c.purge_begun.ensures.told in
    let last = c.in_ok-due.ensures.value there pages store l ls k.at in
    let k' = job_next _ _ c.args.job.now there pages store l ls k c.record_due.ensures.told in
    let e = due_is store (piece_in c.args.job.now.dropped) l ls purging at.first begun in
    on_ok _ _ c.go_on.result (λ is. is ∙ ap behind (sym e))
    (c.go_on.ensures.comes there pages store l ls k' begun last dir)

pub returns-clause-never : goal.returns-clause-never
returns-clause-never g c = λ there pages store l ls j dir.
    let log = c.args.job.now.log.0 in
    let at = j.at in
    let f = at_first _ log there pages store l ls at in
    let read = c.in_ok-purge_begun.ensures.value f.log (page_is _ log there pages store l ls at) pages
    at.told' f.stands in
    let begun = sym (state_is _ log there pages store l ls at)
    ∙ begun_is f.log.state (sym read ∙ c.if-not-branch.false) in
    let k = job_next _ _ c.args.job.now there pages store l ls j c.purge_begun.ensures.told in
    let last = c.in_ok-due.ensures.value there pages store l ls k.at in
    let k' = job_next _ _ c.args.job.now there pages store l ls k c.record_due.ensures.told in
    c.go_on.ensures.never there pages store l ls k' begun last dir

pub returns-then-not-branch-clause-head : goal.returns-then-not-branch-clause-head
returns-then-not-branch-clause-head g c = λ there pages store l ls j.
    none_kept store.lobs (last_in l.records)

pub returns-clause-head : goal.returns-clause-head
returns-clause-head g c = λ there pages store l ls j.
    let k = job_next _ _ c.args.job.now there pages store l ls j c.purge_begun.ensures.told in
    let last = c.in_ok-due.ensures.value there pages store l ls k.at in
    let k' = job_next _ _ c.args.job.now there pages store l ls k c.record_due.ensures.told in
    c.go_on.ensures.head there pages store l ls k' last

pub returns-then-not-branch-clause-again : goal.returns-then-not-branch-clause-again
returns-then-not-branch-clause-again g c = λ there pages store l ls j dir.
    let log = c.args.job.now.log.0 in
    let at = j.at in
    let f = at_first _ log there pages store l ls at in
    let read = c.in_ok-purge_begun.ensures.value f.log (page_is _ log there pages store l ls at) pages
    at.told' f.stands in
    let state = not_begun f.log.state f.state (sym read ∙ c.if-not-branch.true) in
    let is = sym (state_is _ log there pages store l ls at) ∙ state in
    let k = job_next _ _ c.args.job.now there pages store l ls j c.purge_begun.ensures.told in
    let last = piece_in c.args.job.now.dropped in
    let e = due_is store last l ls committed at.first is in
    let b = c.in_ok-begin.ensures.begins there pages store l ls k.at is in (
      b.0,
      b.1,
      goes_on_from _ _ c.args.job.now _ there pages store l ls j _ b.0 b.1 refl
          (none_kept store.lobs (last_in l.records)) last (ap behind (sym e))
          (made_on _ _ _ store b.0 e (begin_made _ store there b.0 b.2 dir)),
    )

pub returns-clause-again : goal.returns-clause-again
returns-clause-again g c = λ there pages store l ls j dir.
    let log = c.args.job.now.log.0 in
    let at = j.at in
    let f = at_first _ log there pages store l ls at in
    let read = c.in_ok-purge_begun.ensures.value f.log (page_is _ log there pages store l ls at) pages
    at.told' f.stands in
    let begun = sym (state_is _ log there pages store l ls at)
    ∙ begun_is f.log.state (sym read ∙ c.if-not-branch.false) in
    let k = job_next _ _ c.args.job.now there pages store l ls j c.purge_begun.ensures.told in
    let oldest = c.in_ok-due.ensures.value there pages store l ls k.at in
    let k' = job_next _ _ c.args.job.now there pages store l ls k c.record_due.ensures.told in
    let last = piece_in c.args.job.now.dropped in
    let e = due_is store last l ls purging at.first begun in
    goes_on_by _ _ c.args.job.now _ there pages store l ls j _ last c.go_on.result
    (sym (ap (λ (n : PageNo). n.0) c.go_on.ensures.log))
    (c.go_on.ensures.head there pages store l ls k' oldest)
    (on_ok _ _ c.go_on.result (λ is. is ∙ ap behind (sym e))
    (c.go_on.ensures.comes there pages store l ls k' begun oldest dir))
    (on_told c.go_on.result _ _ _ (λ new m. made_on _ _ _ store new e m)
    (c.go_on.ensures.makes there pages store l ls k' begun oldest dir))
