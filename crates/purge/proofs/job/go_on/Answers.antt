use Rattle.std.proofs.Common.{List, [], ◌∷◌, Option, sym, ap, subst, ◌∙◌, lit≤}
use Rattle.page_model.specs.Pages.{Address}
use Rattle.page_model.proofs.StepLemmas.{may_less, uses_at_most}
use Rattle.file_lists.proofs.LinkLemmas.{handed_on}
use Rattle.lob_index.proofs.AnswerLemmas.{becomes_on}
use Rattle.store_data.specs.Store.{Record}
use Rattle.store_model.specs.Steps.{last_in}
use Rattle.purge.specs.declared.due.Due.{Due}
use Rattle.purge.specs.Due.{entry_due, due_entry}
use Rattle.purge.specs.Events.{due_record, behind}
use Rattle.store_steps.specs.Reached.{piece_in}
use Rattle.purge.specs.Job.{AllDue, IsHeadIn, CanPurge}
use Rattle.purge.specs.Made.{step_if, step_behind}
use Rattle.purge.proofs.JobLemmas.{record_on, last_none, page_made, page_ends, made_on, none_kept}
use Rattle.purge.proofs.job.go_on.Goals as goal

pub returns-in_err-dropped-in-Some-clause-never : goal.returns-in_err-dropped-in-Some-clause-never
returns-in_err-dropped-in-Some-clause-never g c = λ there pages store l ls j begun last dir.
    let oldest = last ∙ ap (λ (o : Option Due). due_entry o) c.in-Some.is in
    let can = subst (AllDue (CanPurge c.args.job.now.dropped store.lobs)) oldest j.can in
    handed_on c.purge_record.result _ _
    (c.purge_record.ensures.never there pages store l ls j.at j.consistent oldest can dir)
    c.in_err-dropped-in-Some.was c.from_residual.ensures

pub returns-in_ok-dropped-in-Some-clause-makes : goal.returns-in_ok-dropped-in-Some-clause-makes
returns-in_ok-dropped-in-Some-clause-makes g c = λ there pages store l ls j begun last dir.
    let at = piece_in c.args.job.now.dropped in
    let oldest = last ∙ ap (λ (o : Option Due). due_entry o) c.in-Some.is in
    let can = subst (AllDue (CanPurge c.args.job.now.dropped store.lobs)) oldest j.can in
    let made = c.in_ok-dropped-in-Some.ensures.makes there pages store l ls j.at j.consistent oldest can
    dir in
    let e = ap (λ (es : List (Address × Record)). due_record l store.lobs at es) oldest in
    becomes_on _ _ _ (λ new m. made_on _ _ _ store new e m) made.0

pub returns-in_ok-dropped-in-Some-clause-ends : goal.returns-in_ok-dropped-in-Some-clause-ends
returns-in_ok-dropped-in-Some-clause-ends g c = λ there pages store l ls j begun last dir.
    let at = piece_in c.args.job.now.dropped in
    let u = entry_due c.in-Some.due in
    let oldest = last ∙ ap (λ (o : Option Due). due_entry o) c.in-Some.is in
    sym (ap (λ (es : List (Address × Record)). step_behind (due_record l store.lobs at es)) oldest
    ∙ ap step_if (record_on u.1.body u.1.before store.lobs at u.0 l.trx u.1))

pub returns-in_ok-dropped-in-Some-clause-comes : goal.returns-in_ok-dropped-in-Some-clause-comes
returns-in_ok-dropped-in-Some-clause-comes g c = λ there pages store l ls j begun last dir.
    let at = piece_in c.args.job.now.dropped in
    let oldest = last ∙ ap (λ (o : Option Due). due_entry o) c.in-Some.is in
    let can = subst (AllDue (CanPurge c.args.job.now.dropped store.lobs)) oldest j.can in
    let made = c.in_ok-dropped-in-Some.ensures.makes there pages store l ls j.at j.consistent oldest can
    dir in
    made.1 ∙ sym (ap (λ (es : List (Address × Record)). behind (due_record l store.lobs at es)) oldest)

pub returns-in_ok-dropped-in-Some-clause-fit : goal.returns-in_ok-dropped-in-Some-clause-fit
returns-in_ok-dropped-in-Some-clause-fit g c = c.in_ok-dropped-in-Some.ensures.fit

pub give_page-requires-clause-may : goal.give_page-requires-clause-may
give_page-requires-clause-may g c =
    let ns = c.args.job.now.log.0 ∷ 0 ∷ [] in
    may_less ns ns 10 2 225 77 _ c.requires.may (λ n is. is) (lit≤ tt) (lit≤ tt)

pub returns-in_err-left-in-None-clause-uses : goal.returns-in_err-left-in-None-clause-uses
returns-in_err-left-in-None-clause-uses g c =
    uses_at_most (c.args.job.now.log.0 ∷ 0 ∷ []) 2 77 10 225 _ _ (lit≤ tt) (lit≤ tt)
    c.give_page.ensures.uses

pub returns-in_ok-left-in-None-clause-uses : goal.returns-in_ok-left-in-None-clause-uses
returns-in_ok-left-in-None-clause-uses g c =
    uses_at_most (c.args.job.now.log.0 ∷ 0 ∷ []) 2 77 10 225 _ _ (lit≤ tt) (lit≤ tt)
    c.give_page.ensures.uses

pub returns-in_err-left-in-None-clause-never : goal.returns-in_err-left-in-None-clause-never
returns-in_err-left-in-None-clause-never g c = λ there pages store l ls j begun last dir.
    let gone = last ∙ ap (λ (o : Option Due). due_entry o) c.in-None.is in
    handed_on c.give_page.result _ _
    (c.give_page.ensures.never there pages store l ls j.at begun (last_none l.records gone))
    c.in_err-left-in-None.was c.from_residual-in_err-left-in-None.ensures

pub returns-in_ok-left-in-None-clause-makes : goal.returns-in_ok-left-in-None-clause-makes
returns-in_ok-left-in-None-clause-makes g c = λ there pages store l ls j begun last dir.
    let at = piece_in c.args.job.now.dropped in
    let gone = last ∙ ap (λ (o : Option Due). due_entry o) c.in-None.is in
    let given = c.in_ok-left-in-None.ensures.gives there pages store l ls j.at begun
    (last_none l.records gone) in
    let e = ap (λ (es : List (Address × Record)). due_record l store.lobs at es) gone in
    becomes_on _ _ _ (λ new on. made_on _ _ _ store new e (page_made l.pages _ store there new on dir))
    given.0

pub returns-in_ok-left-in-None-clause-ends : goal.returns-in_ok-left-in-None-clause-ends
returns-in_ok-left-in-None-clause-ends g c = λ there pages store l ls j begun last dir.
    let at = piece_in c.args.job.now.dropped in
    let gone = last ∙ ap (λ (o : Option Due). due_entry o) c.in-None.is in
    let given = c.in_ok-left-in-None.ensures.gives there pages store l ls j.at begun
    (last_none l.records gone) in
    c.step_where.ensures ∙ ap step_if given.1
    ∙ sym (ap (λ (es : List (Address × Record)). step_behind (due_record l store.lobs at es)) gone)

pub returns-in_ok-left-in-None-clause-comes : goal.returns-in_ok-left-in-None-clause-comes
returns-in_ok-left-in-None-clause-comes g c = λ there pages store l ls j begun last dir.
    let at = piece_in c.args.job.now.dropped in
    let gone = last ∙ ap (λ (o : Option Due). due_entry o) c.in-None.is in
    page_ends l.pages
    ∙ sym (ap (λ (es : List (Address × Record)). behind (due_record l store.lobs at es)) gone)

pub returns-in_ok-dropped-in-Some-clause-head : goal.returns-in_ok-dropped-in-Some-clause-head
returns-in_ok-dropped-in-Some-clause-head g c = λ there pages store l ls j last.
    let oldest = last ∙ ap (λ (o : Option Due). due_entry o) c.in-Some.is in
    let can = subst (AllDue (CanPurge c.args.job.now.dropped store.lobs)) oldest j.can in
    subst (AllDue (IsHeadIn c.in_ok-dropped-in-Some.dropped store.lobs)) (sym oldest)
    (c.in_ok-dropped-in-Some.ensures.head there pages store l ls j.at can)

pub returns-in_ok-left-in-None-clause-head : goal.returns-in_ok-left-in-None-clause-head
returns-in_ok-left-in-None-clause-head g c = λ there pages store l ls j last.
    none_kept store.lobs (last_in l.records)
