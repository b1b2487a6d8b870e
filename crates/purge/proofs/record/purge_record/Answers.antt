use Rattle.std.proofs.Common.{ℕ, ◌<◌, [], ◌∷◌, sym, ap, subst, ◌∙◌, lit≤}
use Rattle.page_model.proofs.StepLemmas.{may_less, may_name, uses_more, uses_unnamed, uses_at_most, within_one}
use Rattle.file_lists.proofs.LinkLemmas.{handed_on}
use Rattle.lob_index.proofs.AnswerLemmas.{becomes_on, if_ok}
use Rattle.store_model.specs.Keeps.{Frees}
use Rattle.store_parts.specs.Shows.{body_of, touched_from}
use Rattle.undo_records.specs.Records.{body_of as body_there}
use Rattle.undo_records.specs.declared.record_type.Body.{Body as BodyRead}
use Rattle.purge.specs.Due.{entry_due}
use Rattle.store_steps.specs.Reached.{piece_in}
use Rattle.purge.proofs.LogLemmas.{on_told}
use Rattle.store_steps.proofs.LobLemmas.{lob_at}
use Rattle.purge.proofs.DueLemmas.{ok_not, due_not}
use Rattle.purge.proofs.OwnedLemmas.{first_below}
use Rattle.purge.proofs.RecordLemmas.{heads_in, inserted_made, patched_made, versioned_made, full_made, removed_made, inserted_ends, patched_ends, versioned_ends, full_ends, removed_ends, versioned_lob, full_lob, removed_lob}
use Rattle.purge.proofs.record.purge_record.Goals as goal

pub pass-requires-clause-may : goal.pass-requires-clause-may
pass-requires-clause-may g c =
    let log = c.args.log.0 in
    may_less (log ∷ 0 ∷ []) (log ∷ []) 10 1 225 14 _ c.requires.may (within_one log (0 ∷ [])) (lit≤ tt)
    (lit≤ tt)

pub pass-requires-in-Patched-clause-may : goal.pass-requires-in-Patched-clause-may
pass-requires-in-Patched-clause-may g c =
    let log = c.args.log.0 in
    may_less (log ∷ 0 ∷ []) (log ∷ []) 10 1 225 14 _ c.requires.may (within_one log (0 ∷ [])) (lit≤ tt)
    (lit≤ tt)

pub returns-in_err-pass-in-Insert-clause-uses : goal.returns-in_err-pass-in-Insert-clause-uses
returns-in_err-pass-in-Insert-clause-uses g c =
    let log = c.args.log.0 in
    uses_more (log ∷ []) (log ∷ 0 ∷ []) 1 10 14 225 _ _ c.pass.ensures.uses (within_one log (0 ∷ []))
    (lit≤ tt) (lit≤ tt)

pub returns-in_ok-pass-in-Insert-clause-uses : goal.returns-in_ok-pass-in-Insert-clause-uses
returns-in_ok-pass-in-Insert-clause-uses g c =
    let log = c.args.log.0 in
    uses_more (log ∷ []) (log ∷ 0 ∷ []) 1 10 14 225 _ _ c.pass.ensures.uses (within_one log (0 ∷ []))
    (lit≤ tt) (lit≤ tt)

pub returns-in_err-pass-in-Patched-clause-uses : goal.returns-in_err-pass-in-Patched-clause-uses
returns-in_err-pass-in-Patched-clause-uses g c =
    let log = c.args.log.0 in
    uses_more (log ∷ []) (log ∷ 0 ∷ []) 1 10 14 225 _ _ c.pass-in-Patched.ensures.uses (within_one log (0 ∷ []))
    (lit≤ tt) (lit≤ tt)

pub returns-in_ok-pass-in-Patched-clause-uses : goal.returns-in_ok-pass-in-Patched-clause-uses
returns-in_ok-pass-in-Patched-clause-uses g c =
    let log = c.args.log.0 in
    uses_more (log ∷ []) (log ∷ 0 ∷ []) 1 10 14 225 _ _ c.pass-in-Patched.ensures.uses (within_one log (0 ∷ []))
    (lit≤ tt) (lit≤ tt)

pub purge_versions-requires-clause-may : goal.purge_versions-requires-clause-may
purge_versions-requires-clause-may g c =
    let log = c.args.log.0 in
    may_name c.args.due.now.rec.before.lob.page.0 (log ∷ 0 ∷ []) 9 129 _
    (may_less (log ∷ 0 ∷ []) (log ∷ 0 ∷ []) 10 10 225 129 _ c.requires.may (λ n is. is) (lit≤ tt) (lit≤ tt))

pub purge_full-requires-clause-may : goal.purge_full-requires-clause-may
purge_full-requires-clause-may g c =
    let log = c.args.log.0 in
    may_name c.args.due.now.rec.before.lob.page.0 (log ∷ 0 ∷ []) 4 164 _
    (may_less (log ∷ 0 ∷ []) (log ∷ 0 ∷ []) 10 5 225 164 _ c.requires.may (λ n is. is) (lit≤ tt) (lit≤ tt))

pub purge_removed-requires-clause-may : goal.purge_removed-requires-clause-may
purge_removed-requires-clause-may g c =
    let log = c.args.log.0 in
    may_name c.args.due.now.rec.before.lob.page.0 (log ∷ 0 ∷ []) 8 225 _
    (may_less (log ∷ 0 ∷ []) (log ∷ 0 ∷ []) 10 9 225 225 _ c.requires.may (λ n is. is) (lit≤ tt) (lit≤ tt))

pub returns-in_ok-lob_is_below-in-Versioned-clause-uses : goal.returns-in_ok-lob_is_below-in-Versioned-clause-uses
returns-in_ok-lob_is_below-in-Versioned-clause-uses g c =
    let log = c.args.log.0 in
    uses_at_most (log ∷ 0 ∷ []) 10 129 10 225 _ _ (lit≤ tt) (lit≤ tt)
    (uses_unnamed c.args.due.now.rec.before.lob.page.0 (log ∷ 0 ∷ []) 9 129 _ _ c.purge_versions.ensures.uses)

pub returns-in_err-purge_full-in-Full-clause-uses : goal.returns-in_err-purge_full-in-Full-clause-uses
returns-in_err-purge_full-in-Full-clause-uses g c =
    let log = c.args.log.0 in
    uses_at_most (log ∷ 0 ∷ []) 5 164 10 225 _ _ (lit≤ tt) (lit≤ tt)
    (uses_unnamed c.args.due.now.rec.before.lob.page.0 (log ∷ 0 ∷ []) 4 164 _ _ c.purge_full.ensures.uses)

pub returns-in_err-purge_removed-in-Removed-clause-uses : goal.returns-in_err-purge_removed-in-Removed-clause-uses
returns-in_err-purge_removed-in-Removed-clause-uses g c =
    let log = c.args.log.0 in
    uses_at_most (log ∷ 0 ∷ []) 9 225 10 225 _ _ (lit≤ tt) (lit≤ tt)
    (uses_unnamed c.args.due.now.rec.before.lob.page.0 (log ∷ 0 ∷ []) 8 225 _ _ c.purge_removed.ensures.uses)

pub returns-in_ok-purge_full-in-Full-clause-uses : goal.returns-in_ok-purge_full-in-Full-clause-uses
returns-in_ok-purge_full-in-Full-clause-uses g c =
    let log = c.args.log.0 in
    uses_at_most (log ∷ 0 ∷ []) 5 164 10 225 _ _ (lit≤ tt) (lit≤ tt)
    (uses_unnamed c.args.due.now.rec.before.lob.page.0 (log ∷ 0 ∷ []) 4 164 _ _ c.purge_full.ensures.uses)

pub returns-in_ok-purge_removed-in-Removed-clause-uses : goal.returns-in_ok-purge_removed-in-Removed-clause-uses
returns-in_ok-purge_removed-in-Removed-clause-uses g c =
    let log = c.args.log.0 in
    uses_at_most (log ∷ 0 ∷ []) 9 225 10 225 _ _ (lit≤ tt) (lit≤ tt)
    (uses_unnamed c.args.due.now.rec.before.lob.page.0 (log ∷ 0 ∷ []) 8 225 _ _ c.purge_removed.ensures.uses)

pub returns-in_err-pass-in-Insert-clause-never : goal.returns-in_err-pass-in-Insert-clause-never
returns-in_err-pass-in-Insert-clause-never g c = λ there pages store l ls at is oldest can dir.
    let u = entry_due c.args.due.now in
    handed_on c.pass.result _ _ (c.pass.ensures.never there pages store l ls at (due_not l.records u oldest))
    c.in_err-pass-in-Insert.was c.from_residual.ensures

pub returns-in_ok-pass-in-Insert-clause-makes : goal.returns-in_ok-pass-in-Insert-clause-makes
returns-in_ok-pass-in-Insert-clause-makes g c = λ there pages store l ls at is oldest can dir.
    let u = entry_due c.args.due.now in
    let some = due_not l.records u oldest in
    let body = ap (λ (b : BodyRead). body_of (body_there b)) c.in-Insert.is in
    let at' = piece_in c.args.last in (
      becomes_on _ _ _ (λ new on. inserted_made u l store at' _ new c.in-Insert.field-0.0 there body on dir)
          (c.in_ok-pass-in-Insert.ensures.passes there pages store l ls at some),
      inserted_ends u l store at' c.in-Insert.field-0.0 body,
    )

pub returns-in_err-pass-in-Patched-clause-never : goal.returns-in_err-pass-in-Patched-clause-never
returns-in_err-pass-in-Patched-clause-never g c = λ there pages store l ls at is oldest can dir.
    let u = entry_due c.args.due.now in
    handed_on c.pass-in-Patched.result _ _ (c.pass-in-Patched.ensures.never there pages store l ls at (due_not l.records u oldest))
    c.in_err-pass-in-Patched.was c.from_residual-in_err-pass-in-Patched.ensures

pub returns-in_ok-pass-in-Patched-clause-makes : goal.returns-in_ok-pass-in-Patched-clause-makes
returns-in_ok-pass-in-Patched-clause-makes g c = λ there pages store l ls at is oldest can dir.
    let u = entry_due c.args.due.now in
    let some = due_not l.records u oldest in
    let body = ap (λ (b : BodyRead). body_of (body_there b)) c.in-Patched.is in
    let at' = piece_in c.args.last in (
      becomes_on _ _ _ (λ new on. patched_made u l store at' _ new c.in-Patched.field-0 there body on dir)
          (c.in_ok-pass-in-Patched.ensures.passes there pages store l ls at some),
      patched_ends u l store at' c.in-Patched.field-0 body,
    )

pub returns-in_err-lob_is_below-in-Versioned-clause-never : goal.returns-in_err-lob_is_below-in-Versioned-clause-never
returns-in_err-lob_is_below-in-Versioned-clause-never g c = λ there pages store l ls at is oldest can dir.
    let u = entry_due c.args.due.now in
    let some = due_not l.records u oldest in
    let body = ap (λ (b : BodyRead). body_of (body_there b)) c.in-Versioned.is in
    let lob = versioned_lob store l ls u is at.first oldest c.in-Versioned.touched.pieces (touched_from 0 c.in-Versioned.touched.pieces c.in-Versioned.touched.bits) body in
    let a = lob_at there pages store u.1.before.lob.page lob.0 at.stands lob.1 in
    let low = first_below there pages store u.1.before.lob.page lob.0 a in
    let whole = g.P.Pages.whole c.args.p.now pages at.told' in
    absurd (ok_not c.lob_is_below.result _ c.in_err-lob_is_below-in-Versioned.was
    (c.lob_is_below.ensures.never (subst (λ (n : ℕ). u.1.before.lob.page < n)
    (whole.many ∙ sym c.count.ensures) low)))

pub returns-in_err-lob_is_below-in-Full-clause-never : goal.returns-in_err-lob_is_below-in-Full-clause-never
returns-in_err-lob_is_below-in-Full-clause-never g c = λ there pages store l ls at is oldest can dir.
    let u = entry_due c.args.due.now in
    let some = due_not l.records u oldest in
    let body = ap (λ (b : BodyRead). body_of (body_there b)) c.in-Full.is in
    let lob = full_lob store l ls u is at.first oldest c.in-Full.field-0.0 body in
    let a = lob_at there pages store u.1.before.lob.page lob.0 at.stands lob.1 in
    let low = first_below there pages store u.1.before.lob.page lob.0 a in
    let whole = g.P.Pages.whole c.args.p.now pages at.told' in
    absurd (ok_not c.lob_is_below-in-Full.result _ c.in_err-lob_is_below-in-Full.was
    (c.lob_is_below-in-Full.ensures.never (subst (λ (n : ℕ). u.1.before.lob.page < n)
    (whole.many ∙ sym c.count-in-Full.ensures) low)))

pub returns-in_err-lob_is_below-in-Removed-clause-never : goal.returns-in_err-lob_is_below-in-Removed-clause-never
returns-in_err-lob_is_below-in-Removed-clause-never g c = λ there pages store l ls at is oldest can dir.
    let u = entry_due c.args.due.now in
    let some = due_not l.records u oldest in
    let body = ap (λ (b : BodyRead). body_of (body_there b)) c.in-Removed.is in
    let lob = removed_lob store l ls u is at.first oldest body in
    let a = lob_at there pages store u.1.before.lob.page lob.0 at.stands lob.1 in
    let low = first_below there pages store u.1.before.lob.page lob.0 a in
    let whole = g.P.Pages.whole c.args.p.now pages at.told' in
    absurd (ok_not c.lob_is_below-in-Removed.result _ c.in_err-lob_is_below-in-Removed.was
    (c.lob_is_below-in-Removed.ensures.never (subst (λ (n : ℕ). u.1.before.lob.page < n)
    (whole.many ∙ sym c.count-in-Removed.ensures) low)))

pub returns-in_ok-lob_is_below-in-Versioned-clause-never : goal.returns-in_ok-lob_is_below-in-Versioned-clause-never
returns-in_ok-lob_is_below-in-Versioned-clause-never g c = λ there pages store l ls at is oldest can dir.
    let u = entry_due c.args.due.now in
    let some = due_not l.records u oldest in
    let body = ap (λ (b : BodyRead). body_of (body_there b)) c.in-Versioned.is in
    let lob = versioned_lob store l ls u is at.first oldest c.in-Versioned.touched.pieces (touched_from 0 c.in-Versioned.touched.pieces c.in-Versioned.touched.bits) body in
    let touched = can.touched c.in-Versioned.touched.pieces (touched_from 0 c.in-Versioned.touched.pieces c.in-Versioned.touched.bits) body lob.0 lob.1 in
    c.purge_versions.ensures.never there pages store l ls lob.0 at some lob.1 touched.1 touched.0

pub returns-in_ok-lob_is_below-in-Versioned-clause-makes : goal.returns-in_ok-lob_is_below-in-Versioned-clause-makes
returns-in_ok-lob_is_below-in-Versioned-clause-makes g c = λ there pages store l ls at is oldest can dir.
    let u = entry_due c.args.due.now in
    let some = due_not l.records u oldest in
    let body = ap (λ (b : BodyRead). body_of (body_there b)) c.in-Versioned.is in
    let lob = versioned_lob store l ls u is at.first oldest c.in-Versioned.touched.pieces (touched_from 0 c.in-Versioned.touched.pieces c.in-Versioned.touched.bits) body in
    let touched = can.touched c.in-Versioned.touched.pieces (touched_from 0 c.in-Versioned.touched.pieces c.in-Versioned.touched.bits) body lob.0 lob.1 in
    let at' = piece_in c.args.last in (
      on_told c.purge_versions.result _ _ _ (λ new goes. versioned_made u l store at' _ new
          c.in-Versioned.touched.pieces (touched_from 0 c.in-Versioned.touched.pieces c.in-Versioned.touched.bits) there body goes dir)
          (c.purge_versions.ensures.goes there pages store l ls lob.0 at some lob.1 touched.1),
      if_ok _ _ c.purge_versions.result (λ d e. e ∙ versioned_ends u l store at'
          c.in-Versioned.touched.pieces (touched_from 0 c.in-Versioned.touched.pieces c.in-Versioned.touched.bits) body) c.purge_versions.ensures.comes,
    )

pub returns-in_err-purge_full-in-Full-clause-never : goal.returns-in_err-purge_full-in-Full-clause-never
returns-in_err-purge_full-in-Full-clause-never g c = λ there pages store l ls at is oldest can dir.
    let u = entry_due c.args.due.now in
    let some = due_not l.records u oldest in
    let body = ap (λ (b : BodyRead). body_of (body_there b)) c.in-Full.is in
    let lob = full_lob store l ls u is at.first oldest c.in-Full.field-0.0 body in
    let single = can.single (subst Frees (sym body) tt) lob.0 lob.1 in
    handed_on c.purge_full.result _ _ (c.purge_full.ensures.never there pages store l ls lob.0 at some
    lob.1 single) c.in_err-purge_full-in-Full.was c.from_residual-in_err-purge_full-in-Full.ensures

pub returns-in_ok-purge_full-in-Full-clause-makes : goal.returns-in_ok-purge_full-in-Full-clause-makes
returns-in_ok-purge_full-in-Full-clause-makes g c = λ there pages store l ls at is oldest can dir.
    let u = entry_due c.args.due.now in
    let some = due_not l.records u oldest in
    let body = ap (λ (b : BodyRead). body_of (body_there b)) c.in-Full.is in
    let lob = full_lob store l ls u is at.first oldest c.in-Full.field-0.0 body in
    let single = can.single (subst Frees (sym body) tt) lob.0 lob.1 in
    let at' = piece_in c.args.last in (
      becomes_on _ _ _ (λ new goes. full_made u l store at' _ new c.in-Full.field-0.0 lob.0 there body lob.1
          goes dir) (c.in_ok-purge_full-in-Full.ensures.goes there pages store l ls lob.0 at some lob.1 single),
      full_ends u l store at' c.in-Full.field-0.0 body,
    )

pub returns-in_err-purge_removed-in-Removed-clause-never : goal.returns-in_err-purge_removed-in-Removed-clause-never
returns-in_err-purge_removed-in-Removed-clause-never g c = λ there pages store l ls at is oldest can dir.
    let u = entry_due c.args.due.now in
    let some = due_not l.records u oldest in
    let body = ap (λ (b : BodyRead). body_of (body_there b)) c.in-Removed.is in
    let lob = removed_lob store l ls u is at.first oldest body in
    let single = can.single (subst Frees (sym body) tt) lob.0 lob.1 in
    handed_on c.purge_removed.result _ _ (c.purge_removed.ensures.never there pages store l ls lob.0 at
    some lob.1 single dir) c.in_err-purge_removed-in-Removed.was
    c.from_residual-in_err-purge_removed-in-Removed.ensures

pub returns-in_ok-purge_removed-in-Removed-clause-makes : goal.returns-in_ok-purge_removed-in-Removed-clause-makes
returns-in_ok-purge_removed-in-Removed-clause-makes g c = λ there pages store l ls at is oldest can dir.
    let u = entry_due c.args.due.now in
    let some = due_not l.records u oldest in
    let body = ap (λ (b : BodyRead). body_of (body_there b)) c.in-Removed.is in
    let lob = removed_lob store l ls u is at.first oldest body in
    let single = can.single (subst Frees (sym body) tt) lob.0 lob.1 in
    let at' = piece_in c.args.last in (
      becomes_on _ _ _ (λ new goes. removed_made u l store at' _ new lob.0 there body lob.1 goes)
          (c.in_ok-purge_removed-in-Removed.ensures.goes there pages store l ls lob.0 at some lob.1 single
          dir),
      removed_ends u l store at' body,
    )

pub returns-in_ok-lob_is_below-in-Versioned-clause-head : goal.returns-in_ok-lob_is_below-in-Versioned-clause-head
returns-in_ok-lob_is_below-in-Versioned-clause-head g c = λ there pages store l ls at can.
    let n = c.in-Versioned.touched.pieces in
    let ks = touched_from 0 n c.in-Versioned.touched.bits in
    let body = ap (λ (b : BodyRead). body_of (body_there b)) c.in-Versioned.is in
    heads_in c.purge_versions.result store.lobs (entry_due c.args.due.now).1 (λ m found.
    c.purge_versions.ensures.head there pages store l ls m at found (can.touched n ks body m found).1)

pub returns-in_ok-pass-in-Insert-clause-head : goal.returns-in_ok-pass-in-Insert-clause-head
returns-in_ok-pass-in-Insert-clause-head g c = λ there pages store l ls at can m found. tt

pub returns-in_ok-pass-in-Patched-clause-head : goal.returns-in_ok-pass-in-Patched-clause-head
returns-in_ok-pass-in-Patched-clause-head g c = λ there pages store l ls at can m found. tt

pub returns-in_ok-purge_full-in-Full-clause-head : goal.returns-in_ok-purge_full-in-Full-clause-head
returns-in_ok-purge_full-in-Full-clause-head g c = λ there pages store l ls at can m found. tt

pub returns-in_ok-purge_removed-in-Removed-clause-head : goal.returns-in_ok-purge_removed-in-Removed-clause-head
returns-in_ok-purge_removed-in-Removed-clause-head g c = λ there pages store l ls at can m found. tt
