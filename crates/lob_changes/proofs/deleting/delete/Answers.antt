use Rattle.std.proofs.Common.{◌≡◌, ◌∷◌, [], true, false, sym, ap, ◌∙◌, refl, lit≤}
use Rattle.page_model.proofs.StepLemmas.{may_within, uses_at_most, uses_within}
use Rattle.engine_base.specs.declared.ids.DocId.{DocId}
use Rattle.file_lists.proofs.LinkLemmas.{handed_on}
use Rattle.store_steps.proofs.UseLemmas.{on_told}
use Rattle.store_data.specs.Store.{Row}
use Rattle.store_model.specs.History.{row_before}
use Rattle.lob_changes.proofs.UseLemmas.{read_used, change_as, keep_as}
use Rattle.lob_changes.proofs.PlanLemmas.{delete_planned}
use Rattle.lob_changes.proofs.deleting.delete.Goals as goal

pub returns-in_err-before-clause-never : goal.returns-in_err-before-clause-never
returns-in_err-before-clause-never g c = λ there pages store l may state can.
    let at = may.at in
    handed_on c.row_now.result _ _
    (c.row_now.ensures.never there pages store at.told' at.stands may.directory) c.in_err-before.was
    c.from_residual.ensures

pub returns-in_err-before-clause-uses : goal.returns-in_err-before-clause-uses
returns-in_err-before-clause-uses g c =
    let log = c.args.trx.now.log.0 in
    uses_at_most (log ∷ 0 ∷ []) 1 0 6 17_566 _ _ (lit≤ tt) (lit≤ tt)
    (read_used log _ _ c.row_now.ensures.uses)

pub returns-then-not-is_live-clause-never : goal.returns-then-not-is_live-clause-never
returns-then-not-is_live-clause-never g c = λ there pages store l may state can.
    let at = may.at in
    let row = c.in_ok-before.ensures.value there pages store at.told' at.stands may.directory in
    absurd (let e : false ≡ true = c.if-not-is_live.ensures.no
    (ap (λ (r : Row). r.state) row ∙ state) in cc)

pub returns-then-not-is_live-clause-uses : goal.returns-then-not-is_live-clause-uses
returns-then-not-is_live-clause-uses g c =
    let log = c.args.trx.now.log.0 in
    uses_at_most (log ∷ 0 ∷ []) 1 0 6 17_566 _ _ (lit≤ tt) (lit≤ tt)
    (read_used log _ _ c.row_now.ensures.uses)

pub record_change-requires-clause-may : goal.record_change-requires-clause-may
record_change-requires-clause-may g c =
    let log = c.args.trx.now.log.0 in
    let ns = log ∷ 0 ∷ [] in
    may_within ns ns 6 17_566 1 0 5 17_566 c.args.p.now c.row_now.new.p (λ n is. is) (lit≤ tt)
    (lit≤ tt) c.requires.may (read_used log _ _ c.row_now.ensures.uses)

pub returns-clause-deletes : goal.returns-clause-deletes
returns-clause-deletes g c = λ there pages store l may state.
    let at = may.at in
    let work = may.work in
    let trx = c.args.trx.now in
    let doc = ap (λ (d : DocId). d.0) c.in_ok-before.ensures.doc in
    let row = c.in_ok-before.ensures.value there pages store at.told' at.stands may.directory in
    on_told c.record_change.result _ _ _ (λ new ch. (
      delete_planned l trx.id.0 trx.records.0 c.args.doc.0 _ _ c.record_change.new.rows store new
          at.consistent l work.found may.idle refl refl (ap (λ (r : Row). r.lob) row) state
          (change_as l trx.id.0 trx.records.0 _ _ _ _ _ _ _ store new doc row ch.0),
      ch.1,
    ))
    (c.record_change.ensures.changes there pages store l (c.row_now.ensures.told ∙ at.told')
    at.stands work (row ∙ ap (row_before store) (sym doc)) may.directory may.covered)

pub returns-clause-never : goal.returns-clause-never
returns-clause-never g c = λ there pages store l may state can.
    let at = may.at in
    let doc = ap (λ (d : DocId). d.0) c.in_ok-before.ensures.doc in
    let there' = ap (row_before store) (sym doc) in
    let row = c.in_ok-before.ensures.value there pages store at.told' at.stands may.directory
    ∙ there' in
    c.record_change.ensures.never there pages store l (c.row_now.ensures.told ∙ at.told') at.stands
    may.work row (keep_as _ _ _ _ (sym c.row_now.ensures.uses.count) there' can) may.directory
    may.covered

pub returns-clause-uses : goal.returns-clause-uses
returns-clause-uses g c =
    let log = c.args.trx.now.log.0 in
    let ns = log ∷ 0 ∷ [] in
    uses_within g.P.Pages.stays_on ns ns 1 0 5 17_566 c.args.p.now c.row_now.new.p
    c.record_change.new.p (λ n is. is) (read_used log _ _ c.row_now.ensures.uses)
    c.record_change.ensures.uses
