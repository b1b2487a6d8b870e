use Rattle.std.proofs.Common.{[], ◌∷◌, sym, ap, ◌∙◌, lit≤}
use Rattle.page_model.proofs.StepLemmas.{may_less, may_within, uses_more, uses_within, within_two}
use Rattle.engine_base.specs.declared.ids.DocId.{DocId}
use Rattle.store_data.specs.Store.{Record}
use Rattle.file_lists.proofs.LinkLemmas.{handed_on}
use Rattle.lob_index.proofs.AnswerLemmas.{becomes_on}
use Rattle.rollback.specs.Records.{record_out}
use Rattle.rollback.proofs.EndLemmas.{can_left, can_as, ended}
use Rattle.rollback.proofs.ending.end_record.Goals as goal

pub pop-requires-clause-may : goal.pop-requires-clause-may
pop-requires-clause-may g c =
    let ns = c.args.log.0 ∷ 0 ∷ [] in
    may_less ns ns 9 3 143 82 _ c.requires.may (λ n is. is) (lit≤ tt) (lit≤ tt)

pub returns-in_err-left-clause-never : goal.returns-in_err-left-clause-never
returns-in_err-left-clause-never g c = λ s is newest dir can.
    handed_on c.pop.result _ _ (c.pop.ensures.never s is) c.in_err-left.was c.from_residual.ensures

pub returns-in_err-left-clause-uses : goal.returns-in_err-left-clause-uses
returns-in_err-left-clause-uses g c =
    let ns = c.args.log.0 ∷ 0 ∷ [] in
    uses_more ns ns 3 9 82 143 _ _ c.pop.ensures.uses (λ n is. is) (lit≤ tt) (lit≤ tt)

pub restore-requires-clause-may : goal.restore-requires-clause-may
restore-requires-clause-may g c =
    let ns = c.args.log.0 ∷ 0 ∷ [] in
    may_within ns (0 ∷ []) 9 143 3 82 6 61 c.args.p.now c.pop.new.p (within_two c.args.log.0 0 [])
    (lit≤ tt) (lit≤ tt) c.requires.may c.pop.ensures.uses

pub returns-in_err-restore-clause-never : goal.returns-in_err-restore-clause-never
returns-in_err-restore-clause-never g c = λ s is newest dir can.
    let n = c.args.newest.now in
    let doc = ap (λ (x : DocId). x.0) c.requires.doc ∙ ap (λ (u : Record). u.doc) newest.undo in
    let row = ap (λ (u : Record). u.before) newest.undo in
    let b = c.in_ok-left.ensures.pops s is in
    let can' = can_as _ _ _ _ _ (sym doc) (sym row)
    (can_left s.rest s.trx s.undo.doc b.2.0 (record_out s.trx s.store) s.undo.before can) in
    handed_on c.restore.result _ _
    (c.restore.ensures.never s.there b.0 _ b.1 b.2.1 dir can')
    c.in_err-restore.was c.from_residual-in_err-restore.ensures

pub returns-in_err-restore-clause-uses : goal.returns-in_err-restore-clause-uses
returns-in_err-restore-clause-uses g c =
    let ns = c.args.log.0 ∷ 0 ∷ [] in
    uses_within g.P.Pages.stays_on ns (0 ∷ []) 3 82 6 61 c.args.p.now c.pop.new.p c.restore.new.p
    (within_two c.args.log.0 0 []) c.pop.ensures.uses c.restore.ensures.uses

pub returns-clause-ends : goal.returns-clause-ends
returns-clause-ends g c = λ s is newest dir can.
    let doc = ap (λ (x : DocId). x.0) c.requires.doc ∙ ap (λ (u : Record). u.doc) newest.undo in
    let row = ap (λ (u : Record). u.before) newest.undo in
    let b = c.in_ok-left.ensures.pops s is in
    let can' = can_as _ _ _ _ _ (sym doc) (sym row)
    (can_left s.rest s.trx s.undo.doc b.2.0 (record_out s.trx s.store) s.undo.before can) in
    becomes_on _ _ _ (λ new r. ended s _ _ b.2.0 _ new doc row r)
    (c.in_ok-restore.ensures.restores s.there b.0 _ b.1 b.2.1 dir can')

pub returns-clause-uses : goal.returns-clause-uses
returns-clause-uses g c =
    let ns = c.args.log.0 ∷ 0 ∷ [] in
    uses_within g.P.Pages.stays_on ns (0 ∷ []) 3 82 6 61 c.args.p.now c.pop.new.p c.restore.new.p
    (within_two c.args.log.0 0 []) c.pop.ensures.uses c.restore.ensures.uses
