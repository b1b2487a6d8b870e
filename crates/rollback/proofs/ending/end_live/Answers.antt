use Rattle.std.proofs.Common.{[], ◌∷◌, sym, ap, ◌∙◌, lit≤}
use Rattle.page_model.proofs.StepLemmas.{may_less, may_within, uses_more, uses_within, within_nil}
use Rattle.engine_base.specs.declared.ids.DocId.{DocId}
use Rattle.store_data.specs.Store.{RowState, Row, Record}
use Rattle.store_model.specs.Undo.{is_gone}
use Rattle.file_lists.proofs.LinkLemmas.{handed_on}
use Rattle.lob_index.proofs.AnswerLemmas.{becomes_on}
use Rattle.read_views.specs.Flights.{row_in}
use Rattle.rollback.specs.Records.{log_left, record_out}
use Rattle.rollback.proofs.EndLemmas.{can_left, can_as, ended}
use Rattle.rollback.proofs.RowLemmas.{row_kept}
use Rattle.rollback.proofs.ending.end_live.Goals as goal

pub pop-requires-clause-may : goal.pop-requires-clause-may
pop-requires-clause-may g c =
    let ns = c.args.log.0 ∷ 0 ∷ [] in
    may_less ns ns 4 3 130 82 _ c.requires.may (λ n is. is) (lit≤ tt) (lit≤ tt)

pub returns-in_err-left-clause-never : goal.returns-in_err-left-clause-never
returns-in_err-left-clause-never g c = λ s is newest dir can.
    handed_on c.pop.result _ _ (c.pop.ensures.never s is) c.in_err-left.was c.from_residual.ensures

pub returns-in_err-left-clause-uses : goal.returns-in_err-left-clause-uses
returns-in_err-left-clause-uses g c =
    let ns = c.args.log.0 ∷ 0 ∷ [] in
    uses_more ns ns 3 4 82 130 _ _ c.pop.ensures.uses (λ n is. is) (lit≤ tt) (lit≤ tt)

pub put_back-requires-clause-may : goal.put_back-requires-clause-may
put_back-requires-clause-may g c =
    let ns = c.args.log.0 ∷ 0 ∷ [] in
    may_within ns [] 4 130 3 82 1 48 c.args.p.now c.pop.new.p (within_nil ns) (lit≤ tt) (lit≤ tt)
    c.requires.may c.pop.ensures.uses

pub returns-in_err-put_back-clause-never : goal.returns-in_err-put_back-clause-never
returns-in_err-put_back-clause-never g c = λ s is newest dir can.
    let doc = ap (λ (x : DocId). x.0) c.requires.doc ∙ ap (λ (u : Record). u.doc) newest.undo in
    let row = ap (λ (u : Record). u.before) newest.undo in
    let b = c.in_ok-left.ensures.pops s is in
    let can' = can_as _ _ _ _ _ (sym doc) (sym row)
    (can_left s.rest s.trx s.undo.doc b.2.0 (record_out s.trx s.store) s.undo.before can) in
    handed_on c.put_back.result _ _ (c.put_back.ensures.never s.there b.0 _ b.1 b.2.1 dir can')
    c.in_err-put_back.was c.from_residual-in_err-put_back.ensures

pub returns-in_err-put_back-clause-uses : goal.returns-in_err-put_back-clause-uses
returns-in_err-put_back-clause-uses g c =
    let ns = c.args.log.0 ∷ 0 ∷ [] in
    uses_within g.P.Pages.stays_on ns [] 3 82 1 48 c.args.p.now c.pop.new.p c.put_back.new.p
    (within_nil ns) c.pop.ensures.uses c.put_back.ensures.uses

pub returns-clause-ends : goal.returns-clause-ends
returns-clause-ends g c = λ s is newest dir can live'.
    let doc = ap (λ (x : DocId). x.0) c.requires.doc ∙ ap (λ (u : Record). u.doc) newest.undo in
    let row = ap (λ (u : Record). u.before) newest.undo in
    let before = row_in c.args.newest.now.rec.before in
    let b = c.in_ok-left.ensures.pops s is in
    let store = log_left s.rest s.trx b.2.0 (record_out s.trx s.store) in
    let can' = can_as _ _ _ _ store (sym doc) (sym row)
    (can_left s.rest s.trx s.undo.doc b.2.0 (record_out s.trx s.store) s.undo.before can) in
    let kept = ap (λ (t : RowState). is_gone store t before) (ap (λ (r : Row). r.state) row ∙ live') in
    becomes_on _ _ _ (λ new p. ended s _ _ b.2.0 _ new doc row
    (row_kept s.there b.0 store b.2.1 _ before _ new kept p))
    (c.in_ok-put_back.ensures.puts s.there b.0 store b.1 b.2.1 dir can')

pub returns-clause-uses : goal.returns-clause-uses
returns-clause-uses g c =
    let ns = c.args.log.0 ∷ 0 ∷ [] in
    uses_within g.P.Pages.stays_on ns [] 3 82 1 48 c.args.p.now c.pop.new.p c.put_back.new.p
    (within_nil ns) c.pop.ensures.uses c.put_back.ensures.uses
