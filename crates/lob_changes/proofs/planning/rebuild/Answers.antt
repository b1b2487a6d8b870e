use Rattle.std.proofs.Common.{◌≡◌, ◌∷◌, ◌++◌, [], true, false, sym, ap, ◌∙◌, refl, lit≤, arith, List}
use Rattle.page_model.proofs.StepLemmas.{may_within, uses_at_most, uses_within}
use Rattle.engine_base.specs.declared.ids.DocId.{DocId}
use Rattle.file_lists.proofs.LinkLemmas.{handed_on}
use Rattle.lob_index.proofs.AnswerLemmas.{becomes_on}
use Rattle.store_data.specs.Store.{Row, Lob, Store}
use Rattle.store_model.specs.History.{row_before}
use Rattle.store_model.specs.Steps.{on_lobs}
use Rattle.transactions.specs.Standing.{IsAt}
use Rattle.transactions.proofs.UseLemmas.{zero_in}
use Rattle.lob_changes.proofs.UseLemmas.{read_used, change_as, keep_as, work_beside}
use Rattle.lob_changes.proofs.PlanLemmas.{rebuild_planned}
use Rattle.lob_changes.proofs.planning.rebuild.Goals as goal

pub returns-in_err-before-clause-never : goal.returns-in_err-before-clause-never
returns-in_err-before-clause-never g c = λ there pages store l may state can.
    let at = may.at in
    handed_on c.row_now.result _ _
    (c.row_now.ensures.never there pages store at.told' at.stands may.directory) c.in_err-before.was
    c.from_residual.ensures

pub returns-in_err-before-clause-uses : goal.returns-in_err-before-clause-uses
returns-in_err-before-clause-uses g c =
    let log = c.args.trx.now.log.0 in
    uses_at_most (log ∷ 0 ∷ []) 1 0 12 66_977 _ _ (lit≤ tt) (lit≤ tt)
    (read_used log _ _ c.row_now.ensures.uses)

pub returns-then-not-is_live-clause-never : goal.returns-then-not-is_live-clause-never
returns-then-not-is_live-clause-never g c = λ there pages store l may state can.
    let at = may.at in
    let row = c.in_ok-before.ensures.value there pages store at.told' at.stands may.directory in
    absurd (let e : false ≡ true = c.if-not-is_live.ensures.no
    (ap (λ (r : Row). r.state) row ∙ state) in cc)

pub returns-then-not-is_live-clause-uses : goal.returns-then-not-is_live-clause-uses
returns-then-not-is_live-clause-uses g c =
    let log = c.args.trx.now.log.0 in
    uses_at_most (log ∷ 0 ∷ []) 1 0 12 66_977 _ _ (lit≤ tt) (lit≤ tt)
    (read_used log _ _ c.row_now.ensures.uses)

pub make_lob-requires-clause-may : goal.make_lob-requires-clause-may
make_lob-requires-clause-may g c =
    let log = c.args.trx.now.log.0 in
    may_within (log ∷ 0 ∷ []) (0 ∷ []) 12 66_977 1 0 6 49_411 c.args.p.now c.row_now.new.p
    (zero_in log) (lit≤ tt) (lit≤ tt) c.requires.may (read_used log _ _ c.row_now.ensures.uses)

pub returns-in_err-page-clause-never : goal.returns-in_err-page-clause-never
returns-in_err-page-clause-never g c = λ there pages store l may state can.
    let at = may.at in
    let at1 : IsAt (g.P.Pages.state c.row_now.new.p).told there pages store = record {
      told' = c.row_now.ensures.told ∙ at.told';
      stands = at.stands;
      consistent = at.consistent;
    } in
    handed_on c.make_lob.result _ _ (c.make_lob.ensures.never there pages store at1 may.covered)
    c.in_err-page.was c.from_residual-in_err-page.ensures

pub returns-in_err-page-clause-uses : goal.returns-in_err-page-clause-uses
returns-in_err-page-clause-uses g c =
    let log = c.args.trx.now.log.0 in
    uses_at_most (log ∷ 0 ∷ []) 7 49_411 12 66_977 _ _ (lit≤ tt) (lit≤ tt)
    (uses_within g.P.Pages.stays_on (log ∷ 0 ∷ [])
    (0 ∷ []) 1 0 6 49_411 c.args.p.now c.row_now.new.p
    c.make_lob.new.p (zero_in log) (read_used log _ _ c.row_now.ensures.uses)
    c.make_lob.ensures.uses)

pub returns-then-reserved-lt2-clause-never : goal.returns-then-reserved-lt2-clause-never
returns-then-reserved-lt2-clause-never g c = λ there pages store l may state can.
    let at = may.at in
    let at1 : IsAt (g.P.Pages.state c.row_now.new.p).told there pages store = record {
      told' = c.row_now.ensures.told ∙ at.told';
      stands = at.stands;
      consistent = at.consistent;
    } in
    let m = c.in_ok-page.ensures.makes there pages store at1 may.covered in
    let s = m.2.spent in let t = c.requires.three in let f = c.if-reserved-lt2.true in
    let r = c.reserved.ensures in absurd (omega (arith, s, t, f, r))

pub returns-then-reserved-lt2-clause-uses : goal.returns-then-reserved-lt2-clause-uses
returns-then-reserved-lt2-clause-uses g c =
    let log = c.args.trx.now.log.0 in
    uses_at_most (log ∷ 0 ∷ []) 7 49_411 12 66_977 _ _ (lit≤ tt) (lit≤ tt)
    (uses_within g.P.Pages.stays_on (log ∷ 0 ∷ [])
    (0 ∷ []) 1 0 6 49_411 c.args.p.now c.row_now.new.p
    c.make_lob.new.p (zero_in log) (read_used log _ _ c.row_now.ensures.uses)
    c.make_lob.ensures.uses)

pub record_change-requires-clause-may : goal.record_change-requires-clause-may
record_change-requires-clause-may g c =
    let log = c.args.trx.now.log.0 in
    let ns = log ∷ 0 ∷ [] in
    may_within ns ns 12 66_977 7 49_411 5 17_566 c.args.p.now c.make_lob.new.p (λ n is. is)
    (lit≤ tt)
    (lit≤ tt) c.requires.may
    (uses_within g.P.Pages.stays_on ns (0 ∷ []) 1 0 6 49_411 c.args.p.now c.row_now.new.p
    c.make_lob.new.p (zero_in log) (read_used log _ _ c.row_now.ensures.uses)
    c.make_lob.ensures.uses)

pub returns-in_err-record_change-clause-never : goal.returns-in_err-record_change-clause-never
returns-in_err-record_change-clause-never g c = λ there pages store l may state can.
    let at = may.at in
    let trx = c.args.trx.now in
    let at1 : IsAt (g.P.Pages.state c.row_now.new.p).told there pages store = record {
      told' = c.row_now.ensures.told ∙ at.told';
      stands = at.stands;
      consistent = at.consistent;
    } in
    let m = c.in_ok-page.ensures.makes there pages store at1 may.covered in
    let lob = m.2.lob in
    let after : Store = on_lobs (λ (ls : List Lob). ls ++ lob ∷ []) store in
    let doc = ap (λ (d : DocId). d.0) c.in_ok-before.ensures.doc in
    let there' = ap (row_before store) (sym doc) in
    let row = c.in_ok-before.ensures.value there pages store at.told' at.stands may.directory
    ∙ there' in
    let count = c.row_now.ensures.uses.count in
    let count' = c.make_lob.ensures.uses.count in
    handed_on c.record_change.result _ _
    (c.record_change.ensures.never there m.0 after l m.1 m.2.stands
    (work_beside trx.id.0 trx.log.0 trx.records.0 store after l refl may.work) row
    (keep_as _ _ _ _ (sym (count' ∙ count)) there' can) may.directory m.2.covered)
    c.in_err-record_change.was c.from_residual-in_err-record_change.ensures

pub returns-in_err-record_change-clause-uses : goal.returns-in_err-record_change-clause-uses
returns-in_err-record_change-clause-uses g c =
    let log = c.args.trx.now.log.0 in
    let ns = log ∷ 0 ∷ [] in
    uses_within g.P.Pages.stays_on ns ns 7 49_411 5 17_566 c.args.p.now c.make_lob.new.p
    c.record_change.new.p (λ n is. is)
    (uses_within g.P.Pages.stays_on ns (0 ∷ []) 1 0 6 49_411 c.args.p.now c.row_now.new.p
    c.make_lob.new.p (zero_in log) (read_used log _ _ c.row_now.ensures.uses)
    c.make_lob.ensures.uses) c.record_change.ensures.uses

pub returns-clause-rebuilds : goal.returns-clause-rebuilds
returns-clause-rebuilds g c = λ there pages store l may state.
    let at = may.at in
    let work = may.work in
    let trx = c.args.trx.now in
    let at1 : IsAt (g.P.Pages.state c.row_now.new.p).told there pages store = record {
      told' = c.row_now.ensures.told ∙ at.told';
      stands = at.stands;
      consistent = at.consistent;
    } in
    let m = c.in_ok-page.ensures.makes there pages store at1 may.covered in
    let lob = m.2.lob in
    let after : Store = on_lobs (λ (ls : List Lob). ls ++ lob ∷ []) store in
    let doc = ap (λ (d : DocId). d.0) c.in_ok-before.ensures.doc in
    let row = c.in_ok-before.ensures.value there pages store at.told' at.stands may.directory in
    becomes_on _ _ _ (λ new ch. (
      record {
        lob = lob;
        fresh = m.2.fresh;
        plans = rebuild_planned l trx.id.0 trx.records.0 c.args.doc.0 _ _ c.record_change.new.rows
            store new
            at.consistent l work.found may.idle c.in_ok-page.page.0 c.args.size c.args.first.now lob
            m.2.fresh refl c.row_with-after.ensures.live c.row_with-after.ensures.lob state
            (change_as l trx.id.0 trx.records.0 _ _ _ _ _ _ _ after new doc row ch.0);
      },
      ch.1,
    ))
    (c.in_ok-record_change.ensures.changes there m.0 after l m.1 m.2.stands
    (work_beside trx.id.0 trx.log.0 trx.records.0 store after l refl work)
    (row ∙ ap (row_before store) (sym doc)) may.directory m.2.covered)

pub returns-clause-uses : goal.returns-clause-uses
returns-clause-uses g c =
    let log = c.args.trx.now.log.0 in
    let ns = log ∷ 0 ∷ [] in
    uses_within g.P.Pages.stays_on ns ns 7 49_411 5 17_566 c.args.p.now c.make_lob.new.p
    c.record_change.new.p (λ n is. is)
    (uses_within g.P.Pages.stays_on ns (0 ∷ []) 1 0 6 49_411 c.args.p.now c.row_now.new.p
    c.make_lob.new.p (zero_in log) (read_used log _ _ c.row_now.ensures.uses)
    c.make_lob.ensures.uses) c.record_change.ensures.uses
