use Rattle.std.proofs.Common.{◌+◌, [], ◌∷◌, sym, ap, ◌∙◌, lit≤, refl, arith}
use Rattle.page_model.proofs.StepLemmas.{may_less, may_within, uses_at_most, uses_within}
use Rattle.lob_pages.specs.declared.ids.UndoNo.{UndoNo}
use Rattle.file_lists.proofs.LinkLemmas.{handed_on}
use Rattle.lob_index.proofs.AnswerLemmas.{becomes_on}
use Rattle.undo_model.specs.Bytes.{record_size}
use Rattle.undo_records.specs.Records.{record_of as record_there, body_of as body_there}
use Rattle.transactions.proofs.UseLemmas.{zero_in, short_record}
use Rattle.transactions.proofs.AppendLemmas.{log, changing, page_is, many, few_records, append_at}
use Rattle.transactions.proofs.ChangeLemmas.{recorded, mid_rows, can_put, row_changed}
use Rattle.transactions.proofs.changing.record_change.Goals as goal

pub returns-then-trx-clause-never : goal.returns-then-trx-clause-never
returns-then-trx-clause-never g c = λ there pages store l told on work shows can dir covered.
    absurd (let f = few_records there pages store c.args.trx.now.id.0 l on work.found in
    let r = work.records in let t = c.if-trx.true in omega (arith, f, r, t))

pub append-requires-clause-may : goal.append-requires-clause-may
append-requires-clause-may g c =
    let ns = c.args.trx.now.log.0 ∷ 0 ∷ [] in
    let n = record_size (record_there c.record_with-rec.result) in
    let short = short_record _ (body_there c.args.body) (body_there c.record_with-rec.result.body)
    c.requires.body c.record_with-rec.ensures.body in
    may_less ns ns 5 3 17_566 (n + 185) _ c.requires.may (λ m is. is) (lit≤ tt) (omega
    (arith, short))

pub returns-in_err-roll-clause-never : goal.returns-in_err-roll-clause-never
returns-in_err-roll-clause-never g c = λ there pages store l told on work shows can dir covered.
    let trx = c.args.trx.now.id.0 in
    let log' = log there pages store trx l on work.found in
    let room = (changing there pages store trx l on work.found).0 in
    handed_on c.append.result _ _
    (c.append.ensures.never pages log' told
    (page_is there pages store trx l on work.found ∙ work.page_is) room.room covered)
    c.in_err-roll.was c.from_residual-in_err-roll.ensures

pub returns-in_err-roll-clause-uses : goal.returns-in_err-roll-clause-uses
returns-in_err-roll-clause-uses g c =
    let n = record_size (record_there c.record_with-rec.result) in
    let short = short_record _ (body_there c.args.body) (body_there c.record_with-rec.result.body)
    c.requires.body c.record_with-rec.ensures.body in
    uses_at_most (c.args.trx.now.log.0 ∷ 0 ∷ []) 3 (n + 185) 5 17_566 _ _ (lit≤ tt)
    (omega (arith, short)) c.append.ensures.uses

pub put-requires-clause-may : goal.put-requires-clause-may
put-requires-clause-may g c =
    let ns = c.args.trx.now.log.0 ∷ 0 ∷ [] in
    let n = record_size (record_there c.record_with-rec.result) in
    let short = short_record _ (body_there c.args.body) (body_there c.record_with-rec.result.body)
    c.requires.body c.record_with-rec.ensures.body in
    may_within ns (0 ∷ []) 5 17_566 3 (n + 185) 2 16_529 c.args.p.now c.append.new.p
    (zero_in c.args.trx.now.log.0) (lit≤ tt) (omega (arith, short)) c.requires.may
    c.append.ensures.uses

pub returns-in_err-put-clause-never : goal.returns-in_err-put-clause-never
returns-in_err-put-clause-never g c = λ there pages store l told on work shows can dir covered.
    let trx = c.args.trx.now in
    let log' = log there pages store trx.id.0 l on work.found in
    let room = (changing there pages store trx.id.0 l on work.found).0 in
    let number = ap (λ (x : UndoNo). x.0) c.record_with-rec.ensures.number ∙ sym work.records
    ∙ sym (many there pages store trx.id.0 l on work.found) in
    let m = c.in_ok-roll.ensures.appends pages log' told
    (page_is there pages store trx.id.0 l on work.found ∙ work.page_is) room.room covered number in
    let r = record_there c.record_with-rec.result in
    let a = append_at there pages store trx.id.0 l on work.found m.0 r c.in_ok-roll.roll.0 m.2.0 in
    handed_on c.put.result _ _
    (c.put.ensures.never m.0 there m.1
    (mid_rows there store trx.id.0 r c.in_ok-roll.roll.0 m.0 a) dir
    (can_put there store trx.id.0 r c.in_ok-roll.roll.0 m.0 a) m.2.1)
    c.in_err-put.was c.from_residual-in_err-put.ensures

pub returns-in_err-put-clause-uses : goal.returns-in_err-put-clause-uses
returns-in_err-put-clause-uses g c =
    let ns = c.args.trx.now.log.0 ∷ 0 ∷ [] in
    let n = record_size (record_there c.record_with-rec.result) in
    let short = short_record _ (body_there c.args.body) (body_there c.record_with-rec.result.body)
    c.requires.body c.record_with-rec.ensures.body in
    uses_at_most ns 5 ((n + 185) + 16_529) 5 17_566 _ _ (lit≤ tt) (omega (arith, short))
    (uses_within g.P.Pages.stays_on ns (0 ∷ []) 3 (n + 185) 2 16_529 c.args.p.now c.append.new.p
    c.put.new.p (zero_in c.args.trx.now.log.0) c.append.ensures.uses c.put.ensures.uses)

pub returns-clause-changes : goal.returns-clause-changes
returns-clause-changes g c = λ there pages store l told on work shows dir covered.
    let trx = c.args.trx.now in
    let log' = log there pages store trx.id.0 l on work.found in
    let room = (changing there pages store trx.id.0 l on work.found).0 in
    let number = ap (λ (x : UndoNo). x.0) c.record_with-rec.ensures.number ∙ sym work.records
    ∙ sym (many there pages store trx.id.0 l on work.found) in
    let m = c.in_ok-roll.ensures.appends pages log' told
    (page_is there pages store trx.id.0 l on work.found ∙ work.page_is) room.room covered number in
    let r = record_there c.record_with-rec.result in
    let a = append_at there pages store trx.id.0 l on work.found m.0 r c.in_ok-roll.roll.0 m.2.0 in
    let same = recorded c.record_with-rec.result trx.records c.args.before.now.doc
    c.in_ok-kept.kept c.args.body _ c.record_with-rec.ensures.number c.record_with-rec.ensures.doc
    c.record_with-rec.ensures.before c.record_with-rec.ensures.body c.in_ok-kept.ensures.shows in
    becomes_on _ _ _ (λ new p. (
      row_changed there store trx.id.0 r c.in_ok-roll.roll.0 m.0 a _ _ _ _ _ l work.found same
          c.put.new.self _ new refl refl p.0,
      p.1,
    ))
    (c.in_ok-put.ensures.puts m.0 there m.1
    (mid_rows there store trx.id.0 r c.in_ok-roll.roll.0 m.0 a) dir
    (can_put there store trx.id.0 r c.in_ok-roll.roll.0 m.0 a) m.2.1)

pub returns-clause-uses : goal.returns-clause-uses
returns-clause-uses g c =
    let ns = c.args.trx.now.log.0 ∷ 0 ∷ [] in
    let n = record_size (record_there c.record_with-rec.result) in
    let short = short_record _ (body_there c.args.body) (body_there c.record_with-rec.result.body)
    c.requires.body c.record_with-rec.ensures.body in
    uses_at_most ns 5 ((n + 185) + 16_529) 5 17_566 _ _ (lit≤ tt) (omega (arith, short))
    (uses_within g.P.Pages.stays_on ns (0 ∷ []) 3 (n + 185) 2 16_529 c.args.p.now c.append.new.p
    c.put.new.p (zero_in c.args.trx.now.log.0) c.append.ensures.uses c.put.ensures.uses)
