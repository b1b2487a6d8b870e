use Rattle.std.proofs.Common.{refl}
use Rattle.file_lists.proofs.LinkLemmas.{handed_on}
use Rattle.lob_index.proofs.AnswerLemmas.{becomes_on}
use Rattle.lob_model.specs.Begin.{begun}
use Rattle.lob_changes.proofs.UseLemmas.{may_add, lob_used}
use Rattle.lob_changes.proofs.NewLobLemmas.{can_take, can_add, lob_made}
use Rattle.lob_changes.proofs.new_lob.make_lob.Goals as goal

pub returns-in_err-page-clause-never : goal.returns-in_err-page-clause-never
returns-in_err-page-clause-never g c = λ there pages store at covered.
    let on = at.stands in
    handed_on c.begin_lob.result _ _
    (c.begin_lob.ensures.never pages at.told' (can_take pages store c.args.space.now on.is covered))
    c.in_err-page.was c.from_residual.ensures

pub add_piece-requires-clause-may : goal.add_piece-requires-clause-may
add_piece-requires-clause-may g c =
    may_add c.in_ok-page.page.0 c.args.p.now c.begin_lob.new.p c.requires.may
    c.begin_lob.ensures.uses

pub returns-in_err-add_piece-clause-never : goal.returns-in_err-add_piece-clause-never
returns-in_err-add_piece-clause-never g c = λ there pages store at covered.
    let on = at.stands in
    let page = c.in_ok-page.page.0 in
    let b = c.in_ok-page.ensures.begins pages at.told'
    (can_take pages store c.args.space.now on.is covered) in
    handed_on c.add_piece.result _ _
    (c.add_piece.ensures.never b.0 (begun page) b.1 refl
    (can_add there pages b.0 store page c.args.trx.0 _ _ c.args.first.now on b.2 covered
    c.requires.fits)) c.in_err-add_piece.was c.from_residual-in_err-add_piece.ensures

pub returns-in_err-add_piece-clause-uses : goal.returns-in_err-add_piece-clause-uses
returns-in_err-add_piece-clause-uses g c =
    lob_used g.P.Pages.stays_on c.in_ok-page.page.0 c.args.p.now c.begin_lob.new.p c.add_piece.new.p
    c.begin_lob.ensures.uses c.add_piece.ensures.uses

pub returns-clause-makes : goal.returns-clause-makes
returns-clause-makes g c = λ there pages store at covered.
    let on = at.stands in
    let page = c.in_ok-page.page.0 in
    let b = c.in_ok-page.ensures.begins pages at.told'
    (can_take pages store c.args.space.now on.is covered) in
    becomes_on _ _ _ (λ new a. lob_made there pages b.0 store page c.args.trx.0 _ _
    c.args.first.now on b.2 covered new _ at.consistent a)
    (c.in_ok-add_piece.ensures.adds b.0 (begun page) b.1 refl
    (can_add there pages b.0 store page c.args.trx.0 _ _ c.args.first.now on b.2 covered
    c.requires.fits))

pub returns-clause-uses : goal.returns-clause-uses
returns-clause-uses g c =
    lob_used g.P.Pages.stays_on c.in_ok-page.page.0 c.args.p.now c.begin_lob.new.p c.add_piece.new.p
    c.begin_lob.ensures.uses c.add_piece.ensures.uses
