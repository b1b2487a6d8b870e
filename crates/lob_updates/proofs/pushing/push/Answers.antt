use Rattle.engine_base.specs.Addresses.{address_of}
use Rattle.store_steps.proofs.UseLemmas.{on_told}
use Rattle.lob_updates.proofs.PushLemmas.{cut_at, has_piece, can_push, pushes_piece}
use Rattle.lob_updates.proofs.pushing.push.Goals as goal

pub returns-clause-pushes : goal.returns-clause-pushes
returns-clause-pushes g c = λ there pages store l k at covered can.
    let told = (g.P.Pages.state c.args.p.now).told in
    let page = c.args.lob.now.page.0 in
    let v = c.args.lob.now.version.0 in
    let head = address_of c.args.head in
    let bytes = c.args.piece.now in
    let cut = cut_at k l.pieces can.piece can.kth in
    on_told c.push_version.result _ _ _
    (λ new made. pushes_piece told there pages store page v k head bytes l _ at covered can _ _ new made)
    (c.push_version.ensures.pushes pages l cut.before can.piece cut.behind
    (has_piece told there pages store page v k head bytes l _ at covered can)
    (can_push told there pages store page v k head bytes l _ at covered can))

pub returns-clause-never : goal.returns-clause-never
returns-clause-never g c = λ there pages store l k at covered can.
    let told = (g.P.Pages.state c.args.p.now).told in
    let page = c.args.lob.now.page.0 in
    let v = c.args.lob.now.version.0 in
    let head = address_of c.args.head in
    let bytes = c.args.piece.now in
    let cut = cut_at k l.pieces can.piece can.kth in
    c.push_version.ensures.never pages l cut.before can.piece cut.behind
    (has_piece told there pages store page v k head bytes l _ at covered can)
    (can_push told there pages store page v k head bytes l _ at covered can)
