use Rattle.std.proofs.Common.{◌≡◌, [], ◌∷◌, map, ◌∙◌, lit≤, arith}
use Rattle.page_model.specs.Pages.{field}
use Rattle.page_model.proofs.StepLemmas.{may_within, within_one}
use Rattle.file_lists.proofs.LinkLemmas.{at_told}
use Rattle.lob_model.specs.Pieces.{head_place}
use Rattle.store_steps.proofs.LobLemmas.{left_by, heads_at, chain_at}
use Rattle.store_steps.proofs.lob.left_of.Goals as goal

pub read_field-requires-clause-may : goal.read_field-requires-clause-may
read_field-requires-clause-may g c =
    let page = c.args.page.0 in
    may_within (page ∷ []) (page ∷ []) 0 0 0 0 0 0 c.args.p.now c.len.new.p (within_one page []) (lit≤ tt)
    (lit≤ tt) c.requires.may c.len.ensures.uses

pub returns-then-next-from-clause-value : goal.returns-then-next-from-clause-value
returns-then-next-from-clause-value g c = λ pages lob told same is.
    let page = c.args.page.0 in
    let count = c.in_ok-pieces.ensures.value pages (map head_place lob.pieces) told
    (heads_at pages lob page same is) in
    let few = c.if-pieces-gt0.false in
    let next = at_told _ (λ ps. c.in_ok-next.next ≡ field ps page 12 4) pages
    (c.len.ensures.told ∙ told) c.in_ok-next.ensures.value in
    let by = left_by pages _ page c.in_ok-next.next lob.pieces lob.index
    (g.P.Pages.whole c.args.p.now pages told) (g.P.Pages.few c.args.p.now)
    (chain_at pages lob page same is) next (omega (arith, count, few)) in
    by.0 (let e = c.if-next-from.true in let f = c.from.ensures in omega (arith, e, f))

pub returns-clause-value : goal.returns-clause-value
returns-clause-value g c = λ pages lob told same is.
    let page = c.args.page.0 in
    let count = c.in_ok-pieces.ensures.value pages (map head_place lob.pieces) told
    (heads_at pages lob page same is) in
    let few = c.if-pieces-gt0.false in
    let next = at_told _ (λ ps. c.in_ok-next.next ≡ field ps page 12 4) pages
    (c.len.ensures.told ∙ told) c.in_ok-next.ensures.value in
    let by = left_by pages _ page c.in_ok-next.next lob.pieces lob.index
    (g.P.Pages.whole c.args.p.now pages told) (g.P.Pages.few c.args.p.now)
    (chain_at pages lob page same is) next (omega (arith, count, few)) in
    by.1 (λ null. c.if-next-from.false (let f = c.from.ensures in omega (arith, null, f)))
