use Rattle.std.proofs.Common.{◌++◌, ◌∷◌, length, arith}
use Rattle.page_model.specs.Pages.{Pages}
use Rattle.page_model.specs.Steps.{Becomes}
use Rattle.engine_base.specs.Addresses.{address_of}
use Rattle.file_lists.proofs.LinkLemmas.{handed_on}
use Rattle.lob_model.specs.Changes.{with_pieces}
use Rattle.lob_index.specs.Taking.{node_taken}
use Rattle.lob_index.proofs.HonestLemmas.{honest_on}
use Rattle.lob_versions.specs.Pushes.{new_version, PushesAt}
use Rattle.lob_versions.specs.Pushings.{PushesVersion}
use Rattle.lob_index.proofs.AnswerLemmas.{on_ok, becomes_on}
use Rattle.lob_versions.proofs.PushingLemmas.{can_node, one_left, left_free, ready, pushed_whole, may_take_node, may_take_page, may_push, used_node, used_page, used_push, odd_taken, odd_left}
use Rattle.lob_versions.proofs.pushes.push_version.Goals as goal

pub take_node-requires-clause-may : goal.take_node-requires-clause-may
take_node-requires-clause-may g c = may_take_node c.args.head.page.0 c.args.first.0 (length c.args.bytes.now) _ c.requires.may

pub returns-in_err-node-clause-uses : goal.returns-in_err-node-clause-uses
returns-in_err-node-clause-uses g c =
    let t = c.take_node.new.p in
    used_node c.args.head.page.0 c.args.first.0 (length c.args.bytes.now) c.args.p.now t c.take_node.ensures.uses

pub returns-in_err-node-clause-never : goal.returns-in_err-node-clause-never
returns-in_err-node-clause-never g c = λ pages l bs q cs has can.
    handed_on c.take_node.result _ _ (c.take_node.ensures.never pages (with_pieces l (bs ++ q ∷ cs)) has.told' has.first' (can_node _ _ _ _ pages l bs q cs c.args.v.0 c.args.bytes.now has can)) c.in_err-node.was c.from_residual.ensures

pub take-requires-clause-may : goal.take-requires-clause-may
take-requires-clause-may g c =
    let t = c.take_node.new.p in
    may_take_page g.P.Pages.stays_on c.in_ok-node.node.page.0 0 c.args.head.page.0 c.args.first.0 (length c.args.bytes.now) c.args.p.now t t t c.requires.may c.in_ok-node.ensures.named

pub returns-in_err-page-clause-uses : goal.returns-in_err-page-clause-uses
returns-in_err-page-clause-uses g c =
    let t = c.take_node.new.p in
    let u = c.take.new.p in
    used_page g.P.Pages.stays_on c.in_ok-node.node.page.0 0 c.args.head.page.0 c.args.first.0 (length c.args.bytes.now) c.args.p.now t u u c.in_ok-node.ensures.named c.take.ensures.uses

pub push_at-requires-clause-may : goal.push_at-requires-clause-may
push_at-requires-clause-may g c =
    let t = c.take_node.new.p in
    let u = c.take.new.p in
    may_push g.P.Pages.stays_on c.in_ok-node.node.page.0 c.in_ok-page.page.0 c.args.head.page.0 c.args.first.0 (length c.args.bytes.now) c.args.p.now t u u c.requires.may c.in_ok-node.ensures.named c.take.ensures.uses

pub returns-clause-uses : goal.returns-clause-uses
returns-clause-uses g c =
    let t = c.take_node.new.p in
    let u = c.take.new.p in
    used_push g.P.Pages.stays_on c.in_ok-node.node.page.0 c.in_ok-page.page.0 c.args.head.page.0 c.args.first.0 (length c.args.bytes.now) c.args.p.now t u c.push_at.new.p c.in_ok-node.ensures.named c.take.ensures.uses c.push_at.ensures.uses

pub returns-in_err-page-clause-never : goal.returns-in_err-page-clause-never
returns-in_err-page-clause-never g c = λ pages l bs q cs has can.
    let b = c.in_ok-node.ensures.takes pages (with_pieces l (bs ++ q ∷ cs)) has.told' has.first' (can_node _ _ _ _ pages l bs q cs c.args.v.0 c.args.bytes.now has can) in
    let free = left_free _ _ pages b.0 l bs q cs c.args.v.0 c.args.bytes.now _ can has.used b.2 in
    handed_on c.take.result _ _ (c.take.ensures.never b.0 b.1 b.2.takes.map free) c.in_err-page.was c.from_residual-in_err-page.ensures

pub returns-clause-never : goal.returns-clause-never
returns-clause-never g c = λ pages l bs q cs has can.
    let b = c.in_ok-node.ensures.takes pages (with_pieces l (bs ++ q ∷ cs)) has.told' has.first' (can_node _ _ _ _ pages l bs q cs c.args.v.0 c.args.bytes.now has can) in
    let free = left_free _ _ pages b.0 l bs q cs c.args.v.0 c.args.bytes.now _ can has.used b.2 in
    let d = c.in_ok-page.ensures.takes b.0 b.1 b.2.takes.map free in
    c.push_at.ensures.never d.0 (node_taken b.2.page b.2.rest l) bs q cs d.1 has.head' (ready _ _ pages b.0 l bs q cs c.args.v.0 c.args.bytes.now _ can has.used b.2 c.in_ok-page.page.0 d.0 d.2.0)

pub returns-clause-pushes : goal.returns-clause-pushes
returns-clause-pushes g c = λ pages l bs q cs has can.
    let head = address_of c.args.head in
    let node = address_of c.in_ok-node.node in
    let page = c.in_ok-page.page.0 in
    let b = c.in_ok-node.ensures.takes pages (with_pieces l (bs ++ q ∷ cs)) has.told' has.first' (can_node _ _ _ _ pages l bs q cs c.args.v.0 c.args.bytes.now has can) in
    let free = left_free _ _ pages b.0 l bs q cs c.args.v.0 c.args.bytes.now node can has.used b.2 in
    let d = c.in_ok-page.ensures.takes b.0 b.1 b.2.takes.map free in
    let taken = node_taken b.2.page b.2.rest l in
    let A : Pages → Type 0 = λ new. PushesAt taken bs q cs node (new_version head page c.args.v.0 c.args.trx.0 c.args.bytes.now) d.0 new in
    let V : Pages → Type 0 = λ new. PushesVersion l bs q cs head c.args.v.0 c.args.trx.0 c.args.bytes.now c.args.space.now c.take.new.self pages new in
    on_ok (Becomes (g.P.Pages.state c.push_at.new.p).told A) (Becomes (g.P.Pages.state c.push_at.new.p).told V) c.push_at.result
    (becomes_on A V _ (λ new done. pushed_whole _ _ pages b.0 l bs q cs c.args.v.0 c.args.bytes.now node can has.used b.2 page d.0 d.2.0 head c.args.trx.0 new c.take.new.self c.in_ok-page.ensures.ok done))
    (c.push_at.ensures.pushes d.0 taken bs q cs d.1 has.head' (ready _ _ pages b.0 l bs q cs c.args.v.0 c.args.bytes.now node can has.used b.2 page d.0 d.2.0))

pub returns-then-reserved-eq0-clause-honest : goal.returns-then-reserved-eq0-clause-honest
returns-then-reserved-eq0-clause-honest g c = odd_left c.strange.result c.args.first (address_of c.args.head) (g.P.Pages.state c.args.p.now) _ c.from.ensures c.strange.ensures

pub returns-then-reserved-eq0-clause-never : goal.returns-then-reserved-eq0-clause-never
returns-then-reserved-eq0-clause-never g c = λ pages l bs q cs has can.
    let b = c.in_ok-node.ensures.takes pages (with_pieces l (bs ++ q ∷ cs)) has.told' has.first' (can_node _ _ _ _ pages l bs q cs c.args.v.0 c.args.bytes.now has can) in
    let one = one_left _ _ pages b.0 l bs q cs c.args.v.0 c.args.bytes.now _ can has.used b.2 in
    let zero = c.if-reserved-eq0.true in
    let is = c.reserved.ensures in
    absurd (omega (arith, one, zero, is))

pub returns-then-reserved-eq0-clause-uses : goal.returns-then-reserved-eq0-clause-uses
returns-then-reserved-eq0-clause-uses g c =
    let t = c.take_node.new.p in
    used_node c.args.head.page.0 c.args.first.0 (length c.args.bytes.now) c.args.p.now t c.take_node.ensures.uses

pub returns-in_err-page-clause-honest : goal.returns-in_err-page-clause-honest
returns-in_err-page-clause-honest g c =
    honest_on _ _ c.take.result _ _ (odd_taken c.args.first.0 (address_of c.args.head) (g.P.Pages.state c.args.p.now) (g.P.Pages.state c.take_node.new.p) c.take_node.ensures.uses.count) c.take.ensures.honest c.in_err-page.was c.from_residual-in_err-page.ensures
