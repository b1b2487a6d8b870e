use Rattle.std.proofs.Common.{◌≡◌, subst, [], ◌∷◌, Option, IfNone, IfSome}
use Rattle.page_model.specs.Steps.{Uses}
use Rattle.engine_base.specs.declared.addr.Addr.{Addr}
use Rattle.lob_index.proofs.AnswerLemmas.{if_ok}
use Rattle.lob_index.proofs.StepLemmas.{free_uses, page_may, page_uses, some_named, page_named}
use Rattle.lob_index.proofs.TakeLemmas.{took_some}
use Rattle.lob_index.proofs.taking.take_node.Goals as goal

pub returns-in_err-node-clause-uses : goal.returns-in_err-node-clause-uses
returns-in_err-node-clause-uses g c = free_uses c.args.page.0 _ _ c.take_free.ensures.uses

pub returns-in-Some-clause-uses : goal.returns-in-Some-clause-uses
returns-in-Some-clause-uses g c = free_uses c.args.page.0 _ _ c.take_free.ensures.uses

pub returns-in-Some-clause-takes : goal.returns-in-Some-clause-takes
returns-in-Some-clause-takes g c = λ pages lob is first can.
    took_some pages lob c.in_ok-node.field-0 c.in-Some.node _ c.args.space.now c.in-Some.is can
    (λ node rest free. c.in_ok-node.ensures.takes node rest pages lob is first can.lob' free) (λ free. (c.in_ok-node.ensures.none pages lob is first can.lob' free).0)

pub take_index_page-requires-clause-may : goal.take_index_page-requires-clause-may
take_index_page-requires-clause-may g c =
    let L : Option Addr → Type 0 = λ o. IfNone o (((g.P.Pages.state c.take_free.new.p).told ≡ (g.P.Pages.state c.args.p.now).told) × Uses g.P.Pages.state g.P.Pages.stays (c.args.page.0 ∷ []) 0 0 c.args.p.now c.take_free.new.p) in
    page_may c.args.page.0 _ _ c.requires.may (subst L c.in_default.is c.in_ok-node.ensures.looked).1

pub returns-clause-uses : goal.returns-clause-uses
returns-clause-uses g c =
    let L : Option Addr → Type 0 = λ o. IfNone o (((g.P.Pages.state c.take_free.new.p).told ≡ (g.P.Pages.state c.args.p.now).told) × Uses g.P.Pages.state g.P.Pages.stays (c.args.page.0 ∷ []) 0 0 c.args.p.now c.take_free.new.p) in
    page_uses c.args.page.0 c.args.p.now c.take_free.new.p g.P.Pages.stays_on _ (subst L c.in_default.is c.in_ok-node.ensures.looked).1 c.take_index_page.ensures.uses

pub returns-in-Some-clause-named : goal.returns-in-Some-clause-named
returns-in-Some-clause-named g c =
    let N : Option Addr → Type 0 = λ o. IfSome o (λ a. Uses g.P.Pages.state g.P.Pages.stays (a.page.0 ∷ c.args.page.0 ∷ []) 1 40 c.args.p.now c.take_free.new.p) in
    some_named c.args.page.0 c.args.p.now c.take_free.new.p c.in-Some.node.page.0 (subst N c.in-Some.is c.in_ok-node.ensures.named)

pub returns-clause-named : goal.returns-clause-named
returns-clause-named g c =
    let L : Option Addr → Type 0 = λ o. IfNone o (((g.P.Pages.state c.take_free.new.p).told ≡ (g.P.Pages.state c.args.p.now).told) × Uses g.P.Pages.state g.P.Pages.stays (c.args.page.0 ∷ []) 0 0 c.args.p.now c.take_free.new.p) in
    let t = c.take_free.new.p in
    let v = c.take_index_page.new.p in
    let U = λ (node : Addr). Uses g.P.Pages.state g.P.Pages.stays (node.page.0 ∷ 0 ∷ c.args.page.0 ∷ []) in
    if_ok (λ node. U node 0 16_449 t v) (λ node. U node 1 16_449 c.args.p.now v) c.take_index_page.result (λ node u. page_named c.args.page.0 c.args.p.now t g.P.Pages.stays_on node.page.0 v (subst L c.in_default.is c.in_ok-node.ensures.looked).1 u) c.take_index_page.ensures.named
