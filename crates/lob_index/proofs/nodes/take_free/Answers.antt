use Rattle.std.proofs.Common.{arith, refl, ◌≡◌, sym, ◌∙◌, ap, subst, Option, Some, None, [], ◌∷◌}
use Rattle.page_model.specs.Pages.{Address}
use Rattle.page_model.specs.Lists.{IsList, first_of}
use Rattle.engine_base.specs.Addresses.{address_of}
use Rattle.engine_base.specs.declared.addr.Addr.{Addr}
use Rattle.file_lists.specs.Links.{link_of}
use Rattle.lob_model.specs.Places.{free_base}
use Rattle.file_lists.specs.Near.{near_behind}
use Rattle.file_lists.proofs.NearLemmas.{may_behind, behind_few}
use Rattle.lob_index.proofs.NodeLemmas.{listed, took, take_may, take_named, take_uses, reached}
use Rattle.lob_index.proofs.IndexLemmas.{first_fits}
use Rattle.lob_index.proofs.HonestLemmas.{honest_on, behind_free}
use Rattle.lob_index.proofs.nodes.take_free.Goals as goal

pub remove_first-requires-clause-may : goal.remove_first-requires-clause-may
remove_first-requires-clause-may g c = may_behind (g.P.Pages.state c.first.new.p) (address_of c.in-Some.node) _ 40 (take_may c.args.page.0 c.in-Some.node.page.0 _ _ c.requires.may c.first.ensures.uses)

pub returns-in_err-remove_first-clause-uses : goal.returns-in_err-remove_first-clause-uses
returns-in_err-remove_first-clause-uses g c = take_uses c.args.page.0 c.in-Some.node.page.0 _ _ g.P.Pages.stays_on _ c.first.ensures.uses (reached (near_behind (g.P.Pages.state c.first.new.p) (address_of c.in-Some.node)) _ 1 40 _ _ (behind_few (g.P.Pages.state c.first.new.p) (address_of c.in-Some.node)) c.remove_first.ensures.uses)

pub returns-clause-uses : goal.returns-clause-uses
returns-clause-uses g c = take_uses c.args.page.0 c.in-Some.node.page.0 _ _ g.P.Pages.stays_on _ c.first.ensures.uses (reached (near_behind (g.P.Pages.state c.first.new.p) (address_of c.in-Some.node)) _ 1 40 _ _ (behind_few (g.P.Pages.state c.first.new.p) (address_of c.in-Some.node)) c.remove_first.ensures.uses)

pub returns-clause-takes : goal.returns-clause-takes
returns-clause-takes g c = λ node rest pages lob is first stands free.
    let a = address_of c.in-Some.node in
    let list = listed pages lob c.args.page.0 [] (node ∷ rest) first stands free in
    let P : Option Addr → Type 0 = λ o. link_of o ≡ Some node in
    let same = subst P c.in-Some.is (c.in_ok-node.ensures.value pages (node ∷ rest) is list) in
    let or_node : Option Address → Address = λ o. elim o [ None ↦ node | Some x ↦ x ] in
    let e : a ≡ node = ap or_node same in
    let Q : Address → Type 0 = λ x. IsList pages (free_base c.args.page.0) (x ∷ rest) in
    (same, took pages lob c.args.page.0 _ a node rest first stands free e (c.in_ok-remove_first.ensures.removes pages rest (c.first.ensures.told ∙ is) (subst Q (sym e) list)))

pub returns-in_err-remove_first-clause-honest : goal.returns-in_err-remove_first-clause-honest
returns-in_err-remove_first-clause-honest g c =
    honest_on _ _ c.remove_first.result _ _ (behind_free (g.P.Pages.state c.args.p.now) (g.P.Pages.state c.first.new.p) c.args.page.0 (address_of c.in-Some.node) c.first.ensures.told c.first.ensures.uses.count) c.remove_first.ensures.honest c.in_err-remove_first.was c.from_residual-in_err-remove_first.ensures

pub returns-then-node-gt-LAST_PLACE-clause-never : goal.returns-then-node-gt-LAST_PLACE-clause-never
returns-then-node-gt-LAST_PLACE-clause-never g c = λ pages lob is first stands.
    let a = address_of c.in-Some.node in
    let list = listed pages lob c.args.page.0 [] lob.free first stands refl in
    let P : Option Addr → Type 0 = λ o. link_of o ≡ first_of lob.free in
    let same : Some a ≡ first_of lob.free = subst P c.in-Some.is (c.in_ok-node.ensures.value pages lob.free is list) in
    let fit = first_fits pages lob a stands (sym same) in
    absurd (let t = c.if-node-gt-LAST_PLACE.true in omega (arith, fit, t))

pub returns-clause-named : goal.returns-clause-named
returns-clause-named g c = take_named c.args.page.0 c.in-Some.node.page.0 _ _ g.P.Pages.stays_on _ c.first.ensures.uses (reached (near_behind (g.P.Pages.state c.first.new.p) (address_of c.in-Some.node)) _ 1 40 _ _ (behind_few (g.P.Pages.state c.first.new.p) (address_of c.in-Some.node)) c.remove_first.ensures.uses)
