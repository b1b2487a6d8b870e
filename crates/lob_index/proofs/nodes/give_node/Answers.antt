use Rattle.std.proofs.Common.{refl, ℕ, subst, [], ◌∷◌}
use Rattle.page_model.specs.Spans.{IsApartFromAll}
use Rattle.page_model.specs.Lists.{list_spans, node_span}
use Rattle.engine_base.specs.Addresses.{address_of}
use Rattle.lob_model.specs.Places.{free_base}
use Rattle.lob_model.proofs.NodeLemmas.{loose_elsewhere}
use Rattle.file_lists.specs.Near.{near_front}
use Rattle.file_lists.proofs.NearLemmas.{may_front, front_few}
use Rattle.file_lists.proofs.LinkLemmas.{handed_on}
use Rattle.lob_index.proofs.NodeLemmas.{listed, gave, reached}
use Rattle.lob_index.proofs.IndexLemmas.{few_nodes}
use Rattle.lob_index.proofs.nodes.give_node.Goals as goal

pub returns-clause-gives : goal.returns-clause-gives
returns-clause-gives g c = λ pages lob is first size stands.
    let node = address_of c.args.node in
    let P : ℕ → Type 0 = λ n. IsApartFromAll (list_spans (free_base n) lob.free) (node_span node) in
    gave pages lob c.args.page.0 _ node first stands
    (c.in_ok-add_first.ensures.adds pages lob.free is (listed pages lob c.args.page.0 (node ∷ []) lob.free first stands refl) (subst P first (loose_elsewhere pages lob node stands)) (few_nodes pages lob node (g.P.Pages.state c.args.p.now).count (g.P.Pages.whole c.args.p.now pages is).many size stands))

pub add_first-requires-clause-may : goal.add_first-requires-clause-may
add_first-requires-clause-may g c = may_front (g.P.Pages.state c.args.p.now) (free_base c.args.page.0) _ 68 c.requires.may

pub returns-clause-uses : goal.returns-clause-uses
returns-clause-uses g c = reached (near_front (g.P.Pages.state c.args.p.now) (free_base c.args.page.0)) _ 1 68 _ _ (front_few (g.P.Pages.state c.args.p.now) (free_base c.args.page.0)) c.add_first.ensures.uses

pub returns-in_err-add_first-clause-uses : goal.returns-in_err-add_first-clause-uses
returns-in_err-add_first-clause-uses g c = reached (near_front (g.P.Pages.state c.args.p.now) (free_base c.args.page.0)) _ 1 68 _ _ (front_few (g.P.Pages.state c.args.p.now) (free_base c.args.page.0)) c.add_first.ensures.uses

pub returns-in_err-add_first-clause-never : goal.returns-in_err-add_first-clause-never
returns-in_err-add_first-clause-never g c = λ pages lob is first size stands.
    let node = address_of c.args.node in
    handed_on c.add_first.result _ _
    (c.add_first.ensures.never pages lob.free is (listed pages lob c.args.page.0 (node ∷ []) lob.free first stands refl) (few_nodes pages lob node (g.P.Pages.state c.args.p.now).count (g.P.Pages.whole c.args.p.now pages is).many size stands))
    c.in_err-add_first.was c.from_residual.ensures
