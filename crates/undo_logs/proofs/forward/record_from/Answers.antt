use Rattle.std.proofs.Common.{◌≡◌, [], ◌∷◌, sym, ap, ◌∙◌, lit≤, arith}
use Rattle.page_model.proofs.StepLemmas.{may_within}
use Rattle.engine_base.specs.Addresses.{address_of}
use Rattle.file_lists.specs.Links.{link_of}
use Rattle.file_lists.proofs.LinkLemmas.{handed_on}
use Rattle.undo_model.specs.Logs.{end_field, pages_base, nodes_in}
use Rattle.undo_logs.proofs.ToldLemmas.{told_is}
use Rattle.undo_logs.proofs.ForwardLemmas.{node_here, found_here, found_next, at_next, found_none}
use Rattle.undo_logs.proofs.forward.record_from.Goals as goal

pub returns-then-from-end-clause-value : goal.returns-then-from-end-clause-value
returns-then-from-end-clause-value g c = λ pages l is cut.
    found_here pages l c.args.page.0 c.args.at cut
    (let e = told_is (λ ps. c.in_ok-end.end ≡ end_field ps c.args.page.0) _ pages is c.in_ok-end.ensures.value in let b = c.if-from-end.true in let f = c.from.ensures in omega (arith, e, b, f))

pub next-requires-clause-may : goal.next-requires-clause-may
next-requires-clause-may g c =
    may_within (c.args.page.0 ∷ []) (c.args.page.0 ∷ []) 0 0 0 0 0 0 c.args.p.now c.read_field.new.p (λ n is. is) (lit≤ tt) (lit≤ tt) c.requires.may c.read_field.ensures.uses

pub returns-in_err-node-clause-never : goal.returns-in_err-node-clause-never
returns-in_err-node-clause-never g c = λ pages l is cut.
    handed_on c.next.result _ _ (c.next.ensures.never pages (pages_base l.page) (nodes_in cut.older) (nodes_in cut.newer) (c.read_field.ensures.told ∙ is) (node_here pages l c.args.page.0 c.args.at cut))
    c.in_err-node.was c.from_residual-in_err-node.ensures

pub returns-then-node-eq-PAGE_NODE-clause-value : goal.returns-then-node-eq-PAGE_NODE-clause-value
returns-then-node-eq-PAGE_NODE-clause-value g c = λ pages l is cut.
    found_next pages l c.args.page.0 c.args.at cut (address_of c.in-Some.node)
    (λ b. let e = told_is (λ ps. c.in_ok-end.end ≡ end_field ps c.args.page.0) _ pages is c.in_ok-end.ensures.value in let f = c.from.ensures in let past = c.if-from-end.false in omega (arith, e, b, f, past))
    (sym (ap link_of c.in-Some.is) ∙ c.in_ok-node.ensures.value pages (pages_base l.page) (nodes_in cut.older) (nodes_in cut.newer) (c.read_field.ensures.told ∙ is) (node_here pages l c.args.page.0 c.args.at cut))

pub returns-else-node-eq-PAGE_NODE-clause-never : goal.returns-else-node-eq-PAGE_NODE-clause-never
returns-else-node-eq-PAGE_NODE-clause-never g c = λ pages l is cut.
    absurd (c.if-node-eq-PAGE_NODE.false (at_next pages l c.args.page.0 c.args.at cut (address_of c.in-Some.node)
    (sym (ap link_of c.in-Some.is) ∙ c.in_ok-node.ensures.value pages (pages_base l.page) (nodes_in cut.older) (nodes_in cut.newer) (c.read_field.ensures.told ∙ is) (node_here pages l c.args.page.0 c.args.at cut))))

pub returns-in-None-clause-value : goal.returns-in-None-clause-value
returns-in-None-clause-value g c = λ pages l is cut.
    found_none pages l c.args.page.0 c.args.at cut
    (λ b. let e = told_is (λ ps. c.in_ok-end.end ≡ end_field ps c.args.page.0) _ pages is c.in_ok-end.ensures.value in let f = c.from.ensures in let past = c.if-from-end.false in omega (arith, e, b, f, past))
    (sym (ap link_of c.in-None.is) ∙ c.in_ok-node.ensures.value pages (pages_base l.page) (nodes_in cut.older) (nodes_in cut.newer) (c.read_field.ensures.told ∙ is) (node_here pages l c.args.page.0 c.args.at cut))
