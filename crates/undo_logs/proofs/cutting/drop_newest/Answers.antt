use Rattle.std.proofs.Common.{[], ◌∷◌, lit≤}
use Rattle.page_model.proofs.StepLemmas.{may_within, may_less, uses_at_most, within_two}
use Rattle.engine_base.specs.Addresses.{address_of}
use Rattle.undo_logs.proofs.UseLemmas.{drop_last}
use Rattle.undo_logs.proofs.DropLemmas.{newest_dropped}
use Rattle.undo_logs.proofs.cutting.drop_newest.Goals as goal

pub drop_node-requires-clause-may : goal.drop_node-requires-clause-may
drop_node-requires-clause-may g c =
    let named = c.args.page.0 ∷ c.args.log.0 ∷ 0 ∷ [] in
    may_less named named 1 1 75 61 (g.P.Pages.state c.args.p.now) c.requires.may (λ n is. is) (lit≤ tt) (lit≤ tt)

pub returns-in_err-drop_node-clause-uses : goal.returns-in_err-drop_node-clause-uses
returns-in_err-drop_node-clause-uses g c = uses_at_most (c.args.page.0 ∷ c.args.log.0 ∷ 0 ∷ []) 1 61 1 75 _ _ (lit≤ tt) (lit≤ tt) c.drop_node.ensures.uses

pub write_address-requires-clause-may : goal.write_address-requires-clause-may
write_address-requires-clause-may g c =
    may_within (c.args.page.0 ∷ c.args.log.0 ∷ 0 ∷ []) (c.args.log.0 ∷ []) 1 75 1 61 0 14 c.args.p.now c.drop_node.new.p (within_two c.args.page.0 c.args.log.0 (0 ∷ [])) (lit≤ tt) (lit≤ tt) c.requires.may c.drop_node.ensures.uses

pub returns-in_err-write_address-clause-uses : goal.returns-in_err-write_address-clause-uses
returns-in_err-write_address-clause-uses g c = drop_last g.P.Pages.stays_on c.args.page.0 c.args.log.0 _ _ _ c.drop_node.ensures.uses c.write_address.ensures.uses

pub returns-clause-uses : goal.returns-clause-uses
returns-clause-uses g c = drop_last g.P.Pages.stays_on c.args.page.0 c.args.log.0 _ _ _ c.drop_node.ensures.uses c.write_address.ensures.uses

pub returns-clause-drops : goal.returns-clause-drops
returns-clause-drops g c = λ pages nodes is can.
    newest_dropped _ _ pages c.args.log.0 c.args.page.0 nodes (address_of c.args.previous) (c.in_ok-drop_node.ensures.drops pages nodes is can) c.in_ok-write_address.ensures.sets
