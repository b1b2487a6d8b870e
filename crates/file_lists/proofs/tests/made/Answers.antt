use Rattle.std.proofs.Common.{[], ◌∷◌, lit≤}
use Rattle.page_model.specs.Pages.{Address}
use Rattle.engine_base.specs.Addresses.{address_of}
use Rattle.file_lists.proofs.TestLemmas.{ample_front, ample_back, ample_node, ample_behind, ample_before}
use Rattle.file_lists.proofs.tests.made.Goals as goal

base : Address
base = record { page = 0; at = 66 }

pub add_first-requires-clause-may : goal.add_first-requires-clause-may
unfolding base
add_first-requires-clause-may c = ample_front base (_ ∷ 0 ∷ []) 68 c.args.p.now (lit≤ tt) (lit≤ tt)

pub add_last-requires-clause-may : goal.add_last-requires-clause-may
unfolding base
add_last-requires-clause-may c = ample_back base (_ ∷ 0 ∷ []) 68 c.args.p.now (lit≤ tt) (lit≤ tt)

pub remove-requires-clause-may : goal.remove-requires-clause-may
remove-requires-clause-may c = ample_node (address_of c.node-in-Remove.result) (_ ∷ 0 ∷ []) 40 c.args.p.now (lit≤ tt) (lit≤ tt)

pub remove_first-requires-clause-may : goal.remove_first-requires-clause-may
remove_first-requires-clause-may c = ample_behind (address_of c.node-in-RemoveFirst.result) (_ ∷ 0 ∷ []) 40 c.args.p.now (lit≤ tt) (lit≤ tt)

pub remove_last-requires-clause-may : goal.remove_last-requires-clause-may
remove_last-requires-clause-may c = ample_before (address_of c.node-in-RemoveLast.result) (_ ∷ 0 ∷ []) 40 c.args.p.now (lit≤ tt) (lit≤ tt)
