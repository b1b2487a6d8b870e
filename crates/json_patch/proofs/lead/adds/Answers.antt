use Rattle.std.proofs.Common.{◌≡◌, ◌≤◌, [], ◌∷◌, None, false, length, map, is_some, arith}
use Rattle.std.proofs.lemmas.Grind.{common_steps}
use Rattle.tree_model.specs.Tree.{Tree}
use Rattle.tree_model.specs.Path as path
use Rattle.tree_model.specs.Path.{Leg, Path}
use Rattle.tree_model.specs.Edit.{at_parent, set_at}
use Rattle.json_path.specs.View.{leg_of}
use Rattle.json_patch.proofs.LeadLemmas.{more_behind}
use Rattle.json_patch.proofs.lead.adds.Goals as goal

nothing_more : (t u : Tree) (l : Leg) (ls : Path) → 1 ≤ length ls → path.child t l ≡ None → is_some (at_parent (set_at u) l ls t) ≡ false
nothing_more t u l [] some e = absurd (omega (arith, some))
nothing_more t u l (m ∷ ls) some e = more_behind t u l m ls e

pub returns-then-not-is_empty : goal.returns-then-not-is_empty
returns-then-not-is_empty c =
    let some : 1 ≤ length (map leg_of c.args.rest.now) = grind (arith, common_steps, c.is_empty.ensures, c.if-not-is_empty.true) in
    λ t u v none. nothing_more t u (leg_of c.args.leg.now) (map leg_of c.args.rest.now) some none
