use Rattle.std.proofs.Common.{◌≡◌, map, drop}
use Rattle.tree_model.specs.Tree.{Tree}
use Rattle.binary_model.specs.Layout.{root}
use Rattle.binary_model.specs.Stands.{Stands, IsValue}
use Rattle.json_patch.specs.Touched.{same_at}
use Rattle.json_patch.proofs.restored.is_restored.Given as goal

abbrev pub invariant-loop-place : goal.invariant-loop-place
invariant-loop-place l = (t u : Tree) → Stands l.old t → IsValue l.new u (root l.new) → same_at (map (λ ks. ks.items) (drop l.place-index l.touched)) t u ≡ same_at (map (λ ks. ks.items) l.touched) t u
