use Rattle.std.proofs.Common.{◌≡◌, ◌≤◌, ℕ, List, Option, Some, None, IfSome}
use Rattle.store_parts.specs.Shows.{touched_from}
use Rattle.store_steps.specs.Reached.{piece_in}
use Rattle.store_steps.specs.Touched.{next_touched}
use Rattle.store_steps.specs.declared.reached.Reached.{Reached}
use Rattle.store_steps.proofs.NextLemmas.{behind_next}
use Rattle.store_steps.proofs.reached.next_behind.Goals as goal

behind_some : (last : Option Reached) (p o : Option ℕ) (ks : List ℕ) → p ≡ piece_in last → o ≡ next_touched p ks
    → IfSome o (λ k. IfSome last (λ r. r.piece ≤ k))
behind_some last p None ks same is = tt
behind_some last p (Some k) ks same is = behind_next last p k ks same is

pub returns-clause-behind : goal.returns-clause-behind
returns-clause-behind c =
    behind_some c.args.last c.piece_of.result c.touched_behind.result
    (touched_from 0 c.args.touched.now.pieces c.args.touched.now.bits) c.piece_of.ensures c.touched_behind.ensures.value
