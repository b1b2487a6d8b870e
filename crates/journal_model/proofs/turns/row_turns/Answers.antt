use Rattle.std.proofs.Common.{◌≡◌, ℕ, Option, ◌∷◌, [], true, false, refl, Some, None, lit≤, arith}
use Rattle.tree_model.specs.Tree.{null}
use Rattle.journal_model.specs.Documents.{Insert}
use Rattle.journal_model.specs.Journal.{new_store, say, call, full, Start, Did, Restart}
use Rattle.journal_model.specs.Locks.{sessions}
use Rattle.journal_model.specs.Part.{next_part}
use Rattle.journal_model.specs.Built.{everything}
use Rattle.journal_model.proofs.TurnSteps.{turns_settled}
use Rattle.journal_model.proofs.turns.row_turns.Goals as goal

pub returns-clause-empty : goal.returns-clause-empty
returns-clause-empty c = ((λ k d h. absurd (omega (arith, h))), (λ k d h. (refl, refl)), refl)

pub returns-clause-legal : goal.returns-clause-legal
unfolding sessions next_part
returns-clause-legal c = ((tt, ((tt, tt), refl)), ((tt, tt), refl))

-- the first entry is no session's
pub returns-clause-restarted : goal.returns-clause-restarted
returns-clause-restarted c = λ h. let e : false ≡ true = h.0 0 (Restart 0) (lit≤ tt) in cc

pub returns-clause-audited : goal.returns-clause-audited
returns-clause-audited c = λ h. let e : false ≡ true = h.0 0 (Restart 0) (lit≤ tt) in cc

is_due : (due : Option ℕ) → due ≡ Some 1 → due ≡ None → ⊥
is_due due e f = cc

-- the change is answered, and its commit stands nowhere
pub returns-clause-uncommitted : goal.returns-clause-uncommitted
unfolding sessions next_part
returns-clause-uncommitted c = λ h. is_due _ refl (turns_settled everything (new_store 4096) (say 1 true (call (Insert 1 null)) ∷ []) (Start 1 1 ∷ Did 1 1 full ∷ []) h)
