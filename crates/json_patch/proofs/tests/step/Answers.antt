use Rattle.std.proofs.Common.{Ok, length, subst, sym, ◌∙◌, ap}
use Rattle.tree_model.specs.Tree.{Tree}
use Rattle.json_patch.specs.Answer.{StaysInPlace}
use Rattle.json_patch.specs.View.{runs_of, AreWithin}
use Rattle.json_patch.proofs.tests.step.Goals as goal

pub apply-requires : goal.apply-requires
apply-requires c =
    let stays = subst (λ p. (t : Tree) × StaysInPlace c.deref.result.now t (Ok p)) c.in-Parts.is c.in_ok-planned.ensures in
    record { within = subst (λ n. AreWithin n (runs_of c.in-Parts.parts)) (ap length (c.deref.ensures.value ∙ sym c.deref_mut.ensures.value)) stays.1.0 }
