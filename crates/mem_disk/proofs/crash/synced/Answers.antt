use Rattle.std.proofs.Common.{◌≡◌, ◌-◌, ℕ, suc, take, subst, arith}
use Rattle.mem_disk.specs.Crash.{EndSynced}
use Rattle.mem_disk.proofs.ReplayLemmas.{ends_synced}
use Rattle.mem_disk.proofs.crash.synced.Goals as goal

pub returns-else-not-steps-n-clause-before : goal.returns-else-not-steps-n-clause-before
returns-else-not-steps-n-clause-before c =
    let n = c.loop-n.n in
    let some = c.loop-n-test.true in
    let inside = c.loop-n.invariant.0 in
    let P : ℕ → Type 0 = λ k. EndSynced (take k c.args.steps.now) in
    let whole : suc (n - 1) ≡ n = omega (arith, some) in
    subst P whole (ends_synced c.args.steps.now (n - 1) _ (omega (arith, some, inside)) c.if-not-steps-n.false)
