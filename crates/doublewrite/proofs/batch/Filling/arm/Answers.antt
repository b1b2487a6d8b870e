use Rattle.std.proofs.Common.{ℕ, List, sym, subst}
use Rattle.engine_base.specs.Disk.{Told}
use Rattle.engine_base.specs.Durable.{CrashLeaves}
use Rattle.doublewrite.specs.Batches.{BatchState, KeepsBatch, batch_of}
use Rattle.doublewrite.specs.Steps.{Arming, WhileArming}
use Rattle.doublewrite.proofs.batch.Filling.arm.Goals as goal

pub returns-in_err-arm_area-clause-any_moment : goal.returns-in_err-arm_area-clause-any_moment
returns-in_err-arm_area-clause-any_moment g c =
    let P : BatchState → Type 0 = λ s. CrashLeaves (g.D.Disk.state c.args.disk.now) (g.D.Disk.state c.arm_area.new.disk) (WhileArming s.layout s.batch) in
    let Q : List ℕ → Type 0 = λ xs. CrashLeaves (g.D.Disk.state c.args.disk.now) (g.D.Disk.state c.arm_area.new.disk) (WhileArming c.self.inside.layout (batch_of c.self.inside.count xs)) in
    subst P c.self.view_is (subst Q c.deref.ensures.value (c.arm_area.ensures.any_moment c.self.inside.layout c.self.inside.count (subst (KeepsBatch c.self.inside.layout c.self.inside.count) (sym c.deref.ensures.value) c.self.invariant.0)))

pub returns-clause-arms : goal.returns-clause-arms
returns-clause-arms g c =
    let P : BatchState → Type 0 = λ s. Told (Arming s.layout s.batch) (g.D.Disk.state c.args.disk.now).seen (g.D.Disk.state c.arm_area.new.disk).seen in
    let Q : List ℕ → Type 0 = λ xs. Told (Arming c.self.inside.layout (batch_of c.self.inside.count xs)) (g.D.Disk.state c.args.disk.now).seen (g.D.Disk.state c.arm_area.new.disk).seen in
    subst P c.self.view_is (subst Q c.deref.ensures.value (c.in_ok-arm_area.ensures.arms c.self.inside.layout c.self.inside.count (subst (KeepsBatch c.self.inside.layout c.self.inside.count) (sym c.deref.ensures.value) c.self.invariant.0)))

pub returns-clause-any_moment : goal.returns-clause-any_moment
returns-clause-any_moment g c =
    let P : BatchState → Type 0 = λ s. CrashLeaves (g.D.Disk.state c.args.disk.now) (g.D.Disk.state c.arm_area.new.disk) (WhileArming s.layout s.batch) in
    let Q : List ℕ → Type 0 = λ xs. CrashLeaves (g.D.Disk.state c.args.disk.now) (g.D.Disk.state c.arm_area.new.disk) (WhileArming c.self.inside.layout (batch_of c.self.inside.count xs)) in
    subst P c.self.view_is (subst Q c.deref.ensures.value (c.arm_area.ensures.any_moment c.self.inside.layout c.self.inside.count (subst (KeepsBatch c.self.inside.layout c.self.inside.count) (sym c.deref.ensures.value) c.self.invariant.0)))
