use Rattle.std.proofs.Common.{ℕ, List, refl, subst, arith}
use Rattle.page_model.specs.Frames.{HoldsFrame}
use Rattle.mini_trx.proofs.GroupLemmas.{keeps_read, same_writes}
use Rattle.mini_trx.proofs.group.Group.from_frame.Goals as goal

pub invariant_of-result : goal.invariant_of-result
invariant_of-result c =
    let P : List ℕ → Type 0 = HoldsFrame c.args.pages in
    (keeps_read c.args.pages c.args.buffer.items (let f = c.ranges.pages.fits in omega arith) (subst P c.deref.ensures.value (c.if-is_frame.ensures.0 refl))).0.group

pub returns-then-is_frame-clause-frame : goal.returns-then-is_frame-clause-frame
returns-then-is_frame-clause-frame c =
    let P : List ℕ → Type 0 = HoldsFrame c.args.pages in
    (keeps_read c.args.pages c.args.buffer.items (let f = c.ranges.pages.fits in omega arith) (subst P c.deref.ensures.value (c.if-is_frame.ensures.0 refl))).0.group.frame

pub returns-then-is_frame-clause-inside : goal.returns-then-is_frame-clause-inside
returns-then-is_frame-clause-inside c =
    let P : List ℕ → Type 0 = HoldsFrame c.args.pages in
    (keeps_read c.args.pages c.args.buffer.items (let f = c.ranges.pages.fits in omega arith) (subst P c.deref.ensures.value (c.if-is_frame.ensures.0 refl))).1

pub returns-then-is_frame-clause-same : goal.returns-then-is_frame-clause-same
returns-then-is_frame-clause-same c = λ ws is. same_writes c.args.pages ws c.args.buffer.items (let f = c.ranges.pages.fits in omega arith) is
