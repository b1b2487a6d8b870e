use Rattle.std.proofs.Common.{◌≡◌, ◌+◌, ◌≤◌, ℕ, List, length, ap, ap₂, ◌∙◌, arith, Result, Ok}
use Rattle.std.specs.Prelude.{vec_capacity}
use Rattle.engine_base.specs.declared.fault.Fault.{Fault}
use Rattle.redo_log.specs.Logs.{LogState, pending_in, flushed}
use Rattle.redo_log.proofs.PendingLemmas.{log_state, few_pages, sealed_is, sealed_split, unsealed, pending_unsealed, keeps_unsealed, pending_emptied, keeps_emptied, taken_is, on_err}
use Rattle.redo_log.proofs.FlushLemmas.{code_flushed, code_run}
use Rattle.redo_log.proofs.log.Log.flush.Goals as goal

pub invariant_of-self : goal.invariant_of-self
invariant_of-self g c =
    let inside = c.self.inside in
    let gs = pending_in inside.layout.pages inside.buffer.items in
    let back : c.unseal.new.buffer.items ≡ unsealed gs = c.unseal.ensures.items (unsealed gs) (sealed_is inside.layout.pages inside.buffer.items _ c.self.invariant.frames c.seal.ensures.block ∙ sealed_split gs) in
    keeps_unsealed inside.layout inside.region inside.used _ _ inside.buffer.items c.unseal.new.buffer.items c.self.invariant (omega (arith, c.seal.ensures.capacity, c.unseal.ensures.capacity)) back

pub returns-in_err-result-clause-err : goal.returns-in_err-result-clause-err
returns-in_err-result-clause-err g c =
    let inside = c.self.inside in
    let gs = pending_in inside.layout.pages inside.buffer.items in
    let back : c.unseal.new.buffer.items ≡ unsealed gs = c.unseal.ensures.items (unsealed gs) (sealed_is inside.layout.pages inside.buffer.items _ c.self.invariant.frames c.seal.ensures.block ∙ sealed_split gs) in
    on_err c.from_residual.result
    (ap (log_state inside.layout inside.region inside.start.0 inside.used) (pending_unsealed inside.layout inside.region inside.used _ (vec_capacity c.unseal.new.buffer) inside.buffer.items c.unseal.new.buffer.items c.self.invariant (omega (arith, c.seal.ensures.capacity, c.unseal.ensures.capacity)) back) ∙ c.self.view_is)

pub returns-in_err-result-clause-any_moment : goal.returns-in_err-result-clause-any_moment
returns-in_err-result-clause-any_moment g c =
    let inside = c.self.inside in
    let gs = pending_in inside.layout.pages inside.buffer.items in
    let waits = c.has_pending.ensures.0 c.if-not-has_pending.false in
    let some : 1 ≤ length gs = omega (arith, waits, ap (λ (s : LogState). length s.pending) c.self.view_is) in
    let fits = taken_is inside.layout inside.region inside.used _ inside.buffer.items c.self.invariant some in
    let bytes = c.deref.ensures.value ∙ sealed_is inside.layout.pages inside.buffer.items _ c.self.invariant.frames c.seal.ensures.block in
    code_run (log_state inside.layout inside.region inside.start.0 inside.used gs) c.args.self.now c.gate_place-gate.result c.deref.result.now c.self.view_is
    c.self.invariant.limits (few_pages inside.layout c.self.invariant.limits) c.self.invariant.good fits.1 some c.gate_place-gate.ensures.place bytes
    (g.D.Disk.state c.args.disk.now).may_leave (g.D.Disk.state c.args.disk.now).seen (g.D.Disk.state c.args.disk.now) (g.D.Disk.state c.write_block-result.new.disk) c.write_block-result.ensures.any_moment

pub invariant_of-self-2 : goal.invariant_of-self-2
invariant_of-self-2 g c =
    let inside = c.self.inside in
    let gs = pending_in inside.layout.pages inside.buffer.items in
    let waits = c.has_pending.ensures.0 c.if-not-has_pending.false in
    let some : 1 ≤ length gs = omega (arith, waits, ap (λ (s : LogState). length s.pending) c.self.view_is) in
    let fits = taken_is inside.layout inside.region inside.used _ inside.buffer.items c.self.invariant some in
    let back : c.unseal.new.buffer.items ≡ unsealed gs = c.unseal.ensures.items (unsealed gs) (sealed_is inside.layout.pages inside.buffer.items _ c.self.invariant.frames c.seal.ensures.block ∙ sealed_split gs) in
    keeps_emptied inside.layout inside.region inside.used _ (vec_capacity c.unseal.new.buffer) inside.buffer.items c.unseal.new.buffer.items c.self.invariant (omega (arith, c.seal.ensures.capacity, c.unseal.ensures.capacity)) back
    c.truncate.new.self.items (vec_capacity c.truncate.new.self) c.truncate.ensures.items (omega (arith, c.truncate.ensures.capacity)) (inside.used + (1 + c.len.result)) (omega (arith, fits.2, c.len.ensures, inside.buffer.ok.0))

pub returns-clause-ok : goal.returns-clause-ok
returns-clause-ok g c =
    let inside = c.self.inside in
    let gs = pending_in inside.layout.pages inside.buffer.items in
    let waits = c.has_pending.ensures.0 c.if-not-has_pending.false in
    let some : 1 ≤ length gs = omega (arith, waits, ap (λ (s : LogState). length s.pending) c.self.view_is) in
    let fits = taken_is inside.layout inside.region inside.used _ inside.buffer.items c.self.invariant some in
    let back : c.unseal.new.buffer.items ≡ unsealed gs = c.unseal.ensures.items (unsealed gs) (sealed_is inside.layout.pages inside.buffer.items _ c.self.invariant.frames c.seal.ensures.block ∙ sealed_split gs) in
    ap₂ (λ (k : ℕ) (hs : List _). log_state inside.layout inside.region inside.start.0 k hs) (omega (arith, fits.0, c.len.ensures, inside.buffer.ok.0))
    (pending_emptied inside.layout inside.region inside.used _ (vec_capacity c.unseal.new.buffer) inside.buffer.items c.unseal.new.buffer.items c.self.invariant (omega (arith, c.seal.ensures.capacity, c.unseal.ensures.capacity)) back
    c.truncate.new.self.items (vec_capacity c.truncate.new.self) c.truncate.ensures.items (omega (arith, c.truncate.ensures.capacity)))
    ∙ ap flushed c.self.view_is

pub returns-clause-written : goal.returns-clause-written
returns-clause-written g c =
    let inside = c.self.inside in
    let gs = pending_in inside.layout.pages inside.buffer.items in
    let waits = c.has_pending.ensures.0 c.if-not-has_pending.false in
    let some : 1 ≤ length gs = omega (arith, waits, ap (λ (s : LogState). length s.pending) c.self.view_is) in
    let fits = taken_is inside.layout inside.region inside.used _ inside.buffer.items c.self.invariant some in
    let bytes = c.deref.ensures.value ∙ sealed_is inside.layout.pages inside.buffer.items _ c.self.invariant.frames c.seal.ensures.block in
    let ok : Result ℕ Fault = Ok 0 in
    code_flushed (log_state inside.layout inside.region inside.start.0 inside.used gs) c.args.self.now c.gate_place-gate.result c.deref.result.now c.self.view_is
    c.self.invariant.limits (few_pages inside.layout c.self.invariant.limits) c.self.invariant.good fits.1 some c.gate_place-gate.ensures.place bytes
    ok (g.D.Disk.state c.args.disk.now).seen (g.D.Disk.state c.write_block-result.new.disk).seen c.in_ok-result.ensures.written

pub returns-clause-any_moment : goal.returns-clause-any_moment
returns-clause-any_moment g c =
    let inside = c.self.inside in
    let gs = pending_in inside.layout.pages inside.buffer.items in
    let waits = c.has_pending.ensures.0 c.if-not-has_pending.false in
    let some : 1 ≤ length gs = omega (arith, waits, ap (λ (s : LogState). length s.pending) c.self.view_is) in
    let fits = taken_is inside.layout inside.region inside.used _ inside.buffer.items c.self.invariant some in
    let bytes = c.deref.ensures.value ∙ sealed_is inside.layout.pages inside.buffer.items _ c.self.invariant.frames c.seal.ensures.block in
    code_run (log_state inside.layout inside.region inside.start.0 inside.used gs) c.args.self.now c.gate_place-gate.result c.deref.result.now c.self.view_is
    c.self.invariant.limits (few_pages inside.layout c.self.invariant.limits) c.self.invariant.good fits.1 some c.gate_place-gate.ensures.place bytes
    (g.D.Disk.state c.args.disk.now).may_leave (g.D.Disk.state c.args.disk.now).seen (g.D.Disk.state c.args.disk.now) (g.D.Disk.state c.write_block-result.new.disk) c.write_block-result.ensures.any_moment
