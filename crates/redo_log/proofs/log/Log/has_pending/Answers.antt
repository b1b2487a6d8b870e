use Rattle.std.proofs.Common.{length, ap, arith}
use Rattle.std.proofs.lemmas.Bool.{lt-ltb, ltb-true}
use Rattle.redo_log.specs.Logs.{LogState}
use Rattle.redo_log.proofs.PendingLemmas.{has_pending}
use Rattle.redo_log.proofs.log.Log.has_pending.Goals as goal

pub returns : goal.returns
returns c =
    let both = has_pending _ _ _ _ _ c.self.invariant in
    let is = ap (λ (s : LogState). length s.pending) c.self.view_is in
    let len = c.self.inside.buffer.ok.0 in
    (λ more. let some = both.0 (omega (arith, ltb-true _ _ more, c.len.ensures, len)) in omega (arith, some, is), λ some. lt-ltb _ _ (let more = both.1 (omega (arith, some, is)) in omega (arith, more, c.len.ensures, len)))
