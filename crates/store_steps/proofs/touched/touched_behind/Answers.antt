use Rattle.std.proofs.Common.{ℕ, Option, sym, ap, ◌∙◌}
use Rattle.store_parts.specs.Shows.{touched_from}
use Rattle.store_steps.specs.Touched.{next_touched}
use Rattle.store_steps.proofs.TouchedLemmas.{behind_last, from_start, here_touched, not_touched}
use Rattle.store_steps.proofs.touched.touched_behind.Goals.{in-Some, in-None}
use Rattle.store_steps.proofs.touched.touched_behind.Goals as goal

pub pieces-init : goal.pieces-init
pieces-init c =
    let pieces = c.args.touched.now.pieces in
    let bits = c.args.touched.now.bits in
    elim c.match-last.branch [
      | in-Some w ↦
          let n = w.in-Some.n in
          ap (λ (o : Option ℕ). next_touched o (touched_from 0 pieces bits)) w.in-Some.is
          ∙ behind_last n pieces c.match-last.k bits w.k-is
      | in-None w ↦
          ap (λ (o : Option ℕ). next_touched o (touched_from 0 pieces bits)) w.in-None.is
          ∙ from_start pieces c.match-last.k bits w.k-is
    ]

pub returns-then-is_touched-clause-value : goal.returns-then-is_touched-clause-value
returns-then-is_touched-clause-value c =
    sym (c.pieces.invariant ∙ here_touched c.pieces.k c.args.touched.now.pieces c.args.touched.now.bits
    c.pieces-test.true (sym c.is_touched.ensures ∙ c.if-is_touched.true))

pub pieces-preserved : goal.pieces-preserved
pieces-preserved c =
    c.pieces.invariant ∙ not_touched c.pieces.k c.args.touched.now.pieces c.args.touched.now.bits
    c.pieces-test.true (sym c.is_touched.ensures ∙ c.if-is_touched.false)
