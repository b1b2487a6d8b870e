use Rattle.std.proofs.Common.{◌∙◌, ◌-◌, ◌∷◌, length, sym, ap, arith}
use Rattle.page_model.specs.Pages.{Write}
use Rattle.page_model.specs.Frames.{writes_from, write_at_head}
use Rattle.mini_trx.proofs.WritesLemmas.{next_write, next_after, behind}
use Rattle.mini_trx.proofs.writes.WritesIterator.next.Goals as goal

pub first_write-requires : goal.first_write-requires
first_write-requires c =
    let it = c.args.self.now in
    (write_at_head it.rest.now, behind it.rest.now, (next_write it.left it.rest.now (omega arith) it.whole it.inside).begins)

pub invariant_of-self : goal.invariant_of-self
invariant_of-self c =
    let it = c.args.self.now in
    let step = next_write it.left it.rest.now (omega arith) it.whole it.inside in
    let gave = c.first_write.ensures (write_at_head it.rest.now) (behind it.rest.now) step.begins in
    let here = next_after it.left it.rest.now c.first_write.result.1.now gave.1 step in
    record { whole = here.whole; inside = here.inside }

pub returns-clause-steps : goal.returns-clause-steps
returns-clause-steps c =
    let it = c.args.self.now in
    let step = next_write it.left it.rest.now (omega arith) it.whole it.inside in
    let gave = c.first_write.ensures (write_at_head it.rest.now) (behind it.rest.now) step.begins in
    let here = next_after it.left it.rest.now c.first_write.result.1.now gave.1 step in
    here.writes ∙ ap (λ (w : Write). w ∷ writes_from (it.left - 1) c.first_write.result.1.now) (sym gave.0)

pub returns-clause-goes : goal.returns-clause-goes
returns-clause-goes c =
    let it = c.args.self.now in
    let step = next_write it.left it.rest.now (omega arith) it.whole it.inside in
    let gave = c.first_write.ensures (write_at_head it.rest.now) (behind it.rest.now) step.begins in
    let here = next_after it.left it.rest.now c.first_write.result.1.now gave.1 step in
    let fewer = ap length here.writes in
    record { on = λ f. (tt, tt, omega (arith, fewer)); keeps = tt; rests = λ f. tt }
