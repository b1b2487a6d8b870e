use Rattle.std.proofs.Common.{ap, sym, ◌∙◌, refl}
use Rattle.std.proofs.lemmas.Bool.{ne_eqb}
use Rattle.row_locks.specs.Locks.{Table, circle, other_than}
use Rattle.row_locks.proofs.locks.Locks.wait.Goals as goal

pub returns-in-Some-clause-value : goal.returns-in-Some-clause-value
returns-in-Some-clause-value c = (
  c.args.h.0,
  ap (other_than c.args.s.0) c.requires.held
      ∙ rw (ne_eqb c.args.h.0 c.args.s.0 c.requires.other) refl,
  ap (λ (t : Table). circle t c.args.s.0 c.args.h.0) (sym c.self.view_is)
      ∙ sym c.chain_to.ensures ∙ c.in-Some.is,
)
