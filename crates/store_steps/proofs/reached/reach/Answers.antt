use Rattle.std.proofs.Common.{Option, sym, ap, ◌∙◌}
use Rattle.engine_base.specs.declared.addr.Addr.{Addr}
use Rattle.file_lists.specs.Links.{link_of}
use Rattle.store_steps.proofs.NextLemmas.{head_there}
use Rattle.store_steps.proofs.reached.reach.Goals as goal

pub returns-in_default-clause-never : goal.returns-in_default-clause-never
returns-in_default-clause-never g c = λ pages l told same is head low.
    let value = c.in_ok-a.ensures.value pages l told same is head in
    absurd (head_there c.args.k l.pieces
    (sym (ap (λ (o : Option Addr). link_of o) c.in_default.is) ∙ value) low)
