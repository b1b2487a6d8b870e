use Rattle.store_model.specs.Steps.{at_version}
use Rattle.store_steps.proofs.LobLemmas.{lob_at}
use Rattle.store_steps.proofs.UseLemmas.{on_told}
use Rattle.rollback.proofs.raised.lower.Goals as goal

pub returns-clause-lowers : goal.returns-clause-lowers
returns-clause-lowers g c = λ there pages store l told on found falling.
    let at = lob_at there pages store c.args.first.0 l on found in
    on_told c.set_version.result _ _ _ (λ new h. at.changed new (at_version c.args.v.0) h.stands h.keeps)
    (c.set_version.ensures.lob pages l told at.here at.stands falling)
