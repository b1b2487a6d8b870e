use Rattle.transactions.proofs.PointerLemmas.{leads_there}
use Rattle.transactions.proofs.keeping.pointer_to_keep.Goals as goal

pub returns-in_err-place-clause-never : goal.returns-in_err-place-clause-never
returns-in_err-place-clause-never c = λ can.
    leads_there c.args.count c.args.roll.0 c.record_place.result _ c.if-roll-eq0.false can
    c.record_place.ensures.never c.in_err-place.was
