use Rattle.engine_base.specs.Addresses.{address_of}
use Rattle.file_lists.proofs.BaseLemmas.{made_told}
use Rattle.file_lists.proofs.bases.make_base.Goals as goal

pub returns-clause-makes : goal.returns-clause-makes
returns-clause-makes g c =
    let bytes = c.fill_fields.new.bytes in
    made_told _ _ (g.P.Pages.state c.args.p.now).count (address_of c.args.base) bytes (g.P.Pages.whole c.args.p.now) c.requires.base c.fill_fields.auto.bytes c.fill_fields.ensures.sets.here c.in_ok-write.ensures.written
