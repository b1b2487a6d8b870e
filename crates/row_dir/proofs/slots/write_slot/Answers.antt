use Rattle.std.proofs.Common.{arith}
use Rattle.engine_base.specs.Addresses.{address_of}
use Rattle.row_dir.specs.Slots.{keyed_of}
use Rattle.row_dir.proofs.SlotLemmas.{slot_written}
use Rattle.row_dir.proofs.slots.write_slot.Goals as goal

pub returns-clause-sets : goal.returns-clause-sets
returns-clause-sets g c =
    slot_written _ _ _ (address_of c.args.place) c.put_row.new.bytes (keyed_of c.args.row.now) (g.P.Pages.whole c.args.p.now) c.requires.place (omega (arith, c.put_row.auto.bytes)) c.put_row.ensures c.in_ok-write.ensures.written
