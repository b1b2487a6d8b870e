use Rattle.engine_base.proofs.FieldLemmas.{address_read}
use Rattle.engine_base.proofs.field.read_address.Goals as goal

pub returns-clause-value : goal.returns-clause-value
returns-clause-value g c = address_read _ _ _ _ _ c.read.new.into c.read_u32.ensures c.read_u16.ensures c.in_ok-read.ensures.bytes
