use Rattle.page_space.proofs.BitLemmas.{bit_set}
use Rattle.page_space.proofs.bits.with_bit.Goals as goal

pub returns : goal.returns
returns c = bit_set c.args.byte c.args.i c.requires
