use Rattle.page_space.proofs.BitLemmas.{bit_cleared}
use Rattle.page_space.proofs.bits.without_bit.Goals as goal

pub returns : goal.returns
returns c = bit_cleared c.args.byte c.args.i c.requires
