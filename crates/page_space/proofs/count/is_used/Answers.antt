use Rattle.page_space.proofs.MapLemmas.{used_told}
use Rattle.page_space.proofs.count.is_used.Goals as goal

pub returns-clause-value : goal.returns-clause-value
returns-clause-value g c = used_told _ c.args.page.0 c.in_ok-byte.byte c.is_set.result c.is_set.ensures c.in_ok-byte.ensures.value
