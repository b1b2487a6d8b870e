use Rattle.std.proofs.Common.{refl, arith}
use Rattle.page_space.proofs.MapLemmas.{map_there, found_read, nothing_read}
use Rattle.page_space.proofs.count.lowest_free.Goals as goal

pub returns-clause-some : goal.returns-clause-some
returns-clause-some g c = found_read _ _ c.read.new.into c.count-count.result (omega (arith, c.count-count.ensures, c.requires.size.few)) (map_there _ _ _ refl c.in_ok-read.ensures.bytes) c.lowest_in.ensures.some

pub returns-clause-none : goal.returns-clause-none
returns-clause-none g c = nothing_read _ _ c.read.new.into _ c.count-count.result c.count-count.ensures c.requires.size.few (map_there _ _ _ refl c.in_ok-read.ensures.bytes) c.lowest_in.ensures.none
