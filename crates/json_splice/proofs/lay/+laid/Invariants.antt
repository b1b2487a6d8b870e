use Rattle.std.proofs.Common.{length}
use Rattle.json_splice.proofs.lay.+laid.Given as goal

abbrev pub decreases-laid : goal.decreases-laid
decreases-laid l = length l.positions.now
