use Rattle.std.proofs.Common.{◌-◌}
use Rattle.json_splice.proofs.entry.+are_all.Given as goal

abbrev pub decreases-are_all : goal.decreases-are_all
decreases-are_all l = l.end - l.from
