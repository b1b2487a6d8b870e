use Rattle.std.proofs.Common.{length}
use Rattle.store_steps.proofs.runs.+page_count.Given as goal

abbrev pub decreases-page_count : goal.decreases-page_count
decreases-page_count l = length l.runs.now
