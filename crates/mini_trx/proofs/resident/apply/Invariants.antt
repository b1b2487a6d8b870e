use Rattle.std.proofs.Common.{length}
use Rattle.page_model.specs.Pages.{all_written}
use Rattle.mini_trx.specs.WritesLeft.{writes_left}
use Rattle.mini_trx.proofs.PutLemmas.{Put}
use Rattle.mini_trx.proofs.resident.apply.Given as goal

-- what is left makes of the pages what all the writes make of them as they were
abbrev pub invariant-loop-write : goal.invariant-loop-write
invariant-loop-write l = Put (writes_left l.writes) l.pages (all_written l.group.writes l.fn.pages)

abbrev pub decreases-loop-write : goal.decreases-loop-write
decreases-loop-write l = length (writes_left l.writes)
