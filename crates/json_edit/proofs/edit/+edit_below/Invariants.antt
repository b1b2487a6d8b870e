use Rattle.std.proofs.Common.{length}
use Rattle.json_edit.proofs.edit.+edit_below.Given as goal

abbrev pub decreases-edit_below : goal.decreases-edit_below
decreases-edit_below l = length l.rest.now
