use Rattle.std.proofs.Common.{[], ◌∷◌, ◌++◌, refl}
use Rattle.journal_model.specs.Locks.{sessions}
use Rattle.journal_model.specs.Part.{next_part}
use Rattle.journal_rows.specs.UnpurgedRuns.{after_commits, one_insert, with_commit, purged_to}
use Rattle.journal_rows.proofs.CutLemmas.{turns}
use Rattle.journal_rows.proofs.unpurged.row_unpurged.Goals as goal

pub returns-clause-below : goal.returns-clause-below
unfolding sessions next_part
returns-clause-below c = turns (after_commits 254) one_insert (record { own = 3; purges = 0 } ∷ []) (with_commit 255) refl

pub returns-clause-above : goal.returns-clause-above
unfolding sessions next_part
returns-clause-above c = turns (after_commits 255) one_insert (record { own = 3; purges = 256 } ∷ []) (with_commit 256 ++ purged_to 256) refl
