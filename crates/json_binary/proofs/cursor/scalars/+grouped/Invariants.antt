use Rattle.json_binary.proofs.cursor.scalars.+grouped.Given as goal

abbrev pub decreases-grouped : goal.decreases-grouped
decreases-grouped l = l.groups
