use Rattle.json_splice.proofs.scalars.+groups_end.Given as goal

abbrev pub decreases-groups_end : goal.decreases-groups_end
decreases-groups_end l = l.groups
