use Rattle.json_binary.proofs.codec.numbers.+group_count.Given as goal

abbrev pub decreases-group_count : goal.decreases-group_count
decreases-group_count l = l.groups
