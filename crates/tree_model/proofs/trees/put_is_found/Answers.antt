use Rattle.tree_model.proofs.KeyLemmas.{get-put_same, get-put_other}
use Rattle.tree_model.proofs.trees.put_is_found.Goals as goal

pub returns-clause-same : goal.returns-clause-same
returns-clause-same c = get-put_same

pub returns-clause-others : goal.returns-clause-others
returns-clause-others c = get-put_other
