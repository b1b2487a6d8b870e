use Rattle.json_tree.specs.View.{tree_of}
use Rattle.json_edit.proofs.ChildLemmas.{pushed}
use Rattle.json_edit.proofs.action.add_child.Goals as goal

pub returns-in_ok-push-in-List-clause-ok : goal.returns-in_ok-push-in-List-clause-ok
returns-in_ok-push-in-List-clause-ok c = rw (c.in-Cell.is, c.in-List.is) (pushed c.in-List.list c.push.new.self (tree_of c.args.value) c.in-Cell.field-0 c.in_ok-push-in-List.ensures.ok)
