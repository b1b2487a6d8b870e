use Rattle.tree_model.specs.Edit.{edited}
use Rattle.json_edit.specs.Edits.{edit_of}
use Rattle.json_patch.proofs.tests.planned.Goals as goal

pub returns : goal.returns
returns c =
    let (t, s) = c.in_ok-check_document.ensures.0 in
    (edited (edit_of c.args.edit.now) t, c.in_ok-plan.ensures.stands t s)
