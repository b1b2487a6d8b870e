use Rattle.std.proofs.Common.{map, subst}
use Rattle.json_edit.specs.Edits.{assigned}
use Rattle.json_patch.specs.Made.{edit_by}
use Rattle.json_patch.specs.Draft.{IsDraftOf}
use Rattle.json_patch.proofs.planning.plan_pairs.Goals as goal

pub finish-requires-clause-draft : goal.finish-requires-clause-draft
finish-requires-clause-draft c =
    let edit = edit_by c.args.adding (map assigned c.args.pairs.now) in
    (edit, subst (IsDraftOf c.args.bytes.now edit) c.in-Some.is c.in_ok-draft.ensures.put)
