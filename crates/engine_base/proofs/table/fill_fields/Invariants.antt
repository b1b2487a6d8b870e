use Rattle.std.proofs.Common.{[], ◌∷◌, take, map}
use Rattle.page_model.specs.Tables.{SetsFields}
use Rattle.engine_base.specs.Tables.{field_of}
use Rattle.engine_base.proofs.table.fill_fields.Given as goal

abbrev pub invariant-loop-field : goal.invariant-loop-field
invariant-loop-field l = SetsFields 0 (take l.field-index (map field_of l.table)) (l.initial.bytes ∷ []) (l.bytes ∷ [])
