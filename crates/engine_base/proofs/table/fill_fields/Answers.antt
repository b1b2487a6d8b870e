use Rattle.std.proofs.Common.{◌<◌, length, map, get_or, arith}
use Rattle.std.proofs.lemmas.List.{get_or-map, length-map}
use Rattle.page_model.proofs.TableLemmas.{sets_next, next_within}
use Rattle.engine_base.specs.Tables.{field_of}
use Rattle.engine_base.specs.declared.table.FieldValue.TheVariants.{One}
use Rattle.engine_base.proofs.table.fill_fields.Goals as goal

pub fill_field-requires : goal.fill_field-requires
fill_field-requires c =
    let t = c.args.table.now in
    let i = c.loop-field.field-index in
    let below : i < length (map field_of t) = omega (arith, length-map t field_of) in
    let is = get_or-map field_of t i (One 0 0) (field_of (One 0 0)) (omega arith) in
    omega (arith, next_within (map field_of t) i (field_of (get_or t i (One 0 0))) (field_of (One 0 0)) c.requires.rising below is, c.requires.within)

pub loop-field-preserved : goal.loop-field-preserved
loop-field-preserved c =
    let t = c.args.table.now in
    let i = c.loop-field.field-index in
    let below : i < length (map field_of t) = omega (arith, length-map t field_of) in
    let is = get_or-map field_of t i (One 0 0) (field_of (One 0 0)) (omega arith) in
    sets_next 0 (map field_of t) i (field_of (get_or t i (One 0 0))) (field_of (One 0 0)) _ _ _ c.requires.rising below is c.loop-field.invariant c.fill_field.ensures.sets
