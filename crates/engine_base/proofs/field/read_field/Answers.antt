use Rattle.std.proofs.Common.{◌∙◌, arith}
use Rattle.std.proofs.lemmas.List.{length-take-le}
use Rattle.engine_base.proofs.FieldLemmas.{field_read}
use Rattle.engine_base.proofs.field.read_field.Goals as goal

pub returns-clause-value : goal.returns-clause-value
returns-clause-value g c =
    let size = length-take-le c.from.result _ (omega (arith, c.from.ensures, c.requires.width)) ∙ c.from.ensures in
    field_read _ _ _ _ _ _ c.read.new.into (c.read.auto.into ∙ size) size c.number.ensures.value c.in_ok-read.ensures.bytes

pub returns-clause-fits : goal.returns-clause-fits
returns-clause-fits g c =
    let size = length-take-le c.from.result _ (omega (arith, c.from.ensures, c.requires.width)) ∙ c.from.ensures in
    rw (← (c.read.auto.into ∙ size)) c.number.ensures.fits
