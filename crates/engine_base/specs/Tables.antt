-- A field of the code, as the definitions over pages see it.
use Rattle.page_model.specs.Tables.{Field, field_at}
use Rattle.engine_base.specs.declared.table.FieldValue.{FieldValue}
use Rattle.engine_base.specs.declared.table.FieldValue.TheVariants.{One, Two, Four, Eight}

abbrev pub field_of : FieldValue → Field
field_of (One at value) = field_at at 1 value
field_of (Two at value) = field_at at 2 value
field_of (Four at value) = field_at at 4 value
field_of (Eight at value) = field_at at 8 value
