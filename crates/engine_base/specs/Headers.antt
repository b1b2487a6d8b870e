-- A page's header and types of the code, as the definitions over pages see them.
use Rattle.std.specs.Prelude.{ℕ, List}
use Rattle.page_model.specs.Tables.{Field, header_fields}
use Rattle.engine_base.specs.declared.header.PageHeader.{PageHeader}
use Rattle.engine_base.specs.declared.header.PageType.{PageType}
use Rattle.engine_base.specs.declared.header.PageType.TheVariants.{Free, System, Rows, Undo, LobFirst, LobData, LobIndex}

abbrev pub fields_of : PageHeader → List Field
fields_of h = header_fields h.number.0 h.before.0 h.behind.0 h.page_type

-- the number that stands for a type
abbrev pub type_code : PageType → ℕ
type_code Free = 0
type_code System = 1
type_code Rows = 2
type_code Undo = 3
type_code LobFirst = 4
type_code LobData = 5
type_code LobIndex = 6
