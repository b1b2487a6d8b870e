-- A link of the code, as an address of the model that may be none.
use Rattle.std.specs.Prelude.{Option}
use Rattle.std.specs.Option.{option_map}
use Rattle.page_model.specs.Pages.{Address}
use Rattle.engine_base.specs.declared.addr.Addr.{Addr}
use Rattle.engine_base.specs.Addresses.{address_of}

abbrev pub link_of : Option Addr → Option Address
link_of = option_map address_of
