-- An address of the code, as the definitions over pages see it.
use Rattle.page_model.specs.Pages.{Address}
use Rattle.engine_base.specs.declared.addr.Addr.{Addr}

abbrev pub address_of : Addr → Address
address_of a = record { page = a.page.0; at = a.at }
