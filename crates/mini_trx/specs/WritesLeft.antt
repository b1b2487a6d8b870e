-- The writes that an iterator over a group has still to give.
use Rattle.std.specs.Prelude.{List}
use Rattle.page_model.specs.Pages.{Write}
use Rattle.page_model.specs.Frames.{writes_from}
use Rattle.mini_trx.specs.declared.writes.Writes.{Writes}

abbrev pub writes_left : Writes → List Write
writes_left it = writes_from it.left it.rest.now
