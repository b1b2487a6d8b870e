-- A LOB reference of the code, as the definitions over rows see it.
use Rattle.undo_model.specs.Data.{Reference}
use Rattle.lob_pages.specs.declared.lob_ref.LobRef.{LobRef}

abbrev pub reference_of : LobRef → Reference
reference_of r = record {
  space = r.space;
  page = r.page.0;
  version = r.version.0;
  length = r.length;
}
