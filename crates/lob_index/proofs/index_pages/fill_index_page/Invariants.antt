use Rattle.std.proofs.Common.{◌≡◌, length, [], ◌∷◌}
use Rattle.page_model.specs.Pages.{null_page}
use Rattle.page_model.specs.Tables.{HasFields, header_fields}
use Rattle.lob_index.specs.IndexPages.{AreLinked}
use Rattle.lob_index.proofs.index_pages.fill_index_page.Given as goal

abbrev pub invariant-nodes : goal.invariant-nodes
invariant-nodes l = record {
  len : length l.bytes ≡ 16_384;
  header : HasFields (l.bytes ∷ []) 0 (header_fields l.fn.page.0 null_page l.fn.behind.0 6);
  nodes : AreLinked (l.bytes ∷ []) 0 l.fn.page.0 l.i;
}
