use Rattle.std.proofs.Common.{◌+◌, ◌*◌, [], ◌∷◌}
use Rattle.page_model.specs.Pages.{null_page}
use Rattle.page_model.specs.Spans.{span}
use Rattle.page_model.specs.Tables.{header_fields}
use Rattle.page_model.proofs.TableLemmas.{fields_kept}
use Rattle.lob_index.proofs.PageLemmas.{header_off, linked_on}
use Rattle.lob_index.proofs.index_pages.fill_index_page.Goals as goal

pub nodes-preserved : goal.nodes-preserved
nodes-preserved c =
    let i = c.nodes.i in
    let page = c.args.page.0 in
    let call = c.fill_node.ensures in
    record {
      len = call.len;
      header = fields_kept (span 0 (39 + 60 * (i + 1)) 12 ∷ []) _ _ 0 (header_fields page null_page c.args.behind.0 6) call.outside (header_off page c.args.behind.0 i) c.nodes.invariant.header;
      nodes = linked_on _ _ page i call.outside c.nodes.invariant.nodes call.here;
    }
