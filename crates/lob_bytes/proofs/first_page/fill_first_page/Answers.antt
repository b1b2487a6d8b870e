use Rattle.lob_bytes.proofs.BeginLemmas.{front_stays, linked_on}
use Rattle.lob_bytes.proofs.first_page.fill_first_page.Goals as goal

pub nodes-preserved : goal.nodes-preserved
nodes-preserved c =
    let i = c.nodes.i in
    let page = c.args.page.0 in
    let call = c.fill_node.ensures in
    record {
      len = call.len;
      fields = front_stays _ _ page c.args.trx.0 i call.outside c.nodes.invariant.fields;
      nodes = linked_on _ _ page i call.outside c.nodes.invariant.nodes call.here;
    }
