use Rattle.json_tree.specs.View.{tree_of}
use Rattle.json_binary.proofs.EncodeLemmas.{document_written}
use Rattle.json_binary.proofs.codec.encoder.push_document.Goals as goal

pub returns-clause-ok : goal.returns-clause-ok
returns-clause-ok c =
    document_written c.args.out.now.items c.reserve.new.self.items c.push.new.self.items c.push_value.new.out.items (tree_of c.args.tree.now) c.args.measured c.code.result c.requires.measured c.code.ensures
    c.in_ok-reserve.ensures.items c.in_ok-push.ensures.items c.in_ok-push_value.ensures.ok
