use Rattle.std.proofs.Common.{sym, length}
use Rattle.std.proofs.lemmas.Bool.{eqb-true}
use Rattle.json_tree.specs.View.{tree_of}
use Rattle.binary_model.specs.FirstFault.{first_fault}
use Rattle.json_binary.specs.Decoding.{fault_of}
use Rattle.json_binary.proofs.DecodeLemmas.{exits}
use Rattle.json_binary.proofs.DocumentLemmas
use Rattle.json_binary.proofs.codec.decoder.read_document.Goals as goal

pub returns-then-is_empty : goal.returns-then-is_empty
returns-then-is_empty c = DocumentLemmas.empty c.args.bytes.now (eqb-true (length c.args.bytes.now) 0 (sym c.if-is_empty.ensures))

pub returns-in_err-found : goal.returns-in_err-found
returns-in_err-found c =
    let e = c.in_err-found.field-0.0 in
    exits tree_of c.from_residual.result e (first_fault c.args.bytes.now) c.from_residual.ensures.1 (DocumentLemmas.bad_value c.args.bytes.now (DocumentLemmas.is_some c.args.bytes.now (sym c.if-is_empty.ensures)) (fault_of e) c.in_err-found.ensures.value)

pub returns-then-found-bytes : goal.returns-then-found-bytes
returns-then-found-bytes c = DocumentLemmas.trailing c.args.bytes.now (DocumentLemmas.is_some c.args.bytes.now (sym c.if-is_empty.ensures)) (tree_of c.in_ok-found.found.value) c.in_ok-found.found.end c.in_ok-found.ensures.value c.in_ok-found.ensures.end c.if-found-bytes.true

pub returns : goal.returns
returns c = DocumentLemmas.whole c.args.bytes.now (DocumentLemmas.is_some c.args.bytes.now (sym c.if-is_empty.ensures)) (tree_of c.in_ok-found.found.value) c.in_ok-found.found.end c.in_ok-found.ensures.value c.in_ok-found.ensures.end c.if-found-bytes.false
