use Rattle.std.proofs.Common.{arith}
use Rattle.json_binary.proofs.DocumentLemmas.{decoded_stands, decoded_refused, decoded_back}
use Rattle.json_binary.proofs.codec.decoder.decode.Goals as goal

pub returns-clause-stands : goal.returns-clause-stands
returns-clause-stands c = decoded_stands c.args.bytes.now c.read_document.result (λ i. omega (arith, c.type_inv.bytes i)) c.read_document.ensures

pub returns-clause-refused : goal.returns-clause-refused
returns-clause-refused c = decoded_refused c.args.bytes.now c.read_document.result c.read_document.ensures

pub returns-clause-back : goal.returns-clause-back
returns-clause-back c = λ t a d few e. decoded_back c.args.bytes.now c.read_document.result t a d few e c.read_document.ensures
