use Rattle.std.proofs.Common.{arith}
use Rattle.json_path.proofs.Steps.{cut_behind}
use Rattle.json_path.proofs.key.member.Goals as goal

pub range-requires-clause-end_boundary : goal.range-requires-clause-end_boundary
range-requires-clause-end_boundary c =
    let end = c.end_of_key-end.ensures in
    let within = rw c.as_bytes-bytes.ensures.value at end.within in
    let ascii = rw c.as_bytes-bytes.ensures.value at end.ascii in
    cut_behind c.args.text.now c.end_of_key-end.result c.utf8.text (omega (arith, end.some)) within ascii
