use Rattle.std.proofs.Common.{arith}
use Rattle.json_binary.proofs.ScalarLemmas.{room}
use Rattle.json_binary.proofs.cursor.scalars.+grouped.Goals as goal

pub returns-then-byte-lt128-clause-short : goal.returns-then-byte-lt128-clause-short
returns-then-byte-lt128-clause-short t c = let r = room c.args.groups c.if-groups-eq0.false c.requires in (omega (arith, r.more, r.one), omega arith)

pub overflow_mul-result : goal.overflow_mul-result
overflow_mul-result t c = let r = room c.args.groups c.if-groups-eq0.false c.requires in omega (arith, r.more, r.most, c.in_ok-high.ensures.short)

pub overflow_add-result : goal.overflow_add-result
overflow_add-result t c = let r = room c.args.groups c.if-groups-eq0.false c.requires in omega (arith, r.more, r.most, c.in_ok-high.ensures.short)

pub returns-clause-short : goal.returns-clause-short
returns-clause-short t c =
    let r = room c.args.groups c.if-groups-eq0.false c.requires in
    let byte = c.type_inv.bytes 0 in
    (omega (arith, r.more, byte, c.from-byte.ensures, c.in_ok-high.ensures.short), omega (arith, c.in_ok-high.ensures.short))
