use Rattle.std.proofs.Common.{◌<◌, ◌+◌, ◌*◌, ℕ, get_or, subst, sym, arith}
use Rattle.page_space.specs.Bits.{IsLowestZero}
use Rattle.page_space.proofs.BitLemmas.{ones_more, zero_found, zero_beyond}
use Rattle.page_space.proofs.bits.lowest_zero.Goals as goal

pub overflow_mul-k : goal.overflow_mul-k
overflow_mul-k c = omega (arith, c.loop-i-test.true, c.requires.map)

pub overflow_add-k : goal.overflow_add-k
overflow_add-k c = omega (arith, c.loop-i-test.true, c.requires.map, c.trailing_ones.type_inv)

pub returns-then-k-n-clause-some : goal.returns-then-k-n-clause-some
returns-then-k-n-clause-some c =
    let fits = c.type_inv.map c.loop-i.i in
    let small : get_or c.args.map.now c.loop-i.i 0 < 255 = omega (arith, c.if-byte.true) in
    let P : ℕ → Type 0 = λ t. IsLowestZero c.args.map.now c.args.n (8 * c.loop-i.i + t) in
    subst P (sym c.trailing_ones.ensures) (zero_found c.args.map.now c.loop-i.i c.args.n c.loop-i.invariant small (omega (arith, c.if-k-n.true, c.trailing_ones.ensures)))

pub returns-else-k-n-clause-none : goal.returns-else-k-n-clause-none
returns-else-k-n-clause-none c =
    let fits = c.type_inv.map c.loop-i.i in
    let small : get_or c.args.map.now c.loop-i.i 0 < 255 = omega (arith, c.if-byte.true) in
    zero_beyond c.args.map.now c.loop-i.i c.args.n c.loop-i.invariant small (omega (arith, c.if-k-n.false, c.trailing_ones.ensures))

pub loop-i-preserved : goal.loop-i-preserved
loop-i-preserved c =
    let fits = c.type_inv.map c.loop-i.i in
    ones_more c.args.map.now c.loop-i.i c.loop-i.invariant (omega (arith, c.if-byte.false))
