use Rattle.std.proofs.Common.{arith, sym, ◌∙◌}
use Rattle.json_path.proofs.Steps.{digit_on}
use Rattle.json_path.proofs.index.digits.Goals as goal

pub loop-end-preserved : goal.loop-end-preserved
loop-end-preserved c =
    let so_far = c.loop-end.invariant in
    let digit = sym c.is_ascii_digit.ensures.value ∙ c.if-is_ascii_digit.true in (
      omega (arith, so_far.0),
      omega arith,
      omega (arith, so_far.0, so_far.2),
      λ from_end ls. so_far.3 from_end ls
          ∙ digit_on c.args.bytes.now c.args.at c.loop-end.end c.loop-end.value from_end ls so_far.0 c.loop-end-test.true digit (omega (arith, so_far.0, so_far.2)) (omega arith),
    )
