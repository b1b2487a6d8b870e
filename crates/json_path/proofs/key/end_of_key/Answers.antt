use Rattle.std.proofs.Common.{◌≡◌, ◌+◌, ◌-◌, ◌<◌, arith, get_or, sym, subst, ◌∙◌}
use Rattle.json_path.proofs.Steps.{key_on, key_ascii}
use Rattle.json_path.proofs.key.end_of_key.Goals as goal

pub loop-end-preserved : goal.loop-end-preserved
loop-end-preserved c =
    let so_far = c.loop-end.invariant in
    let key = sym c.goes_in_key.ensures ∙ c.if-goes_in_key.true in
    let here : c.loop-end.end ≡ c.loop-end.end + 1 - 1 = omega arith in (
      omega (arith, so_far.0),
      omega arith,
      subst (λ n. get_or c.args.bytes.now n 0 < 128) here (key_ascii (get_or c.args.bytes.now c.loop-end.end 0) key),
      λ ls. so_far.3 ls ∙ key_on c.args.bytes.now c.args.at c.loop-end.end ls (omega (arith, so_far.0)) c.loop-end-test.true key,
    )
