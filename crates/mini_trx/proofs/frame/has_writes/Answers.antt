use Rattle.std.proofs.Common.{◌≡◌, ◌+◌, ◌-◌, ℕ, sym, subst, arith}
use Rattle.page_model.specs.Frames.{HasWrites}
use Rattle.page_model.proofs.ParseLemmas.{writes_on, writes_begin, writes_back}
use Rattle.mini_trx.proofs.frame.has_writes.Goals as goal

pub returns-in_default : goal.returns-in_default
returns-in_default c = (
  λ f. cc,
  λ all.
      let left = c.args.count - (c.loop-n._n + 1) in
      let P : ℕ → Type 0 = λ n. HasWrites c.args.pages n c.loop-n.rest.now in
      let found = writes_begin c.args.pages left c.loop-n.rest.now (subst P (let e : c.args.count - c.loop-n._n ≡ left + 1 = omega arith in e) (c.loop-n.invariant.left all)) in
      absurd (c.in_default.ensures.none found.0 found.1 found.2),
)

pub loop-n-preserved : goal.loop-n-preserved
loop-n-preserved c =
    let left = c.args.count - (c.loop-n._n + 1) in
    let rest = c.loop-n.rest.now in
    let after = c.in-Some.after.now in
    let P : ℕ → Type 0 = λ n. HasWrites c.args.pages n rest in
    let more : c.args.count - c.loop-n._n ≡ left + 1 = omega arith in
    let begins = c.in-Some.ensures.found in
    record {
      whole = λ has. c.loop-n.invariant.whole (subst P (sym more) (writes_on c.args.pages left begins.0 after rest begins.1 has));
      left = λ all. writes_back c.args.pages left begins.0 after rest (let f = c.ranges.pages.fits in omega arith) begins.1 (subst P more (c.loop-n.invariant.left all));
    }
