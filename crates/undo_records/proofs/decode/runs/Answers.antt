use Rattle.std.proofs.Common.{◌+◌, ◌-◌, sym, ◌∙◌, arith}
use Rattle.undo_records.proofs.DecodeLemmas.{ends_short, ends_full, wrong_run, one_more, one_more_size, one_more_run}
use Rattle.undo_records.proofs.decode.runs.Goals as goal

pub returns-then-rest-lt-RUN_HEAD : goal.returns-then-rest-lt-RUN_HEAD
returns-then-rest-lt-RUN_HEAD c = ends_short c.args.count (c.args.n - c.loop-i._i) c.loop-i.left c.loop-i.rest.now c.loop-i.runs _ (omega arith) c.loop-i.invariant.whole (omega arith)

pub returns-then-rest-size : goal.returns-then-rest-size
returns-then-rest-size c = ends_short c.args.count (c.args.n - c.loop-i._i) c.loop-i.left c.loop-i.rest.now c.loop-i.runs _ (omega arith) c.loop-i.invariant.whole
    (let e = c.from-size.ensures in omega (arith, e))

pub returns-then-left-size : goal.returns-then-left-size
returns-then-left-size c = ends_full c.args.count (c.args.n - c.loop-i._i) c.loop-i.left c.loop-i.rest.now c.loop-i.runs _ (omega arith) c.loop-i.invariant.whole
    (let e = c.from-size.ensures in omega (arith, e))

pub returns-then-not-is_run : goal.returns-then-not-is_run
returns-then-not-is_run c = wrong_run c.args.count (c.args.n - c.loop-i._i) c.loop-i.left c.u32_at-page.result c.u16_at-at.result c.from-size.result c.loop-i.rest.now c.loop-i.runs _ (omega arith) c.loop-i.invariant.whole
    c.u32_at-page.ensures c.u16_at-at.ensures c.from-size.ensures (sym c.is_run.ensures ∙ c.if-not-is_run.true)

pub loop-i-preserved : goal.loop-i-preserved
loop-i-preserved c = record {
  whole = one_more c.args.count (c.args.n - c.loop-i._i) (c.args.n - (c.loop-i._i + 1)) c.loop-i.left c.u32_at-page.result c.u16_at-at.result c.from-size.result
      c.loop-i.rest.now c.behind-rest.result.now c.behind.result.now c.loop-i.runs c.push.new.self _ (omega arith) c.loop-i.invariant.whole
      c.u32_at-page.ensures c.u16_at-at.ensures c.from-size.ensures c.behind.ensures c.behind-rest.ensures c.if-rest-size.false c.if-left-size.false (sym c.is_run.ensures ∙ c.if-not-is_run.false) c.push.ensures;
  old = one_more_size c.u32_at-page.result c.u16_at-at.result c.from-size.result c.loop-i.left c.loop-i.rest.now c.behind.result.now c.loop-i.runs c.push.new.self
      c.behind.ensures c.if-rest-size.false c.if-left-size.false c.loop-i.invariant.old c.push.ensures;
  many = one_more_run _ c.loop-i.runs c.push.new.self c.loop-i._i c.push.ensures c.loop-i.invariant.many;
}
