use Rattle.std.proofs.Common.{◌≤◌, sym, ◌∙◌, arith}
use Rattle.std.proofs.lemmas.List.{take-replicate}
use Rattle.page_device.proofs.CreateLemmas.{told_zeros}
use Rattle.page_device.proofs.new_store.write_zeros.Goals as goal

pub chunks-preserved : goal.chunks-preserved
chunks-preserved g c =
    let v = c.chunks.invariant in
    let m = c.min-n.ensures in
    let goes = c.write_at-result.ensures.goes_on in
    let w = c.write_at-result.ensures.written in
    let few : c.min-n.result ≤ 4_096 = omega (arith, m) in
    record {
      low = omega (arith, v.low);
      high = omega (arith, m, c.chunks-test.true, v.high);
      told = told_zeros c.args.from c.chunks.at c.min-n.result _ v.low (omega (arith, m, c.chunks-test.true)) (take-replicate c.min-n.result 4_096 0 few) c.write_at-result.result (sym c.is_err.ensures.value ∙ c.if-is_err.false) (g.D.Disk.state c.args.disk.now).seen (g.D.Disk.state c.chunks.disk).seen (g.D.Disk.state c.write_at-result.new.self).seen v.told w;
      tells = goes.tells ∙ v.tells;
      later = omega (arith, v.later, goes.cause.later);
    }
