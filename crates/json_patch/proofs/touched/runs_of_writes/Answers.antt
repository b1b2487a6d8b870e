use Rattle.std.proofs.Common.{◌+◌, sym, subst, map}
use Rattle.json_patch.specs.View.{run_of}
use Rattle.json_patch.specs.Writes.{put_writes}
use Rattle.json_patch.proofs.WriteLemmas.{left_writes}
use Rattle.json_patch.proofs.TouchLemmas.{Touched, AddsBytes, touched_none, touched_more, next_write}
use Rattle.json_patch.proofs.touched.runs_of_writes.Goals as goal

pub loop-write-init : goal.loop-write-init
loop-write-init c =
    let bytes = c.args.bytes.now in
    let ws = c.args.writes.now in
    subst (λ ps. Touched bytes (put_writes ws bytes) ws (map run_of ps)) (sym c.new-patches.ensures.items) (touched_none bytes ws c.requires.inside c.requires.rising)

pub loop-write-preserved : goal.loop-write-preserved
loop-write-preserved c =
    let bytes = c.args.bytes.now in
    let ws = c.args.writes.now in
    let i = c.loop-write.write-index in
    let w = c.write-item.result in
    let rs = map run_of c.loop-write.patches.items in
    let here = subst (λ left. Touched bytes (put_writes ws bytes) left rs) (next_write ws i w c.loop-write-test.true c.write-item.is) c.loop-write.invariant in
    touched_more bytes (put_writes ws bytes) w (left_writes ws (i + 1)) rs (map run_of c.add_bytes.new.patches.items)
    here (subst (AddsBytes bytes w.at rs (map run_of c.add_bytes.new.patches.items)) c.as_slice.ensures.value c.in_ok-add_bytes.ensures)
