use Rattle.std.proofs.Common.{◌≡◌, ◌≢◌, ◌<◌, ◌+◌, ◌∙◌, sym, ap, rules, tests, map, length, slice_index}
use Rattle.binary_model.specs.Change.{runs}
use Rattle.json_patch.specs.View.{run_of}
use Rattle.json_patch.proofs.TouchLemmas.{written_none, place_same, place_differs}
use Rattle.json_patch.proofs.touched.add_bytes.Goals as goal
use Rattle.json_patch.proofs.touched.add_bytes.Goals.{then-bytes-place+in_ok-add_place, else-bytes-place}

pub loop-k-init : goal.loop-k-init
loop-k-init c = λ new size same found. found ∙ ap (runs c.args.bytes.now) (sym (written_none new c.args.at))

pub loop-k-preserved : goal.loop-k-preserved
loop-k-preserved c = λ new size same found.
    let so = c.loop-k.invariant new size same found in
    let bytes = c.args.bytes.now in
    let ws = c.args.after.now in
    let at = c.args.at in
    let low : c.loop-k.k < length ws = search rules in
    elim c.if-bytes-place.branch [
      | then-bytes-place+in_ok-add_place w ↦
          (let apart : slice_index bytes (at + c.loop-k.k) ≢ slice_index ws c.loop-k.k = search (rules, tests) in
          ap (λ v. map run_of v.items) w.patches-is
          ∙ place_differs bytes new ws at c.loop-k.k c.requires.inside low size same (map run_of c.loop-k.patches.items) (map run_of w.add_place.new.patches.items) apart so w.in_ok-add_place.ensures)
      | else-bytes-place w ↦
          (let equal : slice_index bytes (at + c.loop-k.k) ≡ slice_index ws c.loop-k.k = search (rules, tests) in
          ap (λ v. map run_of v.items) w.patches-is ∙ place_same bytes new ws at c.loop-k.k c.requires.inside low size same (map run_of c.loop-k.patches.items) equal so)
    ]
