use Rattle.std.proofs.Common.{◌≡◌, ◌-◌, ◌/◌, ◌%◌, ◌≤◌, ℕ, List, length, ◌++◌, take, drop, replicate, vec_capacity, sym, ap, ap₂, ◌∙◌, arith}
use Rattle.std.proofs.lemmas.Grind.{common_steps}
use Rattle.std.proofs.lemmas.List.{length-drop, length-take as length-take-min, length-take-le}
use Rattle.mem_disk.specs.declared.mem_disk.Step.{Step}
use Rattle.mem_disk.specs.SureDisk.{overlaid}
use Rattle.mem_disk.specs.MemDisk.{events_in, total}
use Rattle.mem_disk.specs.Crash.{replayed}
use Rattle.mem_disk.proofs.CrashLemmas.{padded_as}
use Rattle.mem_disk.proofs.ReplayLemmas.{total_take, total_first, first_within, record_within, one_within, is_write, picks_half, picks_nothing, picks_whole}
use Rattle.mem_disk.proofs.crash.crash.Goals as goal
use Rattle.mem_disk.proofs.crash.crash.Goals.{then-pick-eq3+in-Some, then-pick-eq3+in_default, else-pick-eq3}

pub replay-rest-requires-clause-whole : goal.replay-rest-requires-clause-whole
replay-rest-requires-clause-whole c =
    let all = c.requires.whole in
    let part = total_take c.kept-whole.result c.args.steps.now in
    omega (arith, all, part)

pub replay-rest-requires-clause-within : goal.replay-rest-requires-clause-within
replay-rest-requires-clause-within c =
    let room : c.args.size ≤ vec_capacity c.extend_from_slice.new.self = grind (arith, common_steps) in
    first_within c.kept-whole.result _ c.args.steps.now (record_within c.args.base.now c.args.steps.now c.args.bytes.now c.args.size _ c.requires.whole c.requires.size room)

pub slice_bounds-overwrite-end : goal.slice_bounds-overwrite-end
slice_bounds-overwrite-end c =
    let all = c.requires.whole in
    let some = c.in-Some.ensures.lookup.3 in
    let part = total_first c.kept-whole.result c.args.steps.now c.in-Some.last.now some.0 in
    let len = ap (λ (s : _). s.len) (some.1 c.in-Some.last.now) in
    let short = length-drop (total (take c.kept-whole.result c.args.steps.now)) c.args.bytes.now in
    let rest = ap length c.replay-rest.ensures.rest in
    sym (length-take-le (c.in-Some.last.now.len / 2) c.replay-rest.result.now (omega (arith, all, part, len, short, rest)))

pub returns : goal.returns
returns c =
    let base = c.args.base.now in
    let steps = c.args.steps.now in
    let pool = c.args.bytes.now in
    let n = c.synced.result in
    let whole = c.kept-whole.result in
    let first : c.extend_from_slice.new.self.items ≡ base = grind (arith, common_steps) in
    let file = c.replay-rest.ensures.file ∙ ap (replayed (take whole steps) pool) first in
    let size : c.resize.new.self.items ≡ take c.args.size c.if-pick-eq3.image.items ++ replicate (c.args.size - length c.if-pick-eq3.image.items) 0 = grind (arith, common_steps) in
    size ∙ padded_as c.args.pick base (events_in steps pool) c.args.size c.if-pick-eq3.image.items c.requires.size (elim c.if-pick-eq3.branch [
      | then-pick-eq3+in-Some w ↦
          let some = w.in-Some.ensures.lookup.3 in
          let last = w.in-Some.last.now in
          let is = w.if-pick-eq3.true in
          picks_half base steps pool n c.synced.ensures.within c.synced.ensures.behind c.synced.ensures.before (c.args.pick % 4) whole last is (c.kept-whole.ensures.most (omega (arith, is))) some.0 (let all = c.requires.whole in omega (arith, all))
          ∙ ap (λ (l : Step). overlaid (replayed (take whole steps) pool base) l.at (take (l.len / 2) (drop (total (take whole steps)) pool))) (sym (some.1 last))
          ∙ ap₂ (λ (f r : List ℕ). overlaid f last.at (take (last.len / 2) r)) (sym file) (sym c.replay-rest.ensures.rest)
          ∙ sym w.overwrite.ensures.items ∙ ap (λ (v : _). v.items) (sym w.image-is)
      | then-pick-eq3+in_default w ↦
          let is = w.if-pick-eq3.true in
          picks_nothing base steps pool n c.synced.ensures.within c.synced.ensures.behind c.synced.ensures.before (c.args.pick % 4) whole is (c.kept-whole.ensures.most (omega (arith, is))) w.in_default.ensures.lookup.3
          ∙ sym file ∙ ap (λ (v : _). v.items) (sym w.image-is)
      | else-pick-eq3 w ↦
          picks_whole base steps pool n c.synced.ensures.within c.synced.ensures.behind c.synced.ensures.before (c.args.pick % 4) whole (let no = w.if-pick-eq3.false in omega (arith, no)) c.kept-whole.ensures.none c.kept-whole.ensures.all c.kept-whole.ensures.most
          ∙ sym file ∙ ap (λ (v : _). v.items) (sym w.image-is)
    ])

pub overwrite-requires : goal.overwrite-requires
overwrite-requires c =
    let steps = c.args.steps.now in
    let whole = c.kept-whole.result in
    let last = c.in-Some.last.now in
    let some = c.in-Some.ensures.lookup.3 in
    let is = c.if-pick-eq3.true in
    let most = c.kept-whole.ensures.most (omega (arith, is)) in
    let room : c.args.size ≤ vec_capacity c.extend_from_slice.new.self = grind (arith, common_steps) in
    let within = record_within c.args.base.now steps c.args.bytes.now c.args.size _ c.requires.whole c.requires.size room in
    let one = one_within whole _ steps last some.0 within (is_write c.synced.result whole steps last (omega (arith, most)) some.0 c.synced.ensures.behind) in
    let at = ap (λ (s : Step). s.at) (some.1 last) in
    let len = ap (λ (s : Step). s.len) (some.1 last) in
    let short = length-take-min (last.len / 2) c.replay-rest.result.now in
    let grown = c.replay-rest.ensures.capacity in
    omega (arith, one, at, len, short, grown)
