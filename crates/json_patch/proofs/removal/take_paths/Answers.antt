use Rattle.std.proofs.Common.{◌≡◌, ◌∷◌, ◌+◌, drop, option_map, sym, ap, subst, ◌∙◌}
use Rattle.std.proofs.lemmas.List.{drop_more}
use Rattle.json_patch.specs.Writes.{put_writes}
use Rattle.json_patch.specs.Spans.{DifferInSpans}
use Rattle.json_patch.specs.Made.{Takes}
use Rattle.json_patch.specs.Removal.{Reached}
use Rattle.json_patch.proofs.RemovalLemmas.{none_taken, kept_step, taken_step, took_more, kept_more}
use Rattle.json_patch.proofs.removal.take_paths.Goals as goal
use Rattle.json_patch.proofs.removal.take_paths.Goals.{in-Some+in_ok-write_all, in_default}

pub loop-path-preserved : goal.loop-path-preserved
loop-path-preserved c =
    let old = c.args.bytes.now in
    let mid = c.loop-path.bytes in
    let paths = c.args.paths.now in
    let i = c.loop-path.path-index in
    let path = c.path-item.result in
    let took = c.loop-path.took in
    let end = c.match-branch-2 in
    let left = drop (i + 1) paths in
    let parts = drop_more paths i path c.loop-path-test.true ∙ ap (λ p. p ∷ left) (sym c.path-item.is) in
    elim end.branch [
      | in-Some+in_ok-write_all w ↦
          let ws = w.in-Some.writes.items in
          let new = w.write_all.new.bytes in
          let made : new ≡ put_writes ws mid = w.in_ok-write_all.ensures.put ∙ ap (λ ws. put_writes ws mid) w.deref.ensures.value in (
            λ t stands.
                let before = subst (λ ls. Reached old t paths ls mid took) parts (c.loop-path.invariant.0 t stands) in
                subst (λ b. Reached old t paths left b end.took) (sym w.bytes-is) (subst (Reached old t paths left new) (sym w.took-is)
                (took_more old mid new t paths left path took before (λ u h. taken_step mid new u path ws h (subst (λ f. Takes mid u path (option_map (λ ws. ws.items) f)) w.in-Some.is (c.in_ok-writes.ensures u h)) made))),
            λ first h. subst (λ b. DifferInSpans first b end.spans.items) (sym w.bytes-is) (subst (λ v. DifferInSpans first new v.items) (sym w.spans-is) (w.in_ok-write_all.ensures.noted first (c.loop-path.invariant.1 first h))),
          )
      | in_default w ↦ (
        λ t stands.
            let before = subst (λ ls. Reached old t paths ls mid took) parts (c.loop-path.invariant.0 t stands) in
            subst (λ b. Reached old t paths left b end.took) (sym w.bytes-is) (subst (Reached old t paths left mid) (sym w.took-is)
            (kept_more old mid mid t paths left path took before (λ u h. kept_step mid u path h (none_taken mid u path (λ ws. ws.items) c.in_ok-writes.field-0 w.in_default.not-Some (c.in_ok-writes.ensures u h))))),
        λ first h. subst (λ b. DifferInSpans first b end.spans.items) (sym w.bytes-is) (subst (λ v. DifferInSpans first mid v.items) (sym w.spans-is) (c.loop-path.invariant.1 first h)),
      )
    ]
