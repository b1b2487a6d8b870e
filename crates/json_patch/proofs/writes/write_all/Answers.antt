use Rattle.std.proofs.Common.{◌≡◌, ◌+◌, ◌++◌, ◌∷◌, [], length, sym, ap, subst, ◌∙◌}
use Rattle.binary_model.specs.Change.{written}
use Rattle.binary_model.proofs.in_place.WrittenLemmas.{written_length}
use Rattle.json_patch.specs.Writes.{put_writes, AreInside}
use Rattle.json_patch.specs.Spans.{DifferInSpans}
use Rattle.json_patch.proofs.WriteLemmas.{left_writes}
use Rattle.json_patch.proofs.TouchLemmas.{next_write}
use Rattle.json_patch.proofs.SpanLemmas.{noted_more}
use Rattle.json_patch.proofs.writes.write_all.Goals as goal

pub loop-write-preserved : goal.loop-write-preserved
loop-write-preserved c =
    let ws = c.args.writes.now in
    let i = c.loop-write.write-index in
    let bytes = c.loop-write.bytes in
    let spans = c.loop-write.spans.items in
    let w = c.write-item.result in
    let left = left_writes ws (i + 1) in
    let parts = next_write ws i w c.loop-write-test.true c.write-item.is in
    let inside = subst (AreInside (length bytes)) parts c.loop-write.invariant.0 in
    let new : c.put.new.bytes ≡ written bytes w.at w.bytes.items = c.put.ensures ∙ ap (written bytes w.at) c.as_slice.ensures.value in
    let long = ap length new ∙ written_length bytes w.at w.bytes.items inside.0 in
    let noted : c.push.new.self.items ≡ spans ++ record { at = w.at; end = w.at + length w.bytes.items } ∷ [] =
    c.in_ok-push.ensures.items ∙ ap (λ n. spans ++ record { at = w.at; end = w.at + n } ∷ []) (c.len.ensures ∙ w.bytes.ok.0) in (
      subst (λ n. AreInside n left) (sym long) inside.1,
      ap (put_writes left) new ∙ subst (λ l. put_writes l bytes ≡ put_writes ws c.args.bytes.now) parts c.loop-write.invariant.1,
      λ old h. subst (DifferInSpans old c.put.new.bytes) (sym noted) (subst (λ b. DifferInSpans old b (spans ++ record { at = w.at; end = w.at + length w.bytes.items } ∷ [])) (sym new)
          (noted_more old bytes spans w.at w.bytes.items inside.0 (c.loop-write.invariant.2 old h))),
    )
