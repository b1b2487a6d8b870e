use Rattle.std.proofs.Common.{◌≡◌, ◌+◌, [], length, get_or, refl, map, drop, slice_range, sym, subst, ◌∙◌, rules}
use Rattle.std.proofs.lemmas.List.{drop_all, get_or_default}
use Rattle.json_patch.specs.declared.spans.Span.{Span}
use Rattle.json_patch.specs.View.{run_of}
use Rattle.json_patch.proofs.SpanLemmas.{Done, done_none, done_all, done_more, done_passed, rising_behind, inside_at, next_span}
use Rattle.json_patch.proofs.spans.runs_in_order.Goals.{then-start-span+in_ok-add_bytes, else-start-span}
use Rattle.json_patch.proofs.spans.runs_in_order.Goals as goal

abbrev nothing : Span
nothing = record { at = 0; end = 0 }

pub loop-span-init : goal.loop-span-init
loop-span-init c =
    subst (λ ps. Done c.args.old.now c.args.new.now c.args.spans.now 0 (map run_of ps)) (sym c.new-patches.ensures.items) (done_none c.args.old.now c.args.new.now c.requires.within.long c.args.spans.now c.requires.within)

pub loop-span-preserved : goal.loop-span-preserved
loop-span-preserved c =
    let old = c.args.old.now in
    let new = c.args.new.now in
    let spans = c.args.spans.now in
    let i = c.loop-span.span-index in
    let long = c.requires.within.long in
    let left = drop (i + 1) spans in
    let rs = map run_of c.loop-span.patches.items in
    let s = get_or spans i nothing in
    let is : s ≡ get_or spans i s = get_or_default spans i nothing s c.loop-span-test.true in
    let here = subst (λ l. Done old new l c.loop-span.done rs) (next_span spans i s c.loop-span-test.true is) c.loop-span.invariant in
    let inside = inside_at (length old) i spans s c.loop-span-test.true is c.requires.within.inside in
    let rising = rising_behind spans i s c.loop-span-test.true is c.requires.rising in
    elim c.if-start-span.branch [
      | then-start-span+in_ok-add_bytes w ↦
          (let more = map run_of w.add_bytes.new.patches.items in
          let begun = slice_range new c.max-start.result s.end in
          subst (λ ps. Done old new left c.if-start-span.done (map run_of ps.items)) (sym w.patches-is)
          (subst (λ n. Done old new left n more) (sym w.done-is)
          (done_more old new long s left c.loop-span.done rs inside rising here c.max-start.result begun more c.max-start.ensures w.if-start-span.true refl w.in_ok-add_bytes.ensures)))
      | else-start-span w ↦
          (subst (λ ps. Done old new left c.if-start-span.done (map run_of ps.items)) (sym w.patches-is)
          (subst (λ n. Done old new left n rs) (sym w.done-is)
          (done_passed old new long s left c.loop-span.done rs inside rising here c.max-start.result c.max-start.ensures w.if-start-span.false)))
    ]

pub returns : goal.returns
returns c =
    let end : drop c.loop-span.span-index c.args.spans.now ≡ [] = drop_all c.loop-span.span-index c.args.spans.now (search rules) in
    let rs = map run_of c.loop-span.patches.items in
    c.from_patches.ensures ∙ done_all c.args.old.now c.args.new.now c.requires.within.long c.loop-span.done rs (subst (λ l. Done c.args.old.now c.args.new.now l c.loop-span.done rs) end c.loop-span.invariant)
