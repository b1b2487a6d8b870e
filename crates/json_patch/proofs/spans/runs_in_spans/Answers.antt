use Rattle.std.proofs.Common.{rules, sym, subst}
use Rattle.std.specs.List.Sorted.{IsNonDecreasingBy}
use Rattle.std.proofs.lemmas.List.Sorted.{IsNonDecreasingBy-from_sort, answers_always}
use Rattle.json_patch.specs.Spans.{DifferInSpans}
use Rattle.json_patch.proofs.SpanLemmas.{differ_moved}
use Rattle.json_patch.proofs.spans.runs_in_spans.Goals as goal

pub runs_in_order-requires-clause-rising : goal.runs_in_order-requires-clause-rising
runs_in_order-requires-clause-rising c =
    subst (IsNonDecreasingBy (λ s. s.at)) (sym c.deref.ensures.value)
    (IsNonDecreasingBy-from_sort (λ s. s.at) _ (c.sort_unstable_by_key.ensures.sorted (λ s. s.at) (answers_always _ _ _ (λ f a r g h. search rules))))

pub runs_in_order-requires-clause-within : goal.runs_in_order-requires-clause-within
runs_in_order-requires-clause-within c =
    subst (DifferInSpans c.args.old.now c.args.new.now) (sym c.deref.ensures.value) (differ_moved c.args.old.now c.args.new.now c.args.spans.items _ c.sort_unstable_by_key.ensures.permutation c.requires.within)
