use Rattle.std.proofs.Common.{map, drop}
use Rattle.json_patch.specs.View.{run_of}
use Rattle.json_patch.proofs.SpanLemmas.{Done}
use Rattle.json_patch.proofs.spans.runs_in_order.Given as goal

abbrev pub invariant-loop-span : goal.invariant-loop-span
invariant-loop-span l = Done l.old l.new (drop l.span-index l.spans) l.done (map run_of l.patches.items)
