use Rattle.std.proofs.Common.{◌≡◌, ℕ, List, ◌++◌}
use Rattle.slab.specs.Slab.{entries}
use Rattle.read_views.specs.declared.views.View.{View}
use Rattle.read_views.proofs.LimitLemmas.{IsLeastOf}
use Rattle.read_views.proofs.views.least.Given as goal

-- the least of those that were passed
abbrev pub invariant-loop-key : goal.invariant-loop-key
invariant-loop-key l = record {
  goes : (goal.iterator-loop-key).can_next l._key-iterator;
  ends : (goal.iterator-loop-key).is_finite l._key-iterator;
  passed : (es : List (ℕ × View)) × (entries l.views ≡ es ++ l._key-iterator)
      × IsLeastOf l.least es;
}
