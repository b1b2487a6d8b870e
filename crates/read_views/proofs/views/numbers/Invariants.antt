use Rattle.std.proofs.Common.{◌≡◌, length, take}
use Rattle.read_views.specs.Views.{ids_of}
use Rattle.read_views.proofs.views.numbers.Given as goal

abbrev pub invariant-loop-id : goal.invariant-loop-id
invariant-loop-id l = record {
  ids : l.numbers.items ≡ ids_of (take l.id-index l.ids);
  count : length l.numbers.items ≡ l.id-index;
}
