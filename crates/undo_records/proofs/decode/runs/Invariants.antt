use Rattle.std.proofs.Common.{◌≡◌, ◌+◌, ◌-◌, ◌++◌, List, length}
use Rattle.std.specs.Option.{option_map}
use Rattle.store_data.specs.Store.{Run}
use Rattle.undo_model.specs.Old.{old_size}
use Rattle.undo_model.specs.Reading.{runs_in}
use Rattle.undo_records.proofs.decode.runs.Given as goal

abbrev pub invariant-loop-i : goal.invariant-loop-i
invariant-loop-i l = record {
  whole : option_map (λ (more : List Run). l.runs ++ more) (runs_in l.count (l.n - l._i) l.left l.rest) ≡ runs_in l.count l.n 100 l.bytes;
  old : old_size l.runs + l.left ≡ 100;
  many : length l.runs ≡ l._i;
}
