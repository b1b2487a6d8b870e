use Rattle.std.proofs.Common.{◌≡◌, ◌≤◌, ◌+◌, take, filter}
use Rattle.indexmap.specs.IndexMap.{index_map_len, spare}
use Rattle.row_locks.specs.Tables.{is_of_another}
use Rattle.row_locks.proofs.others.copy_others.Given as goal

abbrev pub invariant-loop-i : goal.invariant-loop-i
invariant-loop-i l = record {
  others : l.into.entries ≡ filter (is_of_another l.s.0) (take l.i l.holders.entries);
  room : spare l.initial.into ≤ index_map_len l.into + spare l.into;
}
