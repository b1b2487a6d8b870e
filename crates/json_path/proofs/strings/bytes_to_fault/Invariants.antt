use Rattle.std.proofs.Common.{◌≡◌, ◌+◌, drop}
use Rattle.path_model.specs.PathText.{string_stop, whole}
use Rattle.json_path.specs.Parsing.{state_of}
use Rattle.json_path.proofs.strings.bytes_to_fault.Given as goal

abbrev pub invariant-loop-count : goal.invariant-loop-count
invariant-loop-count l = string_stop whole l.bytes ≡ l.count + string_stop (state_of l.state) (drop l.count l.bytes)
