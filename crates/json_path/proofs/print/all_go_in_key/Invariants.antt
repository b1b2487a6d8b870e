use Rattle.std.proofs.Common.{◌≡◌, drop}
use Rattle.std.specs.List.{list_all}
use Rattle.path_model.specs.PathText.{goes_in_key}
use Rattle.json_path.proofs.print.all_go_in_key.Given as goal

abbrev pub invariant-loop-byte : goal.invariant-loop-byte
invariant-loop-byte l = list_all goes_in_key (drop l.byte-index l.bytes) ≡ list_all goes_in_key l.bytes
