use Rattle.std.proofs.Common.{◌≡◌, ◌-◌, None}
use Rattle.binary_model.specs.Layout.{count, entries_end}
use Rattle.binary_model.specs.FirstFault.{read_keys}
use Rattle.json_binary.specs.Place.{container_of}
use Rattle.json_binary.proofs.KeyLemmas.{kept, last_of}
use Rattle.json_binary.proofs.codec.entries.read_keys.Given as goal

-- the keys so far, and then those that are left, are all
abbrev pub invariant-loop-k : goal.invariant-loop-k
invariant-loop-k l =
    let c = container_of l.container in
    kept l.keys.items (read_keys l.bytes c (l.count - l.k) l.k l.floor (last_of l.keys.items)) ≡ read_keys l.bytes c (count l.bytes c) 0 (entries_end l.bytes c) None
