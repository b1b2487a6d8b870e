use Rattle.std.proofs.Common.{subst}
use Rattle.json_binary.specs.Place.{container_of}
use Rattle.json_splice.specs.Spelled.{HasKeys}
use Rattle.json_splice.proofs.KeysLemmas.{no_keys_found}
use Rattle.json_splice.proofs.keys.keys_size.Goals as goal

pub returns-else-container : goal.returns-else-container
returns-else-container c =
    let d = container_of c.args.container in
    λ ks names. no_keys_found c.args.bytes.now d c.args.offset ks (subst (HasKeys c.args.bytes.now d ks) c.if-container.false names) c.requires.framed c.requires.begins
