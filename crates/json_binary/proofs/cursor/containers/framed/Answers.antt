use Rattle.json_binary.specs.Place.{container_of, spot_of}
use Rattle.json_binary.proofs.SearchLemmas.{framed_value}
use Rattle.json_binary.proofs.cursor.containers.framed.Goals as goal

pub returns-in-Err-clause-stands : goal.returns-in-Err-clause-stands
returns-in-Err-clause-stands c =
    λ t v. let framed = c.in-Err.ensures.only (framed_value c.args.bytes.now (spot_of c.args.spot) (container_of c.args.container) t c.requires.here v) in
    let no : ⊥ = cc in absurd no
