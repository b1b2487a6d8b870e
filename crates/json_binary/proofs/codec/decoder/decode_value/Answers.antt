use Rattle.std.proofs.Common.{◌∙◌, sym}
use Rattle.binary_model.specs.Stands.{max_nested}
use Rattle.binary_model.proofs.reading.ReadLemmas.{ok_is}
use Rattle.binary_model.proofs.reading.StandLemmas.{value_found}
use Rattle.json_binary.specs.Place.{spot_of}
use Rattle.json_binary.proofs.codec.decoder.decode_value.Goals as goal

pub returns-in-Ok : goal.returns-in-Ok
returns-in-Ok c = λ t a v d. ok_is (sym c.in-Ok.ensures.value ∙ value_found c.args.bytes.now max_nested (spot_of c.args.spot) t (a, d, v))
