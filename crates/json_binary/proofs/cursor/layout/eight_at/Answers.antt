use Rattle.json_binary.proofs.WordLemmas.{in_place}
use Rattle.json_binary.proofs.cursor.layout.eight_at.Goals as goal

pub returns : goal.returns
returns c = in_place c.args.bytes.now c.args.at 8 c.read_u64.result c.requires.inside c.read_u64.ensures
