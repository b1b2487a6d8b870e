use Rattle.json_binary.proofs.WordLemmas.{in_place}
use Rattle.json_binary.proofs.cursor.layout.two_at.Goals as goal

pub returns : goal.returns
returns c = in_place c.args.bytes.now c.args.at 2 c.read_u16.result c.requires.inside c.read_u16.ensures
