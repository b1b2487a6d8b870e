use Rattle.std.proofs.Common.{arith}
use Rattle.std.proofs.lemmas.Grind.{common_steps}
use Rattle.lob_pages.proofs.ByteLemmas.{put_sets}
use Rattle.row_dir.proofs.slots.put_number.Goals as goal

pub returns : goal.returns
returns c = put_sets c.args.bytes.now _ c.args.at c.args.width c.args.value c.requires.within c.requires.fits (grind (arith, common_steps))
