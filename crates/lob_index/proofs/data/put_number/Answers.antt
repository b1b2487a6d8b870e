use Rattle.std.proofs.Common.{arith}
use Rattle.std.proofs.lemmas.Grind.{common_steps}
use Rattle.page_model.proofs.TableLemmas.{put_sets}
use Rattle.lob_index.proofs.data.put_number.Goals as goal

pub returns-clause-sets : goal.returns-clause-sets
returns-clause-sets c = put_sets c.args.bytes.now _ c.args.at c.args.width c.args.value c.requires.within c.requires.fits (grind (arith, common_steps))
