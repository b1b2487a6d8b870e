use Rattle.version_read.proofs.NextLemmas.{next_of_seek}
use Rattle.version_read.proofs.laws.seek_leads_to_a_record.Goals as goal

pub returns : goal.returns
returns c = next_of_seek
