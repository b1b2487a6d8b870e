use Rattle.read_model.specs.OfStore.{document}
use Rattle.version_read.proofs.RecordLemmas.{records_stand, found_stands}
use Rattle.version_read.proofs.laws.record_stands.Goals as goal

pub returns : goal.returns
returns c = λ pages store is d a r found.
    found_stands pages (document store d).records (records_stand pages store is d) a r found
