use Rattle.store_parts.proofs.KeepLemmas.{keeps_write}
use Rattle.store_parts.proofs.steps.bytes_written.Goals as goal

pub returns : goal.returns
returns c = keeps_write
