use Rattle.store_parts.proofs.KeepLemmas.{keeps_take}
use Rattle.store_parts.proofs.steps.page_taken.Goals as goal

pub returns : goal.returns
returns c = keeps_take
