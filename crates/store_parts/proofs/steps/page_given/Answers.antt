use Rattle.store_parts.proofs.KeepLemmas.{keeps_give}
use Rattle.store_parts.proofs.steps.page_given.Goals as goal

pub returns : goal.returns
returns c = keeps_give
