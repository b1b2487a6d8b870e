use Rattle.store_parts.proofs.KeepLemmas.{keeps_move}
use Rattle.store_parts.proofs.steps.rest_kept.Goals as goal

pub returns : goal.returns
returns c = keeps_move
