use Rattle.store_pages.proofs.PurgedLemmas.{purged_shown}
use Rattle.store_pages.proofs.store.purged_shows.Goals as goal

pub returns : goal.returns
returns c = purged_shown
