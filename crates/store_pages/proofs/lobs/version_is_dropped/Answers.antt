use Rattle.store_pages.proofs.LobMoveLemmas.{version_dropped_in}
use Rattle.store_pages.proofs.lobs.version_is_dropped.Goals as goal

pub returns : goal.returns
returns c = version_dropped_in
