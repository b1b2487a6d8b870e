use Rattle.store_pages.proofs.LobMoveLemmas.{version_popped_in}
use Rattle.store_pages.proofs.lobs.version_is_popped.Goals as goal

pub returns : goal.returns
returns c = version_popped_in
